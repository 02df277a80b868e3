-- A layer makes a change to the strips of its content.
use Rattle.std.specs.Prelude.{◌≡◌, ℕ, Bool, false, List}
use Rattle.content.specs.declared.contents.Content.{Ghosts as Meaning}
use Rattle.content.specs.declared.strips.Strip.{Strip}
use Rattle.layers.specs.declared.layer.Effect.{Ghosts as Effect}
use Rattle.layers.specs.declared.layer.Layer.{Layer}
use Rattle.layers.specs.Held.{held_left}
use Rattle.layers.specs.Places.{Change}
use Rattle.layers.specs.Takes.{Taken}

module _ {E C : Type 0} where
  abbrev pub content_of : Layer E C → C
  content_of l = l.held.content

  -- Whether a strip was taken through it.
  abbrev pub is_begun : Layer E C → Bool
  is_begun l = l.held.begun

  -- What it does to the strips of its content.
  abbrev pub effect_of : Layer E C → E
  effect_of l = l.effect

  -- A layer round this content, through which no strip was taken.
  pub record IsAround (content : C) (l : Layer E C) : Type 0 where
    pub held : content_of l ≡ content
    pub whole : is_begun l ≡ false

  -- What a take of k that answered r leaves of a layer beside its list.
  pub record TakenBelow (m : Meaning C) (k : ℕ) (r : Bool) (old new : Layer E C) : Type 0 where
    pub below : Taken m k r old.held new.held
    pub effect : effect_of new ≡ effect_of old

  -- What is left of a layer, and its reach, by what its content's strips and reach are.
  module _ (e : Effect E) (m : Meaning C) where
    abbrev pub change_of : Layer E C → Change
    change_of l = e.change (effect_of l) (m.reach (content_of l))

    abbrev pub layer_left : Layer E C → List Strip
    layer_left l = held_left m (change_of l) l.held

    abbrev pub layer_reach : Layer E C → ℕ
    layer_reach l = e.reach (effect_of l) (m.reach (content_of l))

    -- A layer as a content.
    abbrev pub layer_content : Meaning (Layer E C)
    layer_content = record { strips = layer_left; reach = layer_reach }
