-- What a take of k that answered r leaves of a layer.
use Rattle.std.specs.Prelude.{◌≡◌, ℕ, ◌≤◌, Bool, false, ◌&&◌, ◌||◌, length, nat_lt}
use Rattle.content.specs.declared.contents.Content.{Ghosts as Meaning}
use Rattle.content.specs.Takes.{TakenOff, Takes}
use Rattle.layers.specs.declared.held.Held.{Held}
use Rattle.layers.specs.Held.{held_left}
use Rattle.layers.specs.Places.{Change}

module _ {C : Type 0} (m : Meaning C) (k : ℕ) (r : Bool) (old new : Held C) where
  -- It was taken through a layer, which is begun once a strip was.
  pub record Taken : Type 0 where
    pub content : Takes m k r old.content new.content
    pub begins : new.begun ≡ (old.begun || (r && nat_lt 0 k))

  -- What the layer shows, whatever change it makes, loses its first k strips too.
  pub record TakenThrough : Type 0 where
    pub strips : (f : Change) → TakenOff k r (held_left m f old) (held_left m f new)
    -- where none was taken, all are left
    pub idle : (r && nat_lt 0 k) ≡ false → m.strips new.content ≡ m.strips old.content
    pub fewer : length (m.strips new.content) ≤ length (m.strips old.content)
