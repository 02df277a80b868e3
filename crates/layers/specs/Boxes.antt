-- A box pads its content above and below.
use Rattle.std.specs.Prelude.{◌≡◌, ℕ, ◌+◌, Bool, true, false, not, ◌&&◌, List, Ok, Err, Result, if◌then◌else◌, nat_le}
use Rattle.content.specs.declared.contents.Content.{Ghosts as Meaning}
use Rattle.content.specs.declared.strips.Strip.{Strip}
use Rattle.layers.specs.declared.faults.LayerFault.{LayerFault}
use Rattle.layers.specs.declared.faults.LayerFault.TheVariants.{Begun, BoxLimit}
use Rattle.layers.specs.declared.layer.Layer.{Layer}
use Rattle.layers.specs.declared.padding.DecorationBreak.{DecorationBreak}
use Rattle.layers.specs.declared.padding.DecorationBreak.TheVariants.{Slice, Clone}
use Rattle.layers.specs.declared.padding.Padding.{Padding}
use Rattle.layers.specs.Held.{held_left}
use Rattle.layers.specs.Layers.{content_of, effect_of, is_begun}
use Rattle.layers.specs.Places.{Change, by_place}

-- Cut at a page end, or repeated on each page.
abbrev pub repeats : DecorationBreak → Bool
repeats Slice = false
repeats Clone = true

-- The first strip gains the top in height and the last the bottom. Where padding is repeated, every other strip
-- gains the top in head, and every strip but the last the bottom in tail.
abbrev pub padded : Padding → Change
padded by first last s = record {
  node = s.node;
  part = s.part;
  height = s.height + (if first then by.top else 0) + (if last then by.bottom else 0);
  lead = s.lead;
  head = s.head + (if repeats by.at_breaks && not first then by.top else 0);
  tail = s.tail + (if repeats by.at_breaks && not last then by.bottom else 0);
  bales = s.bales;
  rank = s.rank;
}

-- No padding: what a box starts with.
abbrev pub bare_padding : Padding
bare_padding = record { top = 0; bottom = 0; at_breaks = Slice }

-- Whether padding is within the limits, over a content of some reach.
abbrev pub padding_fits : ℕ → Padding → Bool
padding_fits reach by = nat_le by.top 4095 && nat_le by.bottom 4095 && nat_le (reach + by.top + by.bottom) 200000

-- Past the limits a box means what it did at its start.
abbrev pub padding_over : ℕ → Padding → Padding
padding_over reach by = if padding_fits reach by then by else bare_padding

abbrev pub padded_reach : ℕ → Padding → ℕ
padded_reach reach by = reach + by.top + by.bottom

-- The alias of src/, which antt has no name for.
abbrev pub PaddingBox : Type 0 → Type 0
PaddingBox C = Layer Padding C

-- The padding that was set last, within the limits or not.
abbrev pub padding_of : {C : Type 0} → PaddingBox C → Padding
padding_of b = effect_of b

-- What is left of a box, and its reach, by its content's strips and reach.
module _ {C : Type 0} (m : Meaning C) where
  abbrev pub box_padding : PaddingBox C → Padding
  box_padding b = padding_over (m.reach (content_of b)) (padding_of b)

  abbrev pub box_left : PaddingBox C → List Strip
  box_left b = held_left m (padded (box_padding b)) b.held

  abbrev pub box_reach : PaddingBox C → ℕ
  box_reach b = padded_reach (m.reach (content_of b)) (box_padding b)

  -- A box that was set: no strip was taken through it, and its padding is within the limits.
  pub record PaddedBy (by : Padding) (before after : PaddingBox C) : Type 0 where
    pub held : after.held ≡ before.held
    pub padding : padding_of after ≡ by
    pub left : box_left after ≡ by_place (padded by) false (m.strips (content_of before))
    pub reaches : box_reach after ≡ padded_reach (m.reach (content_of before)) by

-- A box is set before any strip is taken through it, and within the limits.
abbrev pub box_checked : Bool → ℕ → Padding → Result (Unit {0}) LayerFault
box_checked begun reach by = if begun then Err Begun else if padding_fits reach by then Ok tt else Err BoxLimit

-- What setting it to some padding comes to.
abbrev pub set_checked : {C : Type 0} → Meaning C → PaddingBox C → Padding → Result (Unit {0}) LayerFault
set_checked m b = box_checked (is_begun b) (m.reach (content_of b))
