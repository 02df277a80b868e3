-- A layer keeps the laws of a content, where its effect keeps them.
use Rattle.std.specs.Prelude.{ℕ, ◌≤◌}
use Rattle.content.specs.declared.contents.Content.{Ghosts as Meaning}
use Rattle.content.specs.Laws.{Lawful}
use Rattle.layers.specs.declared.layer.Effect.{Ghosts as Effect}
use Rattle.layers.specs.declared.layer.Layer.{Layer}
use Rattle.layers.specs.Layers.{change_of, content_of, effect_of, is_begun, layer_left, layer_reach}
use Rattle.layers.specs.LawfulChange.{LawfulChange, Lawful-by_place}

module _ {E C : Type 0} (e : Effect E) (m : Meaning C) where
  pub Lawful-layer_left : ((by : E) (reach : ℕ) → LawfulChange (e.change by reach) reach (e.reach by reach)) → ((by : E) (reach : ℕ) → reach ≤ 200000 → e.reach by reach ≤ 200000) → ((c : C) → Lawful (m.strips c) (m.reach c)) → (l : Layer E C) → Lawful (layer_left e m l) (layer_reach e m l)
  Lawful-layer_left keeps bounded lawful l =
      let held = content_of l in
      let by = effect_of l in
      let low = m.reach held in
      Lawful-by_place (change_of e m l) low (layer_reach e m l) (keeps by low) (is_begun l) (m.strips held) (bounded by low (lawful held).bounded) (lawful held)
