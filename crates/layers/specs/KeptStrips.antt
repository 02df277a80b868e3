-- A keep changes nothing but ranks, so it keeps the laws.
use Rattle.std.specs.Prelude.{ℕ}
use Rattle.layers.specs.Keeps.{kept}
use Rattle.layers.specs.LawfulChange.{LawfulChange}

pub kept_lawful : (reach : ℕ) → LawfulChange kept reach reach
kept_lawful reach = record {
  within = λ first last s w. record {
    some_height = w.some_height;
    height_within = w.height_within;
    lead_within = w.lead_within;
    head_within = w.head_within;
    tail_within = w.tail_within;
    bales_within = w.bales_within;
  };
  gives_way = λ first last s t h. h;
  no_tail = λ first s h. h;
}
