-- The strips of a piece: they have no lead, head or tail.
use Rattle.std.specs.Prelude.{ℕ, List, map}
use Rattle.std.specs.List.{range_with_len}
use Rattle.content.specs.declared.ranks.Rank.{Rank}
use Rattle.content.specs.declared.strips.Strip.{Strip}

-- Part i of block n, with its height, bales and rank.
abbrev pub bare : ℕ → ℕ → ℕ → ℕ → Rank → Strip
bare block i tall tags grade = record {
  node = block;
  part = i;
  height = tall;
  lead = 0;
  head = 0;
  tail = 0;
  bales = tags;
  rank = grade;
}

-- A strip for each part, from 0.
abbrev pub each_part : (ℕ → Strip) → ℕ → List Strip
each_part f n = map f (range_with_len 0 n)
