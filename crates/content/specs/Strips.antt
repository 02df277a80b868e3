-- Strips in lists.
use Rattle.std.specs.Prelude.{ℕ, List, sum_by}
use Rattle.content.specs.declared.strips.Strip.{Strip}
use Rattle.content.specs.declared.ranks.Rank.TheVariants.{Free}

-- What `slice_index_or` reads past the end of a list of strips.
abbrev pub blank : Strip
blank = record { node = 0; part = 0; height = 0; lead = 0; head = 0; tail = 0; bales = 0; rank = Free }

-- The bales of a list of strips.
abbrev pub bales_of : List Strip → ℕ
bales_of xs = sum_by (λ s. s.bales) xs
