-- A content of even lines.
use Rattle.std.specs.Prelude.{ℕ, List, replicate}
use Rattle.content.specs.declared.ranks.Rank.TheVariants.{Free}
use Rattle.content.specs.declared.strips.Strip.{Strip}

abbrev pub even_line : Strip
even_line = record { node = 0; part = 0; height = 100; lead = 0; head = 0; tail = 0; bales = 0; rank = Free }

abbrev pub even_lines : ℕ → List Strip
even_lines n = replicate n even_line
