-- The heights of the forms to come.
use Rattle.std.specs.Prelude.{ℕ, List, [], ◌∷◌}

-- The next one, and those after it. Where none is after it, the last comes again.
abbrev pub heights_to_come : List ℕ → ℕ → ℕ × List ℕ
heights_to_come [] last = (last, [])
heights_to_come (height ∷ rest) last = (height, rest)
