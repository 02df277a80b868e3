-- Strips that change by where they stand.
use Rattle.std.specs.Prelude.{ℕ, ◌+◌, Bool, true, not, ◌&&◌, List, [], ◌∷◌, length, ◌==◌}
use Rattle.content.specs.declared.strips.Strip.{Strip}

-- What a layer makes of a strip when it is told whether that is the first strip and whether it is the last.
abbrev pub Change : Type 0
Change = Bool → Bool → Strip → Strip

-- What it makes of a list. Once the list is begun, a strip of it having been taken, none that is left is the first.
abbrev pub by_place : Change → Bool → List Strip → List Strip
by_place f begun [] = []
by_place f begun (s ∷ xs) = f (not begun) (length xs == 0) s ∷ by_place f true xs

-- Whether strip i of those left is the first.
abbrev pub first_at : Bool → ℕ → Bool
first_at begun i = not begun && i == 0

-- Whether strip i of n left is the last.
abbrev pub last_at : ℕ → ℕ → Bool
last_at n i = i + 1 == n
