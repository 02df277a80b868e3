-- Form heights as they are written on the command line.
use Rattle.std.specs.Prelude.{◌≡◌, ℕ, ◌≤◌, List, ◌++◌, Ok, Err, codes, Result}
use Rattle.std.specs.Str.Parse.{IsNumeral, without_leading_plus, digits_value}
use Rattle.sheets.specs.declared.heights.NoFormHeight.{NoFormHeight}

-- The text is digits, perhaps after a plus sign, and they write h.
abbrev pub Writes : List ℕ → ℕ → Type 0
Writes text h = IsNumeral 10 (without_leading_plus text) × (digits_value 10 (without_leading_plus text) ≡ h)

abbrev pub Height : ℕ → Type 0
Height h = (1 ≤ h) × (h ≤ 65535)

-- What is said of a text that is none.
abbrev pub no_height : List ℕ → List ℕ
no_height text = codes "'" ++ (text ++ codes "' is no form height: give a whole number from 1 to 65535")

-- A text that writes a height is read as that height, and any other is refused by name.
abbrev pub FormHeight : List ℕ → Result ℕ NoFormHeight → Type 0
FormHeight text (Ok h) = Writes text h × Height h
FormHeight text (Err e) = ((h : ℕ) → Writes text h → Height h → ⊥) × (e.0.now ≡ text)
