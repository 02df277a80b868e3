-- Pages worked out by hand, to hold the definitions to: with heads, tails, leads, and breaks of every rank.
use Rattle.std.specs.Prelude.{◌≡◌, ℕ, List, [], ◌∷◌, drop}
use Rattle.content.specs.declared.ranks.Rank.{Rank}
use Rattle.content.specs.declared.ranks.Rank.TheVariants.{Forced, Free, AgainstOrphansOrWidows, AgainstAvoid}
use Rattle.content.specs.declared.strips.Strip.{Strip}
use Rattle.choice.specs.Choice.{choice}

-- A strip by its height, lead, head, tail and rank.
abbrev strip : ℕ → ℕ → ℕ → ℕ → Rank → Strip
strip tall before first last grade = record { node = 0; part = 0; height = tall; lead = before; head = first; tail = last; bales = 0; rank = grade }

abbrev plain : ℕ → Rank → Strip
plain tall grade = strip tall 0 0 0 grade

-- Four lines of 100 in a box of 50 above and 30 below that is repeated on each page.
abbrev repeated_box : List Strip
repeated_box = strip 150 0 0 30 Free ∷ strip 100 0 50 30 Free ∷ strip 100 0 50 30 Free ∷ strip 130 0 50 0 Free ∷ []

-- The same in a box that is cut.
abbrev cut_box : List Strip
cut_box = plain 150 Free ∷ plain 100 Free ∷ plain 100 Free ∷ plain 130 Free ∷ []

-- Two pictures of 100 with a gap of 40, and what the break between them is.
abbrev pictures : Rank → List Strip
pictures between = plain 100 Free ∷ strip 100 40 0 0 between ∷ []

-- A picture of 100, then three lines of 100 that are kept together.
abbrev kept_lines : List Strip
kept_lines = plain 100 Free ∷ plain 100 Free ∷ plain 100 AgainstAvoid ∷ plain 100 AgainstAvoid ∷ []

-- Two lines of 100 that want two on a page, and a picture of 500 that wants to stay with them.
abbrev lines_and_picture : List Strip
lines_and_picture = plain 100 Free ∷ plain 100 AgainstOrphansOrWidows ∷ plain 500 AgainstAvoid ∷ []

pub record WorkedPages : Type 0 where
  pub repeated : choice 380 repeated_box ≡ (3, Free, 380)
  pub repeated_rest : choice 380 (drop 3 repeated_box) ≡ (1, Free, 180)
  -- the tail counts: three strips without it would measure 350
  pub repeated_lower : choice 370 repeated_box ≡ (2, Free, 280)
  pub cut : choice 380 cut_box ≡ (3, Free, 350)
  pub cut_rest : choice 380 (drop 3 cut_box) ≡ (1, Free, 130)
  pub gap_fits : choice 240 (pictures Free) ≡ (2, Free, 240)
  pub gap_passes : choice 239 (pictures Free) ≡ (1, Free, 100)
  -- the gap is dropped at the break
  pub gap_dropped : choice 239 (drop 1 (pictures Free)) ≡ (1, Free, 100)
  pub forced : choice 1000 (pictures Forced) ≡ (1, Forced, 100)
  pub forced_too_low : choice 99 (pictures Forced) ≡ (1, Forced, 100)
  pub keep : choice 350 kept_lines ≡ (1, Free, 100)
  pub avoid : choice 550 lines_and_picture ≡ (1, AgainstOrphansOrWidows, 100)
  pub nothing : choice 1000 [] ≡ (0, Free, 0)
