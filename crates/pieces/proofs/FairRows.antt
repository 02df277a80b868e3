-- The checks of rows pass where every row is fair, and only there.
use Rattle.std.proofs.Common.{◌≡◌, ℕ, ◌+◌, ◌<◌, List, [], ◌∷◌, length, get_or, drop, refl, arith}
use Rattle.std.specs.Prelude.{◌↔◌, All, IsOk}
use Rattle.std.specs.Result.{result_and}
use Rattle.std.proofs.lemmas.List.{at_drop_more}
use Rattle.std.proofs.lemmas.List.Elements.{All-nil, All-cons, All-head, All-tail}
use Rattle.std.proofs.lemmas.Bool.Decides.{nat_tests}
use Rattle.pieces.specs.declared.rows.Row.{Row}
use Rattle.pieces.specs.Ranges.{Checked}
use Rattle.pieces.specs.Rows.{no_row, RowFair, row_checked, each_row}

IsOk-row_checked : (block i : ℕ) (row : Row) → IsOk (row_checked block i row) ↔ RowFair row
IsOk-row_checked block i row = grind (arith, nat_tests)

pub IsOk-each_row : (block i : ℕ) (rows : List Row) → IsOk (each_row block i rows) ↔ All RowFair rows
IsOk-each_row block i [] = (λ _. All-nil RowFair, λ _. refl)
IsOk-each_row block i (row ∷ rows) =
    let first = IsOk-row_checked block i row in
    let others = IsOk-each_row block (i + 1) rows in (
      λ e. All-cons RowFair row rows (grind arith) (grind arith),
      λ all. let fair = All-head RowFair row rows all in
          let rest = others.1 (All-tail RowFair row rows all) in
          grind arith,
    )

-- A loop over the rows goes on from row i where that passed, and ends there else.
pub row_passed :
    (block : ℕ) (rows : List Row) (i : ℕ) (r : Checked)
    → i < length rows
    → r ≡ row_checked block i (get_or rows i no_row)
    → each_row block i (drop i rows) ≡ result_and r (each_row block (i + 1) (drop (i + 1) rows))
row_passed block rows i r h e = rw e (at_drop_more (each_row block i) rows i no_row h)

pub ruleset fair_rows = (IsOk-each_row, row_passed)
