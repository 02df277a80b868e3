-- The rows of a group, and what is checked of them.
use Rattle.std.specs.Prelude.{ℕ, ◌+◌, ◌≤◌, List, [], ◌∷◌, length, Ok, All, slice_index_or}
use Rattle.std.specs.Result.{result_and}
use Rattle.content.specs.declared.ranks.Rank.TheVariants.{Free}
use Rattle.content.specs.declared.strips.Strip.{Strip}
use Rattle.pieces.specs.declared.faults.PieceFault.TheVariants.{Field, RowHeight, RowBales}
use Rattle.pieces.specs.declared.rows.Row.{Row}
use Rattle.pieces.specs.Ranges.{Checked, in_range}
use Rattle.pieces.specs.Strips.{bare, each_part}

-- What `slice_index_or` reads past the end of a list of rows.
abbrev pub no_row : Row
no_row = record { height = 0; bales = 0 }

abbrev pub RowFair : Row → Type 0
RowFair row = (1 ≤ row.height) × (row.height ≤ 65535) × (row.bales ≤ 10000)

-- Rows that a group may hold.
abbrev pub RowsGood : List Row → Type 0
RowsGood rows = (1 ≤ length rows) × (length rows ≤ 4096) × All RowFair rows

-- The height is checked before the bales.
abbrev pub row_checked : ℕ → ℕ → Row → Checked
row_checked block i row =
    result_and (in_range 1 65535 row.height (RowHeight block i))
    (in_range 0 10000 row.bales (RowBales block i))

-- Rows in turn, the first of them row i. That it is Ok where all rows are fair, and only there,
-- is shown where it is computed.
abbrev pub each_row : ℕ → ℕ → List Row → Checked
each_row block i [] = Ok tt
each_row block i (row ∷ rows) = result_and (row_checked block i row) (each_row block (i + 1) rows)

abbrev pub rows_checked : ℕ → List Row → Checked
rows_checked block rows =
    result_and (in_range 1 4096 (length rows) (Field block 1)) (each_row block 0 rows)

abbrev pub strip_of : ℕ → ℕ → Row → Strip
strip_of block i row = bare block i row.height row.bales Free

abbrev pub row_strip : ℕ → List Row → ℕ → Strip
row_strip block rows i = strip_of block i (slice_index_or rows i no_row)

abbrev pub row_strips : ℕ → List Row → List Strip
row_strips block rows = each_part (row_strip block rows) (length rows)
