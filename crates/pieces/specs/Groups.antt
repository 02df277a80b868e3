-- A group is a strip for each of its rows.
use Rattle.std.specs.Prelude.{◌≡◌, ℕ, ◌<◌, List, length, Ok, Err, vec_items, vec_capacity}
use Rattle.content.specs.declared.strips.Strip.{Strip}
use Rattle.pieces.specs.declared.faults.PieceFault.TheVariants.{Memory}
use Rattle.pieces.specs.declared.groups.Rows.{Rows}
use Rattle.pieces.specs.declared.piece.Piece.{Piece}
use Rattle.pieces.specs.declared.rows.Row.{Row}
use Rattle.pieces.specs.Pieces.{piece_left}
use Rattle.pieces.specs.Ranges.{Checked}
use Rattle.pieces.specs.Rows.{row_strips}

-- A `RowGroup`: antt has no name for an alias.
abbrev pub RowGroup : Type 0
RowGroup = Piece Rows

abbrev pub node_of : RowGroup → ℕ
node_of g = g.source.node

abbrev pub rows_of : RowGroup → List Row
rows_of g = vec_items g.source.rows

-- How many rows a group can hold without asking for memory.
abbrev pub room_of : RowGroup → ℕ
room_of g = vec_capacity g.source.rows

abbrev pub rows_strips : Rows → List Strip
rows_strips r = row_strips r.node (vec_items r.rows)

-- What is left of a group.
abbrev pub group_left : RowGroup → List Strip
group_left = piece_left rows_strips

abbrev pub AsItWas : RowGroup → RowGroup → Type 0
AsItWas before after =
    (node_of after ≡ node_of before)
    × (rows_of after ≡ rows_of before)
    × (group_left after ≡ group_left before)

-- Good rows fill the group, or there was neither room nor memory for them.
-- Bad rows are refused by their checks.
abbrev pub Filled : RowGroup → RowGroup → List Row → Checked → Checked → Type 0
Filled before after rows (Ok _) (Ok _) =
    (group_left after ≡ row_strips (node_of before) rows)
    × (node_of after ≡ node_of before)
    × (rows_of after ≡ rows)
Filled before after rows (Ok _) (Err e) =
    (e ≡ Memory (node_of before))
    × (room_of before < length rows)
    × AsItWas before after
Filled before after rows (Err fault) (Ok _) = ⊥
Filled before after rows (Err fault) (Err e) = (e ≡ fault) × AsItWas before after
