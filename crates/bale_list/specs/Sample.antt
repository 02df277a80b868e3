-- The sample list: tag rows under a heading that is repeated above them on each page, and below them a remark that is
-- kept together.
use Rattle.std.specs.Prelude.{ℕ, false, List, [], ◌∷◌, ◌++◌}
use Rattle.content.specs.declared.contents.Content.{Ghosts as Meaning}
use Rattle.content.specs.declared.strips.Strip.{Strip}
use Rattle.pieces.specs.declared.paragraphs.Lines.{Lines}
use Rattle.pieces.specs.declared.piece.Piece.{Piece}
use Rattle.pieces.specs.declared.rows.Row.{Row}
use Rattle.pieces.specs.Groups.{RowGroup, rows_strips}
use Rattle.pieces.specs.Paragraphs.{lines_strips, paragraph_strips}
use Rattle.pieces.specs.Pieces.{piece_content, piece_reach}
use Rattle.pieces.specs.Rows.{row_strips}
use Rattle.layers.specs.declared.joints.BreakWord.TheVariants.{Auto}
use Rattle.layers.specs.declared.joints.Joint.{Joint}
use Rattle.layers.specs.declared.padding.DecorationBreak.TheVariants.{Clone}
use Rattle.layers.specs.declared.padding.Padding.{Padding}
use Rattle.layers.specs.declared.pairs.Pair.{Pair}
use Rattle.layers.specs.Boxes.{PaddingBox, box_left, box_reach, padded}
use Rattle.layers.specs.Keeps.{Keep, keep_left, kept}
use Rattle.layers.specs.Layers.{content_of}
use Rattle.layers.specs.Pairs.{joined, pair_left}
use Rattle.layers.specs.Places.{by_place}

abbrev tag : ℕ → ℕ → Row
tag tall count = record { height = tall; bales = count }

abbrev sample_tags : List Row
sample_tags =
    tag 240 1 ∷ tag 240 1 ∷ tag 480 1 ∷ tag 240 2 ∷ tag 240 1 ∷ tag 240 1
    ∷ tag 240 2 ∷ tag 480 1 ∷ tag 240 1 ∷ tag 240 1 ∷ tag 240 1 ∷ tag 240 1 ∷ []

-- A heading of 120: padding above the rows, repeated on each page of them.
abbrev sample_heading : Padding
sample_heading = record { top = 120; bottom = 0; at_breaks = Clone }

-- The rows under it.
abbrev pub sample_rows : List Strip
sample_rows = by_place (padded sample_heading) false (row_strips 0 sample_tags)

-- Five lines of 200 that would rather stay on one page. The keep asks for more than the orphans and widows, 2 each.
abbrev pub sample_remark : List Strip
sample_remark = by_place kept false (paragraph_strips 1 200 5 2 2)

-- Nothing is asked of the break before the remark, and 60 stands above it.
abbrev sample_joint : Joint
sample_joint = record { word = Auto; gap = 60 }

-- The rows and the remark below them.
abbrev pub sample_list : List Strip
sample_list = sample_rows ++ by_place (joined sample_joint) false sample_remark

-- What is left of the rows under their heading, of the remark, and of both as one list.
abbrev rows_content : Meaning (PaddingBox RowGroup)
rows_content = record { strips = box_left (piece_content rows_strips); reach = box_reach (piece_content rows_strips) }

abbrev remark_content : Meaning (Keep (Piece Lines))
remark_content = record { strips = keep_left (piece_content lines_strips); reach = λ k. piece_reach (content_of k) }

abbrev pub rows_left : PaddingBox RowGroup → List Strip
rows_left = rows_content.strips

abbrev pub remark_left : Keep (Piece Lines) → List Strip
remark_left = remark_content.strips

abbrev pub list_left : Pair (PaddingBox RowGroup) (Keep (Piece Lines)) → List Strip
list_left = pair_left rows_content remark_content
