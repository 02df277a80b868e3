-- A paragraph is a strip for each of its lines.
use Rattle.std.specs.Prelude.{ℕ, ◌-◌, ◌&&◌, ◌||◌, List, ◌==◌, if◌then◌else◌, nat_le}
use Rattle.std.specs.Result.{result_and}
use Rattle.content.specs.declared.ranks.Rank.{Rank}
use Rattle.content.specs.declared.ranks.Rank.TheVariants.{Free, AgainstOrphansOrWidows}
use Rattle.content.specs.declared.strips.Strip.{Strip}
use Rattle.pieces.specs.declared.faults.PieceFault.TheVariants.{Field}
use Rattle.pieces.specs.declared.paragraphs.Lines.{Lines}
use Rattle.pieces.specs.declared.piece.Piece.{Piece}
use Rattle.pieces.specs.Pieces.{piece_left}
use Rattle.pieces.specs.Ranges.{Checked, in_range}
use Rattle.pieces.specs.Strips.{bare, each_part}

-- Line i may begin a page where as many lines as the orphans stand before it, and as many as the
-- widows from it on.
-- The first line may too: nothing of the paragraph is left behind.
abbrev pub line_rank : ℕ → ℕ → ℕ → ℕ → Rank
line_rank lines orphans widows i =
    if i == 0 || (nat_le orphans i && nat_le widows (lines - i))
    then Free
    else AgainstOrphansOrWidows

abbrev pub line_strip : ℕ → ℕ → ℕ → ℕ → ℕ → ℕ → Strip
line_strip block tall lines orphans widows i =
    bare block i tall 0 (line_rank lines orphans widows i)

abbrev pub paragraph_strips : ℕ → ℕ → ℕ → ℕ → ℕ → List Strip
paragraph_strips block tall lines orphans widows =
    each_part (line_strip block tall lines orphans widows) lines

abbrev pub paragraph_checked : ℕ → ℕ → ℕ → ℕ → ℕ → Checked
paragraph_checked block tall lines orphans widows =
    result_and (in_range 1 65535 tall (Field block 1)) (
    result_and (in_range 1 4096 lines (Field block 2)) (
    result_and (in_range 1 255 orphans (Field block 3))
    (in_range 1 255 widows (Field block 4))))

abbrev pub line_of : Lines → ℕ → Strip
line_of p = line_strip p.node p.height p.count p.orphans p.widows

abbrev pub lines_strips : Lines → List Strip
lines_strips p = paragraph_strips p.node p.height p.count p.orphans p.widows

-- What is left of a paragraph.
abbrev pub paragraph_left : Piece Lines → List Strip
paragraph_left = piece_left lines_strips
