-- A picture is one strip.
use Rattle.std.specs.Prelude.{ℕ, List, [], ◌∷◌}
use Rattle.content.specs.declared.ranks.Rank.TheVariants.{Free}
use Rattle.content.specs.declared.strips.Strip.{Strip}
use Rattle.pieces.specs.declared.faults.PieceFault.TheVariants.{Field}
use Rattle.pieces.specs.declared.piece.Piece.{Piece}
use Rattle.pieces.specs.declared.pictures.Image.{Image}
use Rattle.pieces.specs.Pieces.{piece_left}
use Rattle.pieces.specs.Ranges.{Checked, in_range}
use Rattle.pieces.specs.Strips.{bare}

abbrev pub picture_strips : ℕ → ℕ → List Strip
picture_strips block tall = bare block 0 tall 0 Free ∷ []

abbrev pub picture_checked : ℕ → ℕ → Checked
picture_checked block tall = in_range 1 65535 tall (Field block 1)

abbrev pub image_strips : Image → List Strip
image_strips p = picture_strips p.node p.height

-- What is left of a picture.
abbrev pub picture_left : Piece Image → List Strip
picture_left = piece_left image_strips
