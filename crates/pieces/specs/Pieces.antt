-- What is left of a piece when strips were taken of it.
use Rattle.std.specs.Prelude.{◌≡◌, ℕ, List, drop}
use Rattle.content.specs.declared.contents.Content.{Ghosts as Meaning}
use Rattle.content.specs.declared.strips.Strip.{Strip}
use Rattle.content.specs.Laws.{Lawful}
use Rattle.content.proofs.Lawful.{Lawful-drop}
use Rattle.pieces.specs.declared.piece.Piece.{Piece}

-- No number of a piece's strip passes this.
abbrev pub piece_reach : {X : Type 0} → X → ℕ
piece_reach _ = 65535

module _ {S : Type 0} where
  -- what a piece is cut from
  abbrev pub source_of : Piece S → S
  source_of p = p.source

  module _ (strips : S → List Strip) where
    abbrev pub piece_left : Piece S → List Strip
    piece_left p = drop p.taken (strips p.source)

    -- A piece as a content.
    abbrev pub piece_content : Meaning (Piece S)
    piece_content = record { strips = piece_left; reach = piece_reach }

    -- Nothing is taken yet.
    abbrev pub IsWhole : S → Piece S → Type 0
    IsWhole s p = (source_of p ≡ s) × (piece_left p ≡ strips s)

    pub Lawful-piece_left : ((s : S) → Lawful (strips s) 65535) → (p : Piece S) → Lawful (piece_left p) (piece_reach p)
    Lawful-piece_left lawful p = Lawful-drop p.taken (strips p.source) 65535 (lawful p.source)
