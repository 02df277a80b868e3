-- What each fault of a piece says, and its number, layer, node and place.
use Rattle.std.specs.Prelude.{ℕ, List, ◌++◌, codes, decimal}
use Rattle.content.specs.declared.refusals.Refusal.{Refusal}
use Rattle.pieces.specs.declared.faults.PieceFault.{PieceFault}
use Rattle.pieces.specs.declared.faults.PieceFault.TheVariants.{Field, RowHeight, RowBales, Memory}

abbrev pub fault_words : PieceFault → List ℕ
fault_words (Field block field) = codes "block " ++ (decimal block ++ (codes ": field " ++ (decimal field ++ codes " is out of range")))
fault_words (RowHeight block row) = codes "block " ++ (decimal block ++ (codes ": the height of row " ++ (decimal row ++ codes " is out of range")))
fault_words (RowBales block row) = codes "block " ++ (decimal block ++ (codes ": the bales of row " ++ (decimal row ++ codes " are out of range")))
fault_words (Memory block) = codes "block " ++ (decimal block ++ codes ": no memory for its rows")

abbrev refused : ℕ → ℕ → ℕ → Refusal
refused check block spot = record { number = check; layer = 1; node = block; place = spot }

abbrev pub piece_refusal : PieceFault → Refusal
piece_refusal (Field block field) = refused 9 block field
piece_refusal (RowHeight block row) = refused 9 block row
piece_refusal (RowBales block row) = refused 9 block row
piece_refusal (Memory block) = refused 255 block 0
