-- What a check answers.
-- Several in their order are joined by `result_and`: the first that fails is the answer.
use Rattle.std.specs.Prelude.{ℕ, ◌&&◌, Ok, Err, Result, if◌then◌else◌, nat_le}
use Rattle.pieces.specs.declared.faults.PieceFault.{PieceFault}

abbrev pub Checked : Type 0
Checked = Result (Unit {0}) PieceFault

-- A number from low to high, or the fault.
abbrev pub in_range : ℕ → ℕ → ℕ → PieceFault → Checked
in_range low high n fault = if nat_le low n && nat_le n high then Ok tt else Err fault
