-- What a call answers that checks first and then makes something.
use Rattle.std.specs.Prelude.{◌≡◌, Ok, Err, Result}

-- Where the checks pass it is a value of which P holds, and else the fault of the first that failed.
abbrev pub Answered : {T E : Type 0} → Result (Unit {0}) E → (T → Type 0) → Result T E → Type 0
Answered (Ok _) P (Ok x) = P x
Answered (Ok _) P (Err e) = ⊥
Answered (Err fault) P (Ok x) = ⊥
Answered (Err fault) P (Err e) = e ≡ fault
