-- A call that checks before it changes a layer.
use Rattle.std.specs.Prelude.{◌≡◌, Ok, Err, Result}

-- Where the checks pass with x it is accepted, and P holds of x. Else it answers the fault of the first that failed,
-- and the layer is as it was.
abbrev pub Settled : {L X E : Type 0} → L → L → Result X E → (X → Type 0) → Result (Unit {0}) E → Type 0
Settled before after (Ok x) P (Ok _) = P x
Settled before after (Ok x) P (Err e) = ⊥
Settled before after (Err fault) P (Ok _) = ⊥
Settled before after (Err fault) P (Err e) = (e ≡ fault) × (after ≡ before)
