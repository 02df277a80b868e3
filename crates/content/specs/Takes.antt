-- What a take of k that answered r leaves of a content: what the trait says of it, as one fact.
use Rattle.std.specs.Prelude.{◌≡◌, ℕ, Bool, List, length, drop, if◌then◌else◌, nat_le}
use Rattle.content.specs.declared.contents.Content.{Ghosts as Meaning}
use Rattle.content.specs.declared.strips.Strip.{Strip}

-- It found the strips xs and left xs'. The first k are gone, or all are left where there are fewer.
pub record TakenOff (k : ℕ) (r : Bool) (xs xs' : List Strip) : Type 0 where
  pub done : r ≡ nat_le k (length xs)
  pub rest : xs' ≡ (if r then drop k xs else xs)

pub record Takes {X : Type 0} (m : Meaning X) (k : ℕ) (r : Bool) (old new : X) : Type 0 where
  pub strips : TakenOff k r (m.strips old) (m.strips new)
  pub reach : m.reach new ≡ m.reach old
