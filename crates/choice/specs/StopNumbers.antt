-- What the code holds of a stop.
use Rattle.choice.specs.Choice.{Stop}
use Rattle.choice.specs.declared.stops.Stop.{Stop as Held}

-- Its strips, rank and height.
abbrev pub numbers_of : Held → Stop
numbers_of s = (s.strips, s.rank, s.height)
