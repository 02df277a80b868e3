-- The next page of what is left, on a form of some height.
use Rattle.std.specs.Prelude.{ℕ, List, take}
use Rattle.content.specs.declared.strips.Strip.{Strip}
use Rattle.content.specs.Strips.{bales_of}
use Rattle.choice.specs.Choice.{choice}
use Rattle.sheets.specs.declared.pages.Page.{Page}

abbrev pub page_of : ℕ → List Strip → Page
page_of form xs = record { strips = (choice form xs).0; rank = (choice form xs).1; height = (choice form xs).2; bales = bales_of (take (choice form xs).0 xs) }
