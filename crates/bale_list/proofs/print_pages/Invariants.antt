use Rattle.std.proofs.Common.{length}
use Rattle.bale_list.proofs.print_pages.Given as goal

-- Each page takes a strip.
abbrev pub decreases-loop-forms : goal.decreases-loop-forms
decreases-loop-forms g l = length (g.C.Content.strips l.content)
