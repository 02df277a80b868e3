use Rattle.sheets.proofs.JoinedPages.{joint_at_stops}
use Rattle.sheets.proofs.layered_pages.joint_on_pages_holds.Goals as goal

pub returns : goal.returns
returns c = λ by xs begun ys. joint_at_stops by begun xs ys
