use Rattle.sheets.proofs.KeptPages.{keep_on_pages}
use Rattle.sheets.proofs.layered_pages.keep_on_pages_holds.Goals as goal

pub returns : goal.returns
returns c = keep_on_pages
