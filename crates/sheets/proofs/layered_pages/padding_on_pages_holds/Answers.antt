use Rattle.sheets.proofs.PaddedPages.{padded_height, padded_rank}
use Rattle.sheets.proofs.layered_pages.padding_on_pages_holds.Goals as goal

pub returns : goal.returns
returns c = record { heights = padded_height; ranks = padded_rank }
