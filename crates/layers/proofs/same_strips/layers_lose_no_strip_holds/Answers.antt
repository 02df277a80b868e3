use Rattle.layers.proofs.SameStrips.{layers_lose_no_strip}
use Rattle.layers.proofs.same_strips.layers_lose_no_strip_holds.Goals as goal

pub returns : goal.returns
returns c = layers_lose_no_strip
