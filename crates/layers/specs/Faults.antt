-- What each fault of a layer says, and its number, layer, node and place.
use Rattle.std.specs.Prelude.{ℕ, List, codes}
use Rattle.content.specs.declared.refusals.Refusal.{Refusal}
use Rattle.layers.specs.declared.faults.LayerFault.{LayerFault}
use Rattle.layers.specs.declared.faults.LayerFault.TheVariants.{Begun, BoxLimit, PairLimit}

abbrev pub fault_words : LayerFault → List ℕ
fault_words Begun = codes "a strip was already taken through the layer"
fault_words BoxLimit = codes "the padding or the reach with it is too large"
fault_words PairLimit = codes "no such break word, too large a gap, or too many strips"

abbrev refused : ℕ → Refusal
refused check = record { number = check; layer = 2; node = 0; place = 0 }

abbrev pub layer_refusal : LayerFault → Refusal
layer_refusal BoxLimit = refused 10
layer_refusal PairLimit = refused 11
layer_refusal Begun = refused 12
