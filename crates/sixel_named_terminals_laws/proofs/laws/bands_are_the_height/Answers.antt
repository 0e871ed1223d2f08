use Rattle.std.proofs.Common.{[]}
use Rattle.sixel_named_terminals_laws.proofs.BandLemmas.{bands_are_the_height, first_height}
use Rattle.sixel_named_terminals_laws.proofs.laws.bands_are_the_height.Goals as goal

pub returns : goal.returns
returns c = λ events none. bands_are_the_height [] events first_height none
