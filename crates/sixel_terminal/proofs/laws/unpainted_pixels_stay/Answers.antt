use Rattle.sixel_terminal.proofs.ShownLemmas.{unpainted}
use Rattle.sixel_terminal.proofs.laws.unpainted_pixels_stay.Goals as goal

pub returns : goal.returns
returns c = unpainted
