use Rattle.sixel_terminal.proofs.ClipLemmas.{clipped_is_unpainted}
use Rattle.sixel_terminal.proofs.ShownLemmas.{unseen_is_unpainted}
use Rattle.sixel_terminal.proofs.laws.some_pixels_are_unpainted.Goals as goal

pub returns : goal.returns
returns c = record { unseen = unseen_is_unpainted; clipped = clipped_is_unpainted }
