use Rattle.sixel_promise_laws.proofs.PortableLemmas.{png_is_the_picture}
use Rattle.sixel_promise_laws.proofs.laws.a_png_is_the_picture.Goals as goal

pub returns : goal.returns
returns c = png_is_the_picture
