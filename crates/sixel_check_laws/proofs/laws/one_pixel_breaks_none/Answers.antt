use Rattle.sixel_check_laws.proofs.OnePixel.{one_pixel_breaks_none}
use Rattle.sixel_check_laws.proofs.laws.one_pixel_breaks_none.Goals as goal

pub returns : goal.returns
returns c = one_pixel_breaks_none
