use Rattle.std.proofs.Common.{refl}
use Rattle.sixel_xterm.proofs.xterm.XTermReading.waits.Goals as goal

pub returns : goal.returns
returns c = λ is before next. refl
