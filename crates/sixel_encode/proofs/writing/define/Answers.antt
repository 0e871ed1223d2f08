use Rattle.std.proofs.Common.{refl}
use Rattle.sixel_encode.proofs.writing.define.Goals as goal

pub returns-in-Hls : goal.returns-in-Hls
returns-in-Hls c = rw (c.into-register.ensures, c.in-Hls.is, c.into-in-Hls.ensures, c.into-in-Hls-2.ensures) refl
