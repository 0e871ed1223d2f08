use Rattle.std.proofs.Common.{refl}
use Rattle.sixel_grammar.proofs.fault.InputFaultFromDeviceFault.from.Goals as goal

pub returns : goal.returns
returns c = refl
