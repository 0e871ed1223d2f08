use Rattle.std.proofs.Common.{sym, arith}
use Rattle.std.proofs.lemmas.Fmt.{decimal_digit}
use Rattle.sixel_list.proofs.sixel_line.SixelLine.new.Goals as goal

pub invariant_of-result-clause-digits : goal.invariant_of-result-clause-digits
invariant_of-result-clause-digits c = sym (decimal_digit 0 (omega arith))

pub returns : goal.returns
returns c = sym (decimal_digit 0 (omega arith))
