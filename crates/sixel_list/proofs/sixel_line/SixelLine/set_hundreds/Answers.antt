use Rattle.std.proofs.Common.{arith}
use Rattle.std.proofs.lemmas.Fmt.{length-decimal-le}
use Rattle.sixel_list.proofs.SixelLineLemmas.{digits_before}
use Rattle.sixel_list.proofs.sixel_line.SixelLine.set_hundreds.Goals as goal

pub write_digits-self-requires : goal.write_digits-self-requires
write_digits-self-requires c =
    (length-decimal-le 18 c.args.hundreds (omega arith) c.requires (omega arith), omega arith)

pub invariant_of-self-clause-digits : goal.invariant_of-self-clause-digits
invariant_of-self-clause-digits c =
    digits_before _ 18 _ _ _ c.write_digits-self.ensures.start c.write_digits-self.ensures.written
