use Rattle.std.proofs.Common.{◌∙◌, arith, sym}
use Rattle.sixel_program.proofs.PeekedLemmas.{prefix_given, some_wait}
use Rattle.sixel_program.proofs.peeked.PeekedSource.fill.Goals as goal

pub overflow_add-self : goal.overflow_add-self
overflow_add-self g c =
    let some = some_wait c.waiting-waiting.result.now (sym c.is_empty.ensures ∙ c.if-is_empty.false) in
    omega (arith, c.waiting-waiting.ensures.bound some, c.min-count.ensures)

pub returns-clause-bytes : goal.returns-clause-bytes
returns-clause-bytes g c =
    prefix_given c.args.self.now.prefix.items c.waiting-waiting.result.now _ _ _ c.args.self.now.given
    c.min-count.result c.waiting-waiting.ensures.bytes
    (some_wait c.waiting-waiting.result.now (sym c.is_empty.ensures ∙ c.if-is_empty.false)) c.requires
    c.min-count.ensures c.copy_from_slice.ensures.after
