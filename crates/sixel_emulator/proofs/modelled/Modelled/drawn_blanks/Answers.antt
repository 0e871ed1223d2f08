use Rattle.std.proofs.Common.{take}
use Rattle.sixel_emulator.proofs.ModelledLemmas.{plain_by_blanks}
use Rattle.sixel_emulator.proofs.modelled.Modelled.drawn_blanks.Goals as goal

pub returns-then-draws_blanks-clause-plain : goal.returns-then-draws_blanks-clause-plain
returns-then-draws_blanks-clause-plain g c = λ before seen.
    plain_by_blanks g.R.Reading.model.rule before (take c.leading_blanks.result c.args.bytes.now)
    (c.draws_blanks.ensures c.if-draws_blanks.true before seen) c.leading_blanks.ensures.blank
