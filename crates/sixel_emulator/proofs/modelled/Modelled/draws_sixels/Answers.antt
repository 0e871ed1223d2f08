use Rattle.std.proofs.Common.{length}
use Rattle.std.proofs.lemmas.Bool.{leb-true}
use Rattle.sixel_emulator.proofs.ModelledLemmas.{fewer, plain_by_count}
use Rattle.sixel_emulator.proofs.modelled.Modelled.draws_sixels.Goals as goal

pub returns : goal.returns
returns g c = λ is before seen.
    plain_by_count g.R.Reading.model.rule before c.args.bytes.now
    (fewer g.R.Reading.model.rule before c.plain_sixels.result (length c.args.bytes.now)
    (leb-true (length c.args.bytes.now) c.plain_sixels.result is) (c.plain_sixels.ensures before seen))
