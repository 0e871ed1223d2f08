use Rattle.sixel_ppm.proofs.PpmSampleLemmas.{on_err, too_many_fails}
use Rattle.sixel_ppm.proofs.ppm.samples.Samples.register_of.Goals as goal

pub returns-clause-failed : goal.returns-clause-failed
returns-clause-failed c =
    let fit = c.in_default-unfit.ensures.fit in
    on_err c.number.result _ _
    (λ fault many. too_many_fails c.args.self.now c.args.red c.args.green c.args.blue fault c.requires fit.0 fit.1
    fit.2 many)
    c.number.ensures.failed
