use Rattle.sixel_ppm.proofs.PpmSampleLemmas.{pixel_leads}
use Rattle.sixel_ppm.proofs.ppm.samples.Samples.pixel.Goals as goal

pub returns-clause-read : goal.returns-clause-read
returns-clause-read c =
    pixel_leads c.args.self.now c.register_of.new.self c.put.new.self c.args.red c.args.green c.args.blue
    c.in_ok-register.register
    c.in_ok-register.ensures.registered c.register_of.ensures.kept c.put.ensures
