use Rattle.sixel_grammar.specs.Document.{events_of}
use Rattle.sixel_mend.proofs.MeasureLemmas.{measures_sixels}
use Rattle.sixel_mend.proofs.extent.ExtentFollower.take_stretch.Goals as goal

pub returns-clause-taken : goal.returns-clause-taken
returns-clause-taken c = λ first seen s.
    measures_sixels seen c.args._place _ (c.follow_stretch.ensures (events_of seen) s)
