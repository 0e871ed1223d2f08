use Rattle.sixel_emulator.proofs.ModelledLemmas.{follows_past}
use Rattle.sixel_emulator.proofs.modelled.Modelled.pass_by.Goals as goal

pub returns-clause-followed : goal.returns-clause-followed
returns-clause-followed g c = λ opening before place h.
    follows_past g.R.Reading.model g.R.Reading.has_seen c.args.self.now opening before place c.args.bytes.now
    c.note_sixels.new.self c.requires.some c.requires.none c.note_sixels.ensures
    (λ first placed k. c.requires.over g.R.Reading.model first placed k) h
