use Rattle.sixel_emulator.proofs.ModelledLemmas.{follows_sixels}
use Rattle.sixel_emulator.proofs.modelled.Modelled.push_plain.Goals as goal

pub returns-clause-followed : goal.returns-clause-followed
returns-clause-followed g c = λ opening before place h.
    follows_sixels g.R.Reading.model g.R.Reading.has_seen c.args.self.now opening before place c.args.bytes.now
    c.note_sixels.new.self c.read_sixels.new.self c.requires.some c.requires.none c.requires.plain c.note_sixels.ensures
    (c.read_sixels.ensures.come g.R.Reading.model) h
