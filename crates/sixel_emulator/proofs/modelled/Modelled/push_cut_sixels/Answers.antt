use Rattle.sixel_emulator.proofs.CutLemmas.{follows_cut_sixels}
use Rattle.sixel_emulator.proofs.modelled.Modelled.push_cut_sixels.Goals as goal

pub returns-clause-followed : goal.returns-clause-followed
returns-clause-followed g c = λ opening before place h.
    follows_cut_sixels g.R.Reading.model g.R.Reading.has_seen c.args.self.now opening before place c.args.bytes.now
    c.args.self.now.progress.drawing.terminal.choices.zero c.args.columns c.min.result c.note_sixels.new.self
    c.read_blanks.new.self c.requires.some c.requires.none c.min.ensures c.requires.cut c.note_sixels.ensures
    (λ first placed k. c.read_blanks.ensures.sixels g.R.Reading.model first placed k c.args.bytes.now) h
