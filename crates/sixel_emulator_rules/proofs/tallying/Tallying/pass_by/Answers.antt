use Rattle.sixel_grammar.specs.Document.{events_of}
use Rattle.sixel_emulator_rules.proofs.TallyLemmas.{tallying_by}
use Rattle.sixel_emulator_rules.proofs.tallying.Tallying.pass_by.Goals as goal

pub returns-clause-taken : goal.returns-clause-taken
returns-clause-taken c = λ place seen h.
    tallying_by c.args.self.now c.take.new.self seen place c.args.event.now c.requires
    (c.take.ensures (events_of seen) h.notes_are) h
