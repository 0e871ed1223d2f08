use Rattle.std.proofs.Common.{refl}
use Rattle.sixel_grammar.specs.Document.{events_of}
use Rattle.sixel_emulator_rules.proofs.TallyLemmas.{tallying_push}
use Rattle.sixel_emulator_rules.proofs.tallying.Tallying.push.Goals as goal

pub returns-clause-taken : goal.returns-clause-taken
returns-clause-taken c = rw c.count_each.ensures (λ seen h.
    tallying_push c.args.self.now _ seen c.args.place c.args.event.now refl refl
    (c.take.ensures (events_of seen) (rw c.count_each.ensures h.notes_are)) h)
