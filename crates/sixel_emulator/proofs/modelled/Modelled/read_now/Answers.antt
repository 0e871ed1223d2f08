use Rattle.std.proofs.Common.{subst, sym}
use Rattle.sixel_grammar.specs.Document.{events_of}
use Rattle.sixel_emulator.specs.Courses.{IsAt}
use Rattle.sixel_emulator.proofs.ModelledLemmas.{follows_now}
use Rattle.sixel_emulator.proofs.modelled.Modelled.read_now.Goals as goal

pub returns-clause-followed : goal.returns-clause-followed
returns-clause-followed g c = λ opening before h.
    follows_now g.R.Reading.model g.R.Reading.has_seen c.args.self.now opening before c.args.place c.args.event.now
    c.read-reads.new.self c.read.new.self c.requires.none (λ es next seen. c.requires.alone es next) c.read-reads.ensures.seen
    (λ es seen controls first placed n at has come.
    c.read.ensures.come g.R.Reading.model first placed n c.args.event.now
    (subst (IsAt g.R.Reading.model (events_of placed) n c.args.event.now) (sym (c.read-reads.ensures.reads es seen)) at)
    (c.has-is_unsaid.ensures g.R.Reading.model controls) has come)
    h
