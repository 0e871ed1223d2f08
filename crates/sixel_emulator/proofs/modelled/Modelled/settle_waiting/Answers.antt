use Rattle.std.proofs.Common.{◌∙◌, Some, ap, refl}
use Rattle.std.specs.Option.{option_map}
use Rattle.sixel_grammar.specs.Document.{events_of}
use Rattle.sixel_emulator.proofs.ModelledLemmas.{follows_more}
use Rattle.sixel_emulator.proofs.modelled.Modelled.settle_waiting.Goals as goal

pub returns-clause-followed : goal.returns-clause-followed
returns-clause-followed g c = λ opening before place h.
    follows_more g.R.Reading.model g.R.Reading.has_seen c.args.self.now opening before place c.args.next.now
    (record { reading = c.settle-reads.new.self.reading; pending = Some c.args.next.now }) c.read_one.new.self
    c.settle-reads.ensures.seen refl
    (λ is.
    c.read_one.ensures.none
    (c.settle-reads.ensures.reads (events_of h.read) h.seen
    ∙ ap (option_map (λ last. g.R.Reading.model.rule (events_of h.read) last (Some c.args.next.now))) is))
    (λ e is read seen controls first placed n at has come.
    c.read_one.ensures.come (g.R.Reading.model.rule read e (Some c.args.next.now))
    (c.settle-reads.ensures.reads read seen
    ∙ ap (option_map (λ last. g.R.Reading.model.rule read last (Some c.args.next.now))) is)
    g.R.Reading.model first placed n e at (c.waits_at_unsaid-is_unsaid.ensures g.R.Reading.model e controls is) has
    come)
    h
