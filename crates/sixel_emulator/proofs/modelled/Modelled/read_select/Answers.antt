use Rattle.std.proofs.Common.{◌≡◌, ◌++◌, None, Option, Some, refl, suc, subst, sym}
use Rattle.std.specs.Option.{option_to_list}
use Rattle.sixel_grammar.specs.declared.command.Command.TheVariants.{Select}
use Rattle.sixel_grammar.specs.declared.command.Event.{Event}
use Rattle.sixel_grammar.specs.declared.command.Event.TheVariants.{Step}
use Rattle.sixel_grammar.specs.Document.{events_of}
use Rattle.sixel_emulator.specs.Courses.{IsAt}
use Rattle.sixel_emulator.specs.Modelled.{HasCome}
use Rattle.sixel_emulator.proofs.ModelledLemmas.{follows_more}
use Rattle.sixel_emulator.proofs.modelled.Modelled.read_select.Goals as goal

same_event : (o : Option Event) (d e : Event) → o ≡ Some d → o ≡ Some e → d ≡ e
same_event None d e a b = absurd cc
same_event (Some x) d e a b = cc

some_waits : (o : Option Event) (e : Event) → o ≡ Some e → o ≡ None → ⊥
some_waits None e a b = cc
some_waits (Some x) e a b = cc

pub returns-clause-followed : goal.returns-clause-followed
returns-clause-followed g c = λ opening before place h.
    let m = g.R.Reading.model in
    let next = c.args.next.now in
    let select : Event = Step (Select c.args.register) in
    follows_more m g.R.Reading.has_seen c.args.self.now opening before place next
    (record { reading = c.read-reads.new.self; pending = Some next }) c.read.new.self
    (λ es seen.
    subst (λ (o : Option Event). g.R.Reading.has_seen c.read-reads.new.self (es ++ option_to_list o)) (sym c.requires)
    (c.read-reads.ensures.seen es seen))
    refl (λ is. absurd (some_waits c.args.self.now.waiting.pending select c.requires is))
    (λ e is read seen controls first placed n at has come.
    subst (λ (d : Event). IsAt m (events_of placed) n d (m.rule read d (Some next))
    → HasCome m first placed (suc n) c.read.new.self)
    (same_event c.args.self.now.waiting.pending select e c.requires is)
    (λ here.
    c.read.ensures.come m first placed n select
    (subst (IsAt m (events_of placed) n select) (sym (c.read-reads.ensures.reads read seen)) here) refl has come)
    at)
    h
