use Rattle.std.proofs.Common.{◌∙◌, None, refl, subst, sym}
use Rattle.sixel_grammar.specs.declared.command.Command.TheVariants.{Repeat}
use Rattle.sixel_grammar.specs.declared.command.Event.{Event}
use Rattle.sixel_grammar.specs.declared.command.Event.TheVariants.{Step}
use Rattle.sixel_grammar.specs.Document.{events_of}
use Rattle.sixel_emulator.specs.Courses.{IsAt}
use Rattle.sixel_emulator.proofs.ModelledLemmas.{follows_now}
use Rattle.sixel_emulator.proofs.modelled.Modelled.push_plain_repeat.Goals as goal

pub returns-clause-followed : goal.returns-clause-followed
returns-clause-followed g c = λ opening before h.
    let m = g.R.Reading.model in
    let repeat : Event = Step (Repeat c.args.count c.args.bits) in
    follows_now m g.R.Reading.has_seen c.args.self.now opening before c.args.place repeat c.note_repeat.new.self
    c.read.new.self c.requires.none
    (λ es next seen. c.requires.plain es next seen ∙ sym (c.requires.plain es None seen)) c.note_repeat.ensures
    (λ es seen controls first placed n at has come.
    c.read.ensures.come m first placed n repeat
    (subst (IsAt m (events_of placed) n repeat) (c.requires.plain es None seen) at) refl has come)
    h
