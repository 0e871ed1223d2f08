use Rattle.std.proofs.Common.{◌≡◌, ◌∙◌, List, ap, refl, subst, sym}
use Rattle.sixel_grammar.specs.declared.command.Placed.{Placed}
use Rattle.sixel_grammar.specs.declared.halt.Halt.{Halt}
use Rattle.sixel_grammar.specs.Document.{Document, events_of}
use Rattle.sixel_grammar.specs.Source.{HaltsSource, source_halt_of}
use Rattle.sixel_grammar.proofs.UniqueLemmas.{document_once, fault_no_document}
use Rattle.sixel_konsole.specs.Konsole.{konsole_opening}
use Rattle.sixel_konsole.specs.Measuring.{HasTakenOn}
use Rattle.sixel_konsole.specs.declared.measuring.Measuring.{Measuring}
use Rattle.sixel_emulator.specs.declared.hearing.Hearing.{Hearing}
use Rattle.sixel_emulator.specs.declared.hearing.Hears.TheVariants.{Boxes}
use Rattle.sixel_emulator.specs.declared.hearing.Omitted.{Omitted}
use Rattle.sixel_emulator.specs.Heard.{HasHeardOn, heard, omitted_in}
use Rattle.sixel_named_terminals.proofs.named.rectangle_of.Goals as goal

pub follow_document-requires : goal.follow_document-requires
follow_document-requires c = (record { listener = c.new.result; omitted = c.omitted_in.result }, (refl, λ h. h))

pub unreachable-requires : goal.unreachable-requires
unreachable-requires c =
    let first : Hearing Measuring = record { listener = c.new.result; omitted = c.omitted_in.result } in
    let now : Hearing Measuring = c.follow_document.new.follower in
    fault_no_document c.args.bytes.now _
    (subst (λ (h : Halt _). HaltsSource (HasHeardOn HasTakenOn) (λ one other stop seen. ⊥) first now (source_halt_of h)
    c.args.bytes.now) c.in-Err-Refused.field-0-is c.in-Err-Refused.ensures.halted)
    c.requires

pub returns : goal.returns
returns c = λ placed doc.
    let first : Hearing Measuring = record { listener = c.new.result; omitted = c.omitted_in.result } in
    let f = c.in-Ok.ensures.followed first (refl, λ h. h) in
    let same : f.events ≡ placed =
    document_once c.args.bytes.now f.events placed (subst (Document f.events) (sym f.known_are) f.document) doc in
    let hears : Omitted = omitted_in Boxes c.args.bytes.now in
    c.finish.ensures (events_of (heard c.omitted_in.result f.events)) (f.taken.1 c.new.ensures)
    ∙ ap (λ (o : Omitted). konsole_opening (events_of (heard o f.events))) c.omitted_in.ensures
    ∙ ap (λ (l : List Placed). konsole_opening (events_of (heard hears l))) same
