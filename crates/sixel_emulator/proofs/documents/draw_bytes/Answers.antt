use Rattle.std.proofs.Common.{◌≡◌, ◌∙◌, List, ap, refl, subst, sym}
use Rattle.std.specs.Prelude.{IfOk}
use Rattle.sixel_grammar.specs.declared.command.Placed.{Placed}
use Rattle.sixel_grammar.specs.Document.{Document}
use Rattle.sixel_terminal.specs.Displays.{Display}
use Rattle.sixel_emulator.specs.declared.hearing.Omitted.{Omitted}
use Rattle.sixel_emulator.specs.Heard.{heard, heard_in}
use Rattle.sixel_emulator.specs.Modelled.{HasFollowed}
use Rattle.sixel_emulator.proofs.HeardLemmas.{heard_all}
use Rattle.sixel_emulator.proofs.documents.draw_bytes.Goals as goal

pub follow_document-requires : goal.follow_document-requires
follow_document-requires g c =
    (record { listener = c.args.modelled; omitted = c.omitted_in.result }, (refl, (refl, λ opening h. h)))

pub returns-clause-terminal : goal.returns-clause-terminal
returns-clause-terminal g c =
    let f = c.in_ok-follow_document.ensures.followed (record { listener = c.args.modelled; omitted = c.omitted_in.result })
    (refl, (refl, λ opening h. h)) in
    subst (λ (t : Display). IfOk c.finish.result (λ d. d.terminal ≡ t)) f.taken.1.0 c.finish.ensures.terminal

pub returns-clause-gives : goal.returns-clause-gives
returns-clause-gives g c =
    let f = c.in_ok-follow_document.ensures.followed (record { listener = c.args.modelled; omitted = c.omitted_in.result })
    (refl, (refl, λ opening h. h)) in
    let same : heard c.omitted_in.result f.events ≡ heard_in c.args.hears c.args.bytes.now f.events =
    ap (λ (o : Omitted). heard o f.events) c.omitted_in.ensures ∙ heard_all c.args.hears c.args.bytes.now f.events in (
      f.events,
      subst (Document f.events) (sym f.known_are) f.document,
      λ opening begun.
          c.finish.ensures.gives opening (heard_in c.args.hears c.args.bytes.now f.events)
          (subst (λ (l : List Placed). HasFollowed g.R.Reading.model g.R.Reading.has_seen
          c.follow_document.new.follower.listener opening l) same (f.taken.1.1 opening begun)),
    )
