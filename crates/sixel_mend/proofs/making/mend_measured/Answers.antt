use Rattle.std.proofs.Common.{◌∙◌, Err, subst, sym}
use Rattle.std.proofs.lemmas.Result.{err_from_is_err_and}
use Rattle.sixel_grammar.specs.Document.{events_of}
use Rattle.sixel_model.specs.Profiles.{count_of}
use Rattle.sixel_mend.specs.declared.mending.MendFault.{MendFault}
use Rattle.sixel_mend.specs.Marking.{over}
use Rattle.sixel_mend.specs.Mended.{Mends}
use Rattle.sixel_mend.specs.Painted.{painted_colours}
use Rattle.sixel_mend.proofs.MarkedLemmas.{is_marked, length_over, marked_screen}
use Rattle.sixel_mend.proofs.MendLemmas.{measured, reading_refused}
use Rattle.sixel_mend.proofs.NotingLemmas.{noting}
use Rattle.sixel_mend.proofs.making.mend_measured.Goals as goal

pub returns-in_err-width : goal.returns-in_err-width
returns-in_err-width c =
    let failed = err_from_is_err_and c.from_residual.result c.from_residual.ensures.1 in
    rw (failed.1, failed.2) (c.in_err-width.ensures.refused c.args.bytes.now c.requires (count_of c.args.profile) c.args.mending.now)

pub returns-in_err-screen : goal.returns-in_err-screen
returns-in_err-screen c =
    let exit = c.from_residual-in_err-screen in
    let failed = err_from_is_err_and exit.result exit.ensures.1 in
    let d = c.in_ok-width.ensures.sized c.args.bytes.now c.requires in
    rw (failed.1, failed.2)
    (reading_refused (count_of c.args.profile) c.in_err-screen.field-0.0
    (measured c.args.mending.now c.args.bytes.now c.in_ok-width.width c.in_ok-width.height d.0 d.0 d.1
    (d.2 c.args.mending.now) c.in_ok-width.ensures.sides d.1) c.in_err-screen.ensures.refused)

pub returns-in_err-parts : goal.returns-in_err-parts
returns-in_err-parts c =
    let exit = c.from_residual-in_err-parts in
    let failed = err_from_is_err_and exit.result exit.ensures.1 in
    let d = c.in_ok-width.ensures.sized c.args.bytes.now c.requires in
    rw (failed.1, failed.2)
    (subst (λ (fault : MendFault). Mends (count_of c.args.profile) c.args.mending.now c.args.bytes.now (Err fault))
    (sym c.in_err-parts.ensures.refused)
    (d.0, d.1, (c.in_ok-width.width, c.in_ok-width.height, d.2 c.args.mending.now, c.in_ok-width.ensures.sides)))

pub into_picture-requires-clause-numbered : goal.into_picture-requires-clause-numbered
into_picture-requires-clause-numbered c =
    let m = c.args.mending.now in
    let w = c.in_ok-width.width in
    let h = c.in_ok-width.height in
    let d = c.requires in
    let shown = c.in_ok-screen.ensures.shown in
    let es = events_of shown.0 in
    let marked =
    is_marked m w h c.mark_for-mark.ensures.hls d.1 d.2 shown.1 (c.pixels.ensures.pixels ∙ shown.2) in
    let settled = (rw c.in-Some.is at c.in_ok-parts.ensures.settled) (painted_colours m es w h) marked in
    (count_of c.args.profile, over m.background (painted_colours m es w h), settled.numbered, length_over m es w h m.background)

pub returns-in-Some : goal.returns-in-Some
returns-in-Some c =
    let m = c.args.mending.now in
    let w = c.in_ok-width.width in
    let h = c.in_ok-width.height in
    let s = c.in_ok-width.ensures.sized c.args.bytes.now c.requires in
    let d = c.requires in
    let shown = c.in_ok-screen.ensures.shown in
    let es = events_of shown.0 in
    let marked =
    is_marked m w h c.mark_for-mark.ensures.hls d.1 d.2 shown.1 (c.pixels.ensures.pixels ∙ shown.2) in
    let settled = (rw c.in-Some.is at c.in_ok-parts.ensures.settled) (painted_colours m es w h) marked in
    rw c.into_picture.ensures
    (noting 0 (measured m c.args.bytes.now w h s.0 shown.0 s.1 (s.2 m) c.in_ok-width.ensures.sides shown.1)
    settled.numbered (sym settled.none_hidden))

pub mend_again-requires-clause-marked : goal.mend_again-requires-clause-marked
mend_again-requires-clause-marked c =
    let m = c.args.mending.now in
    let w = c.in_ok-width.width in
    let h = c.in_ok-width.height in
    let s = c.in_ok-width.ensures.sized c.args.bytes.now c.requires in
    let shown = c.in_ok-screen.ensures.shown in
    marked_screen m c.mark_for-mark.result c.mark_for-mark.ensures.other
    (measured m c.args.bytes.now w h s.0 shown.0 s.1 (s.2 m) c.in_ok-width.ensures.sides shown.1) shown.2
