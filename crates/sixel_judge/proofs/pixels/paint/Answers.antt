use Rattle.std.proofs.Common.{◌≡◌, ◌<◌, ◌∙◌, Some, true, false, arith, rules, sym}
use Rattle.sixel_model.specs.Events.{is_painting}
use Rattle.sixel_judge.specs.Notes.{known_in}
use Rattle.sixel_judge.proofs.DrawLemmas.{drawn_paint, drawn_still, knows, narrow, run_fits_in}
use Rattle.sixel_judge.proofs.NotesLemmas.{known_is}
use Rattle.sixel_judge.proofs.UnbrokenLemmas.{known_low}
use Rattle.sixel_judge.proofs.pixels.paint.Goals as goal

pub returns-then-not-is_painting : goal.returns-then-not-is_painting
returns-then-not-is_painting g c = λ registers before u none.
    let still : is_painting c.args.event.now ≡ false = search rules in
    drawn_still c.args.event.now still u.grid_is

pub overflow_cast-notes : goal.overflow_cast-notes
overflow_cast-notes g c =
    let paints : is_painting c.args.event.now ≡ true = search rules in
    let q = c.requires in
    let fits = run_fits_in q.0 c.args.event.now (q.2).notes_are (q.2).grid_is q.3 q.4 paints in
    let lt : c.args.notes.now.column < 4294967296 = (narrow (q.2).grid_is.width (q.2).grid_is.height fits).0 in
    search rules

pub overflow_cast-notes-in-Some : goal.overflow_cast-notes-in-Some
overflow_cast-notes-in-Some g c =
    let paints : is_painting c.args.event.now ≡ true = search rules in
    let q = c.requires in
    let fits = run_fits_in q.0 c.args.event.now (q.2).notes_are (q.2).grid_is q.3 q.4 paints in
    let lt : c.args.notes.now.band < 4294967296 = (narrow (q.2).grid_is.width (q.2).grid_is.height fits).1 in
    search rules

pub paint_run-requires-clause-columns : goal.paint_run-requires-clause-columns
paint_run-requires-clause-columns g c =
    let paints : is_painting c.args.event.now ≡ true = search rules in
    let q = c.requires in
    rw c.columns_of.ensures (run_fits_in q.0 c.args.event.now (q.2).notes_are (q.2).grid_is q.3 q.4 paints).columns

pub paint_run-requires-clause-rows : goal.paint_run-requires-clause-rows
paint_run-requires-clause-rows g c =
    let paints : is_painting c.args.event.now ≡ true = search rules in
    let q = c.requires in
    rw c.bits_of.ensures.value (run_fits_in q.0 c.args.event.now (q.2).notes_are (q.2).grid_is q.3 q.4 paints).rows

pub returns-in-Some : goal.returns-in-Some
returns-in-Some g c = λ registers before u none.
    let paints : is_painting c.args.event.now ≡ true = search rules in
    let is : known_in c.args.notes.now ≡ Some c.in-Some.register = search rules in
    rw (c.paint_run.ensures, c.columns_of.ensures, c.bits_of.ensures.value)
    (drawn_paint registers c.args.event.now c.in-Some.register u.notes_are u.grid_is none c.requires.4 paints is)

pub returns-in-None : goal.returns-in-None
returns-in-None g c = λ registers before u none.
    let paints : is_painting c.args.event.now ≡ true = search rules in
    absurd (knows registers c.args.event.now u.notes_are none paints (search rules))

pub overflow_cast-register : goal.overflow_cast-register
overflow_cast-register g c =
    let q = c.requires in
    let u = q.2 in
    let is : known_in c.args.notes.now ≡ Some c.in-Some.register = search rules in
    let low = known_low q.0 c.in-Some.register q.1 u.unbroken (sym (known_is u.notes_are) ∙ is) in
    let lt : c.in-Some.register < 256 = omega (arith, low, u.bytes) in
    search rules
