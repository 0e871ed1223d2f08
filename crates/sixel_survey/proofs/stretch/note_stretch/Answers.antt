use Rattle.std.proofs.Common.{◌≡◌, false, true, arith, length}
use Rattle.std.proofs.Math.Seq.{take-length}
use Rattle.std.proofs.Math.Bool.{or-false}
use Rattle.sixel_grammar.specs.Document.{events_of}
use Rattle.sixel_judge.specs.Notes.{IsNotesAfter}
use Rattle.sixel_survey.specs.Stretches.{any_paints, passed}
use Rattle.sixel_survey.proofs.StretchLemmas.{notes_passed, over_all}
use Rattle.sixel_survey.proofs.stretch.note_stretch.Goals as goal

pub returns-then-paints : goal.returns-then-paints
returns-then-paints c = λ seen place s.
    let n = c.args.notes.now in
    let stretch = c.args.stretch.now in
    let yes : any_paints stretch (length stretch) ≡ true =
    cc (c.paints.ensures, c.if-paints.true, take-length stretch) in
    let after = over_all (λ l. IsNotesAfter (passed n stretch (length stretch)) (events_of l)) seen place stretch
    (length stretch) (omega arith) (notes_passed n seen place stretch s (length stretch) (omega arith)) in
    rw (c.paint.ensures, c.saturating_add-notes.ensures) (rw yes at after)

pub returns-else-paints : goal.returns-else-paints
returns-else-paints c = λ seen place s.
    let n = c.args.notes.now in
    let stretch = c.args.stretch.now in
    let no : any_paints stretch (length stretch) ≡ false =
    cc (c.paints.ensures, c.if-paints.false, take-length stretch) in
    let after = over_all (λ l. IsNotesAfter (passed n stretch (length stretch)) (events_of l)) seen place stretch
    (length stretch) (omega arith) (notes_passed n seen place stretch s (length stretch) (omega arith)) in
    rw c.saturating_add-notes.ensures (rw (no, or-false n.early) at after)
