use Rattle.sixel_judge.proofs.NotesLemmas.{notes_push}
use Rattle.sixel_judge.proofs.notes.Notes.take.Goals as goal

pub returns : goal.returns
returns c = λ before s.
    rw (c.take_but_early.ensures, c.note_early.ensures) (notes_push c.args.self.now before c.args.event.now s)
