use Rattle.sixel_emulator_rules.proofs.NotesLemmas.{notes_push}
use Rattle.sixel_emulator_rules.proofs.notes.Notes.take.Goals as goal

pub returns : goal.returns
returns c = λ before s.
    rw (c.define.ensures, c.name.ensures, c.move_on.ensures)
    (notes_push c.args.self.now c.first_declared-declared.result before c.args.event.now s
    c.first_declared-declared.ensures.value c.first_declared-declared.ensures.narrow)
