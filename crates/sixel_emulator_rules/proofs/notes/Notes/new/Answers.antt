use Rattle.sixel_emulator_rules.proofs.NotesLemmas.{notes_start}
use Rattle.sixel_emulator_rules.proofs.notes.Notes.new.Goals as goal

pub returns : goal.returns
returns c = notes_start
