-- Notes: lines about a task that is done, if its result may surprise.
use Rattle.std.specs.Prelude.{◌++◌, ◌∷◌, ◌==◌, ◌&&◌, ℕ, Bool, true, false, [], codes, decimal, Result, Ok}
use Rattle.std.specs.Prelude.{if◌then◌else◌}
use Rattle.sixel_report.specs.declared.fault.RunFault.{RunFault}
use Rattle.sixel_report.specs.declared.task.Note.{Note}
use Rattle.sixel_report.specs.declared.task.Note.TheVariants.{Hidden, HighRegister, Wrapped}
use Rattle.sixel_report.specs.declared.task.Status.{Status}
use Rattle.sixel_report.specs.declared.task.Status.TheVariants.{Noted, Unfit}
use Rattle.sixel_report.specs.Texts.{Text}

-- what follows the number of hidden pixels
abbrev pub hidden_text : ℕ → Text
hidden_text pixels =
    if pixels == 1 then codes " painted pixel has the background's colour; --background R,G,B takes another"
    else codes " painted pixels have the background's colour; --background R,G,B takes another"

abbrev pub note_text : Note → Text
note_text (Hidden pixels) = codes "sixel: " ++ decimal pixels ++ hidden_text pixels
note_text HighRegister = codes "sixel: the string names a register above 15; '--wide' shows 256 registers"
note_text Wrapped =
    codes "sixel: a string is wrapped for GNU Screen or tmux; RECIPES.md, in share/doc/sixel/ or docs/, tells how to unwrap it"

-- the line of a note
abbrev pub note_line : Note → Text
note_line note = note_text note ++ 10 ∷ []

-- whether a scan with this answer found a string in the pass-through of tmux or GNU Screen
abbrev pub has_wrapped : Result Status RunFault → Bool
has_wrapped (Ok (Noted Wrapped)) = true
has_wrapped (Ok (Unfit wrapped)) = wrapped
has_wrapped answer = false

-- the note on wrapped strings, if notes are wanted and there was one
abbrev pub wrapped_line : Bool → Bool → Text
wrapped_line wanted wrapped = if wanted && wrapped then note_line Wrapped else []
