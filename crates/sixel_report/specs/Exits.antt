-- Exit statuses, and messages that are put.
use Rattle.std.specs.Prelude.{◌≡◌, ◌⊎◌, ℕ, take, Result, Ok, Err}
use Rattle.std.specs.Io.KnownBytes.{Appends}
use Rattle.sixel_io.specs.Devices.{Change, SinkState, one_more}
use Rattle.sixel_report.specs.declared.exit.Exit.{Exit}
use Rattle.sixel_report.specs.declared.exit.Exit.TheVariants.{Done, Broken, Refused, Usage}
use Rattle.sixel_report.specs.declared.fault.RunFault.{RunFault}
use Rattle.sixel_report.specs.declared.task.Status.{Status}
use Rattle.sixel_report.specs.declared.task.Status.TheVariants as status
use Rattle.sixel_report.specs.Texts.{Text}

-- the exit status as a number
abbrev pub exit_code : Exit → ℕ
exit_code Done = 0
exit_code Broken = 1
exit_code Refused = 2
exit_code Usage = 3

-- the exit status after a run with this answer
abbrev pub exit_for_answer : Result Status RunFault → Exit
exit_for_answer (Ok status.Done) = Done
exit_for_answer (Ok (status.Noted note)) = Done
exit_for_answer (Ok (status.Broken finding)) = Broken
exit_for_answer (Ok (status.Asked finding)) = Broken
exit_for_answer (Ok (status.Surveyed first rules)) = Broken
exit_for_answer (Ok (status.Unfit wrapped)) = Broken
exit_for_answer (Ok status.Differing) = Broken
exit_for_answer (Err fault) = Refused

-- the text was appended to the bytes of a sink; or a prefix of it was, and a call on the sink failed
abbrev pub IsPut : Text → Change SinkState → Type 0
IsPut text sink =
    (Appends sink.old.taken sink.new.taken text × (sink.new.failures ≡ sink.old.failures))
    ⊎ ((n : ℕ) × Appends sink.old.taken sink.new.taken (take n text) × (sink.new.failures ≡ one_more sink.old.failures))
