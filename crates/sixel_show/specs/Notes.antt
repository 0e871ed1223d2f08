-- The note on a string that is shown.
use Rattle.std.specs.Prelude.{Bool, List, if◌then◌else◌}
use Rattle.std.specs.List.{list_any}
use Rattle.sixel_grammar.specs.declared.command.Event.{Event}
use Rattle.sixel_model.specs.Profiles.{count_of}
use Rattle.sixel_model.specs.Rules.{breaks_register}
use Rattle.sixel_model.specs.declared.profile.Profile.{Profile}
use Rattle.sixel_model.specs.declared.profile.Profile.TheVariants.{Registers16, Registers256}
use Rattle.sixel_report.specs.declared.task.Note.TheVariants.{HighRegister}
use Rattle.sixel_report.specs.declared.task.Status.{Status}
use Rattle.sixel_report.specs.declared.task.Status.TheVariants.{Done, Noted}

-- whether the event selects or defines a register above 15, which the profile of 16 doesn't have
abbrev pub names_high_register : Event → Bool
names_high_register e = breaks_register (count_of Registers16) e

-- whether one of the events does
abbrev pub has_high_register : List Event → Bool
has_high_register events = list_any names_high_register events

-- the status of a show of these events, on a terminal with the registers of the profile
abbrev pub shown_status : Profile → List Event → Status
shown_status Registers16 events = if has_high_register events then Noted HighRegister else Done
shown_status Registers256 events = Done
