-- What is said of a run.
use Rattle.std.specs.Prelude.{[], Bool, false, true, Result, Ok, Err, None, Option, Some, if◌then◌else◌}
use Rattle.sixel_report.specs.declared.fault.RunFault.{RunFault}
use Rattle.sixel_report.specs.declared.task.Status.{Status}
use Rattle.sixel_report.specs.declared.task.Status.TheVariants as status
use Rattle.sixel_report.specs.declared.task.Task.{Task}
use Rattle.sixel_report.specs.declared.task.Task.TheVariants as task
use Rattle.sixel_report.specs.Lines.{is_quiet}
use Rattle.sixel_messages.specs.Names.{named, named_fault_line}
use Rattle.sixel_messages.specs.Notes.{note_line}
use Rattle.sixel_report.specs.declared.wanted_lines.Lines.{Lines}
use Rattle.sixel_report.specs.Texts.{Text, fault_line, finding_line}

abbrev pub is_render : Task → Bool
is_render (task.Render profile format) = true
is_render _ = false

-- a line about an input, after the input's name if it has one
abbrev pub labelled : Option Text → Text → Text
labelled None text = text
labelled (Some name) text = named name text

-- the line of a fault, with the input's name if it has one; for a failed write without it: that isn't the input's fault
abbrev pub fault_said : Option Text → RunFault → Text
fault_said None fault = fault_line fault
fault_said (Some name) fault = named_fault_line name fault

-- the message about a run: why it was refused, which rule kept its picture from being rendered, or, unless it is quiet,
-- what may surprise; otherwise none
abbrev pub complaint : Task → Lines → Option Text → Result Status RunFault → Text
complaint t lines name (Ok status.Done) = []
complaint t lines name (Ok (status.Noted note)) = if is_quiet lines then [] else note_line note
complaint t lines name (Ok (status.Asked finding)) = []
complaint t lines name (Ok (status.Surveyed first rules)) = []
complaint t lines name (Ok (status.Unfit wrapped)) = []
complaint t lines name (Ok status.Differing) = []
complaint t lines name (Ok (status.Broken finding)) = if is_render t then labelled name (finding_line finding) else []
complaint t lines name (Err fault) = fault_said name fault
