-- Lines that contain a file's name.
use Rattle.std.specs.Prelude.{[], ◌∷◌, ◌++◌, codes}
use Rattle.sixel_printing.specs.Printing.{printed}
use Rattle.sixel_report.specs.declared.fault.RunFault.{RunFault}
use Rattle.sixel_report.specs.declared.fault.RunFault.TheVariants as run
use Rattle.sixel_report.specs.Texts.{Text, fault_line, fault_parts, line}
use Rattle.sixel_messages.specs.declared.unopened.Unopened.{Unopened}
use Rattle.sixel_messages.specs.Unopened.{reason_text}

-- a name before a line
abbrev pub named : Text → Text → Text
named name text = printed name ++ codes ": " ++ text

-- the line of a fault in the file with this name; without the name for a failed write, which isn't the file's fault
abbrev pub named_fault_line : Text → RunFault → Text
named_fault_line name run.Write = fault_line run.Write
named_fault_line name fault = line (codes "sixel: " ++ printed name ++ codes ":") (fault_parts fault)

-- the line about the file with this name, which can't be opened for this reason
abbrev pub unopened_line : Text → Unopened → Text
unopened_line name reason = line (codes "sixel: " ++ printed name ++ codes ":") (reason_text reason ∷ [])
