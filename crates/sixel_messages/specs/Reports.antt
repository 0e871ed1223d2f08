-- What is written and said of an input.
use Rattle.std.specs.Prelude.{◌&&◌, ◌∷◌, ◌++◌, List, [], Option, Some, None, Result, Ok, Err, codes, if◌then◌else◌}
use Rattle.sixel_messages.specs.declared.unopened.Unopened.{Unopened}
use Rattle.sixel_report.specs.declared.fault.RunFault.{RunFault}
use Rattle.sixel_report.specs.declared.fault.RunFault.TheVariants as run
use Rattle.sixel_report.specs.declared.task.Status.{Status}
use Rattle.sixel_messages.specs.declared.formats.Format.{Format}
use Rattle.sixel_messages.specs.Formats.{advice_on}
use Rattle.sixel_messages.specs.Messages.{fault_said, labelled}
use Rattle.sixel_messages.specs.Names.{unopened_line}
use Rattle.sixel_report.specs.declared.item.Item.{Item}
use Rattle.sixel_report.specs.Texts.{Text, item_line}
use Rattle.sixel_report.specs.declared.wanted_lines.Lines.{Lines}
use Rattle.sixel_report.specs.declared.wanted_lines.Lines.TheVariants.{Json, Nothing, Plain}
use Rattle.sixel_messages.specs.Json.{fault_members, file_member, item_members, json_line, unread_members}
use Rattle.sixel_report.specs.Lines.{is_portable_item}

-- the name of the input with this label, or `-` without one
abbrev pub name_of : Option Text → Text
name_of None = codes "-"
name_of (Some name) = name

-- what is written for an item of the input with this label: its line after the label or an object of JSON, but not for
-- what is portable, if only failures are wanted
abbrev pub written_for : Lines → Option Text → Item → Text
written_for (Nothing json) label i = []
written_for (Plain only_failed) label i =
    if only_failed && is_portable_item i then [] else labelled label (item_line i)
written_for (Json only_failed) label i =
    if only_failed && is_portable_item i then [] else json_line (file_member label ∷ item_members i)

-- the object of an input with this label that couldn't be opened or is refused. A failed write isn't the input's fault
abbrev pub refusal_object : Option Text → Option Unopened → Result Status RunFault → Text
refusal_object label (Some reason) answer = json_line (file_member label ∷ unread_members reason)
refusal_object label None (Ok status) = []
refusal_object label None (Err run.Write) = []
refusal_object label None (Err fault) = json_line (file_member label ∷ fault_members fault)

-- what is written to the output of an input that is refused: in JSON its object
abbrev pub refusal_text : Lines → Option Text → Option Unopened → Result Status RunFault → Text
refusal_text (Json only_failed) label unopened answer = refusal_object label unopened answer
refusal_text lines label unopened answer = []

-- the message about the input with this label and this format: why it couldn't be opened, or why it is refused, with the
-- advice on it
abbrev pub message_about : Option Text → Option Unopened → Option Format → Result Status RunFault → List Text
message_about label (Some reason) format answer = unopened_line (name_of label) reason ∷ []
message_about label None format (Ok status) = []
message_about label None format (Err fault) = (fault_said label fault ++ advice_on format fault) ∷ []

-- what the errors get of an input: that message, but in JSON the output says why
abbrev pub said_of_file : Lines → Option Text → Option Unopened → Option Format → Result Status RunFault → List Text
said_of_file (Json only_failed) label unopened format answer = []
said_of_file lines label unopened format answer = message_about label unopened format answer
