-- The lines of `--json`: an object of JSON for each item, each refused input and each file that can't be opened.
use Rattle.std.specs.Prelude.{◌∷◌, ◌++◌, ℕ, Bool, false, true, [], List, Option, None, Some, codes, decimal, flat_map}
use Rattle.json.specs.Print.{escape, print}
use Rattle.json.specs.Token.{Token, begin_object, boolean, end_object, key, null, number, string}
use Rattle.sixel_grammar.specs.declared.fault.Fault.{Fault}
use Rattle.sixel_model.specs.declared.rule.Rule.{Rule as ARule}
use Rattle.sixel_model.specs.declared.rule.Rule.TheVariants as rule
use Rattle.sixel_judge.specs.declared.verdict.Finding.{Finding}
use Rattle.sixel_judge.specs.declared.verdict.Outcome.{Outcome as AnOutcome}
use Rattle.sixel_judge.specs.declared.verdict.Outcome.TheVariants as outcome
use Rattle.sixel_emulator_rules.specs.declared.asking.AskedFinding.{AskedFinding}
use Rattle.sixel_emulator_rules.specs.declared.rule.AskedRule.{AskedRule}
use Rattle.sixel_emulator_rules.specs.declared.tally.AskedEntry.{AskedEntry as AnAskedEntry}
use Rattle.sixel_emulator_check.specs.declared.rule.NamedRule.{NamedRule}
use Rattle.sixel_emulator_check.specs.declared.rule.NamedRule.TheVariants as named
use Rattle.sixel_survey.specs.declared.entry.Entry.{Entry as AnEntry}
use Rattle.sixel_scan.specs.declared.answer.Answer.{Answer}
use Rattle.sixel_scan.specs.declared.answer.Answer.TheVariants.{Portable, Broken, Refused}
use Rattle.sixel_scan.specs.declared.answer.Scanned.{Scanned}
use Rattle.sixel_explain.specs.declared.explanations.Topic.{Topic}
use Rattle.sixel_explain.specs.declared.explanations.Topic.TheVariants as topic
use Rattle.sixel_explain.specs.Explanations.{summary, topic_name, topic_of}
use Rattle.sixel_report.specs.declared.fault.RunFault.{RunFault}
use Rattle.sixel_report.specs.declared.fault.RunFault.TheVariants.{Grammar, Ppm, Read}
use Rattle.sixel_report.specs.declared.item.Item.{Item}
use Rattle.sixel_report.specs.declared.item.Item.TheVariants.{Asked, AskedEntry, Outcome, Entry, Group, Same, String}
use Rattle.sixel_report.specs.declared.item.Item.TheVariants.{Unmodelled}
use Rattle.sixel_report.specs.Texts.{Text, named_rule_name, ppm_reason_name, reason_name}
use Rattle.sixel_messages.specs.declared.unopened.Unopened.{Unopened}
use Rattle.sixel_messages.specs.declared.names.Spelling.{Spelling}
use Rattle.sixel_messages.specs.declared.names.Spelling.TheVariants.{Printed, Quoted}
use Rattle.sixel_printing.specs.Printing.{printed}
use Rattle.sixel_messages.specs.Unopened.{reason_text}

-- ---- spelling

-- how a name is spelled: for people, or between the quotes of a string of JSON
abbrev pub spelled : Spelling → Text → Text
spelled Printed name = printed name
spelled Quoted name = escape name

-- ---- objects

-- a member of an object: its name and its value
abbrev pub Member : Type 0
Member = Text × Token

abbrev pub text_member : Text → Text → Member
text_member name text = (name, string text)

-- a number in decimal digits
abbrev pub number_member : Text → ℕ → Member
number_member name n = (name, number (decimal n))

abbrev pub tokens_of : Member → List Token
tokens_of member = key member.0 ∷ member.1 ∷ []

-- an object of these members
abbrev pub object : List Member → List Token
object members = begin_object ∷ (flat_map tokens_of members ++ end_object ∷ [])

-- the object on a line of its own
unfoldable pub json_line : List Member → Text
json_line members = print (object members) ++ 10 ∷ []

-- a member that isn't the first of its object: a comma comes before it
unfoldable pub next_member : Member → Text
next_member member = 44 ∷ print (tokens_of member)

abbrev pub next_members : List Member → Text
next_members members = flat_map next_member members

-- the file, by the name that was given; nothing for standard input without a name
unfoldable pub file_member : Option Text → Member
file_member None = (codes "file", null)
file_member (Some name) = text_member (codes "file") name

-- the line of an object that begins with this file, whose other members are this text
unfoldable pub object_line : Option Text → Text → Text
object_line label rest = (123 ∷ print (tokens_of (file_member label))) ++ (rest ++ 125 ∷ 10 ∷ [])

-- ---- members

abbrev pub result_member : Text → Member
result_member name = text_member (codes "result") name

abbrev pub offset_member : ℕ → Member
offset_member place = number_member (codes "offset") place

-- what is wrong, in words
abbrev pub message_member : Topic → Member
message_member t = text_member (codes "message") (summary t)

-- the column and the row, if there is a pixel
abbrev pub column_and_row : Option (ℕ × ℕ) → List Member
column_and_row None = []
column_and_row (Some pixel) = number_member (codes "x") pixel.0 ∷ number_member (codes "y") pixel.1 ∷ []

-- the pixel, if the rule names one
abbrev pub pixel_members : ARule → Option (ℕ × ℕ) → List Member
pixel_members rule.Outside pixel = column_and_row pixel
pixel_members rule.Uncovered pixel = column_and_row pixel
pixel_members _ pixel = []

abbrev pub size_members : ℕ → ℕ → List Member
size_members width height =
    result_member (codes "portable") ∷ number_member (codes "width") width ∷ number_member (codes "height") height ∷ []

abbrev pub broken_members : NamedRule → List Member
broken_members r = result_member (codes "broken") ∷ text_member (codes "rule") (named_rule_name r) ∷ []

-- where a rule is broken, and what it forbids
abbrev pub broken_at : ARule → ℕ → Option (ℕ × ℕ) → List Member
broken_at r place pixel = offset_member place ∷ (pixel_members r pixel ++ message_member (topic.Rule r) ∷ [])

-- the same of a rule that a named terminal asks for; none names a pixel
abbrev pub asked_at : AskedRule → ℕ → List Member
asked_at r place = offset_member place ∷ message_member (topic.Asked r) ∷ []

abbrev pub finding_members : Finding → List Member
finding_members f = broken_members (named.Portable f.rule) ++ broken_at f.rule f.place f.pixel

abbrev pub asked_members : AskedFinding → List Member
asked_members f = broken_members (named.Asked f.rule) ++ asked_at f.rule f.place

abbrev pub outcome_members : AnOutcome → List Member
outcome_members (outcome.Portable width height) = size_members width height
outcome_members (outcome.Broken finding) = finding_members finding

-- an entry of a survey also has how often it counts
abbrev pub entry_members : AnEntry → List Member
entry_members e =
    broken_members (named.Portable e.rule)
    ++ number_member (codes "count") e.count ∷ broken_at e.rule e.place e.pixel

abbrev pub asked_entry_members : AnAskedEntry → List Member
asked_entry_members e =
    broken_members (named.Asked e.rule) ++ number_member (codes "count") e.count ∷ asked_at e.rule e.place

-- refused for this reason
abbrev pub refused_members : Text → List Member
refused_members reason = result_member (codes "refused") ∷ text_member (codes "reason") reason ∷ []

-- and the fault is at this offset
abbrev pub refused_at : Text → ℕ → Topic → List Member
refused_at reason place t = refused_members reason ++ offset_member place ∷ message_member t ∷ []

-- and it has no offset
abbrev pub plain_refusal : Topic → List Member
plain_refusal t = refused_members (topic_name t) ++ message_member t ∷ []

abbrev pub refusal_members : Fault → List Member
refusal_members fault = refused_at (reason_name fault.reason) fault.place (topic.Grammar fault.reason)

abbrev pub answer_members : Answer → List Member
answer_members (Portable width height) = size_members width height
answer_members (Broken finding) = finding_members finding
answer_members (Refused fault) = refusal_members fault

-- that a string of a scan is wrapped for tmux or GNU Screen, if it is
abbrev pub wrapped_members : Bool → List Member
wrapped_members true = (codes "wrapped", boolean true) ∷ []
wrapped_members false = []

-- a string of a scan: its offset, whether it is wrapped, and its answer
abbrev pub string_members : Scanned → List Member
string_members s =
    number_member (codes "string") s.place ∷ (wrapped_members s.wrapped ++ answer_members s.answer)

-- what a check, a survey or a scan says; a comparison of terminals has no JSON
unfoldable pub item_members : Item → List Member
item_members (Outcome o) = outcome_members o
item_members (Asked f) = asked_members f
item_members (Entry e) = entry_members e
item_members (AskedEntry e) = asked_entry_members e
item_members (String s) = string_members s
item_members (Same width height) = []
item_members (Group g) = []
item_members (Unmodelled terminal place) = []

-- not read for this reason
abbrev pub not_read_members : Text → List Member
not_read_members reason =
    result_member (codes "unread") ∷ text_member (codes "reason") reason ∷ message_member topic.Read ∷ []

-- why an input is refused, or that it couldn't be read
unfoldable pub fault_members : RunFault → List Member
fault_members (Grammar fault) = refusal_members fault
fault_members (Ppm reason place) = refused_at (ppm_reason_name reason) place (topic.Ppm reason)
fault_members Read = not_read_members (codes "read failed")
fault_members fault = plain_refusal (topic_of fault)

-- why a file can't be opened
unfoldable pub unread_members : Unopened → List Member
unread_members reason = not_read_members (reason_text reason)
