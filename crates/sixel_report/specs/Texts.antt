-- The lines that the program writes.
use Rattle.std.specs.Prelude.{◌≡◌, ℕ, Bool, List, [], ◌∷◌, ◌++◌, Option, Some, None, codes, decimal, flat_map, map, ◌+◌}
use Rattle.std.specs.Prelude.{false, filter, if◌then◌else◌, nat_eq}
use Rattle.std.specs.List.{All}
use Rattle.std.specs.Option.{option_to_list}
use Rattle.sixel_grammar.specs.declared.command.Command.{Command}
use Rattle.sixel_grammar.specs.declared.command.Command.TheVariants.{Sixel, Repeat, Raster, Select, Define}
use Rattle.sixel_grammar.specs.declared.command.Command.TheVariants.{CarriageReturn, NextLine}
use Rattle.sixel_grammar.specs.declared.command.Event.{Event}
use Rattle.sixel_grammar.specs.declared.command.Event.TheVariants.{Start, Step, Finish}
use Rattle.sixel_grammar.specs.declared.command.Placed.{Placed}
use Rattle.sixel_grammar.specs.declared.fault.Fault.{Fault}
use Rattle.sixel_grammar.specs.declared.fault.Reason.{Reason}
use Rattle.sixel_grammar.specs.declared.fault.Reason.TheVariants.{NotSixel, BadByte, NumberTooLarge, FieldCount}
use Rattle.sixel_grammar.specs.declared.fault.Reason.TheVariants.{BadRepeat, BadTerminator, Truncated, TooLong}
use Rattle.sixel_grammar.specs.declared.fault.Reason.TheVariants.{Trailing}
use Rattle.sixel_ppm.specs.declared.ppm.PpmReason.{PpmReason}
use Rattle.sixel_ppm.specs.declared.ppm.PpmReason.TheVariants as ppm
use Rattle.sixel_model.specs.Pictures.{PictureValue}
use Rattle.sixel_model.specs.declared.rule.Rule.{Rule}
use Rattle.sixel_model.specs.declared.rule.Rule.TheVariants as rule
use Rattle.sixel_judge.specs.declared.verdict.Finding.{Finding}
use Rattle.sixel_judge.specs.declared.verdict.Verdict.{Verdict}
use Rattle.sixel_judge.specs.declared.verdict.Verdict.TheVariants.{Portable, Broken}
use Rattle.sixel_judge.specs.declared.verdict.Outcome.{Outcome}
use Rattle.sixel_judge.specs.declared.verdict.Outcome.TheVariants.{Portable as PortableSize, Broken as BrokenRule}
use Rattle.sixel_survey.specs.declared.entry.Entry.{Entry}
use Rattle.sixel_emulator_rules.specs.Names.{name_of}
use Rattle.sixel_emulator_rules.specs.declared.asking.AskedFinding.{AskedFinding}
use Rattle.sixel_emulator_rules.specs.declared.tally.AskedEntry.{AskedEntry}
use Rattle.sixel_report.specs.declared.differences.Members.{Members}
use Rattle.sixel_emulator_check.specs.declared.rule.NamedRule.{NamedRule}
use Rattle.sixel_emulator_check.specs.declared.rule.NamedRule.TheVariants as named
use Rattle.sixel_emulator_check.specs.declared.surveying.NamedSurvey.{NamedSurvey}
use Rattle.sixel_emulator_check.specs.declared.verdict.NamedOutcome.{NamedOutcome}
use Rattle.sixel_emulator_check.specs.declared.verdict.NamedOutcome.TheVariants as outcome
use Rattle.sixel_emulator_check.specs.declared.verdict.NamedVerdict.{NamedVerdict}
use Rattle.sixel_emulator_check.specs.declared.verdict.NamedVerdict.TheVariants as verdict
use Rattle.sixel_scan.specs.declared.answer.Answer.{Answer}
use Rattle.sixel_scan.specs.declared.answer.Answer.TheVariants as scanned
use Rattle.sixel_scan.specs.declared.answer.Scanned.{Scanned}
use Rattle.sixel_named_terminals.specs.declared.named.Named.{Named}
use Rattle.sixel_named_terminals.specs.declared.named.Named.TheVariants.{XTerm, MlTerm, Foot, Konsole}
use Rattle.sixel_report.specs.declared.differences.Group.{Group}
use Rattle.sixel_report.specs.declared.item.Item.{Item}
use Rattle.sixel_report.specs.declared.item.Item.TheVariants as item
use Rattle.sixel_report.specs.declared.fault.RunFault.{RunFault}
use Rattle.sixel_report.specs.declared.fault.RunFault.TheVariants.{Grammar, Ppm, NotRgb, NoBox, NoString, Empty}
use Rattle.sixel_report.specs.declared.fault.RunFault.TheVariants.{TooLarge, TooManyColours, OutOfMemory, Read}
use Rattle.sixel_report.specs.declared.fault.RunFault.TheVariants.{Hue, Large, Unmodelled, Write}

abbrev pub Text : Type 0
Text = List ℕ

-- the text begins with this part
abbrev pub BeginsWith : Text → Text → Type 0
BeginsWith text part = (rest : Text) × (text ≡ part ++ rest)

-- ---- lines

-- the text is one line: its only line feed is its last byte
abbrev pub IsLine : Text → Type 0
IsLine text = (front : Text) × (text ≡ front ++ 10 ∷ []) × All (λ byte. nat_eq byte 10 ≡ false) front

-- each part after one space
abbrev pub spaced : List Text → Text
spaced parts = flat_map (λ part. 32 ∷ part) parts

-- a line: its parts, one space between two, and a line feed
abbrev pub line : Text → List Text → Text
line first parts = first ++ spaced parts ++ 10 ∷ []

-- each number in decimal digits
abbrev pub numbers : List ℕ → List Text
numbers ns = map decimal ns

-- ---- events

abbrev pub kind_name : Bool → Text
kind_name eight = if eight then codes "8bit" else codes "7bit"

abbrev pub command_parts : Command → List Text
command_parts (Sixel bits) = codes "sixel" ∷ numbers (bits ∷ [])
command_parts (Repeat count bits) = codes "repeat" ∷ numbers (count ∷ bits ∷ [])
command_parts (Raster pan pad width height) = codes "raster" ∷ numbers (pan ∷ pad ∷ width ∷ height ∷ [])
command_parts (Select register) = codes "select" ∷ numbers (register ∷ [])
command_parts (Define register system x y z) = codes "define" ∷ numbers (register ∷ system ∷ x ∷ y ∷ z ∷ [])
command_parts CarriageReturn = codes "return" ∷ []
command_parts NextLine = codes "newline" ∷ []

abbrev pub event_parts : Event → List Text
event_parts (Start eight parameters) = codes "start" ∷ kind_name eight ∷ numbers parameters.items
event_parts (Step command) = command_parts command
event_parts (Finish eight) = codes "end" ∷ kind_name eight ∷ []

-- the line of an event, its place first
abbrev pub event_line : Placed → Text
event_line p = line (decimal p.place) (event_parts p.event)

-- a line for each event
abbrev pub list_text : List Placed → Text
list_text events = flat_map event_line events

-- ---- faults

abbrev pub reason_name : Reason → Text
reason_name NotSixel = codes "NotSixel"
reason_name BadByte = codes "BadByte"
reason_name NumberTooLarge = codes "NumberTooLarge"
reason_name FieldCount = codes "FieldCount"
reason_name BadRepeat = codes "BadRepeat"
reason_name BadTerminator = codes "BadTerminator"
reason_name Truncated = codes "Truncated"
reason_name TooLong = codes "TooLong"
reason_name Trailing = codes "Trailing"

abbrev pub ppm_reason_name : PpmReason → Text
ppm_reason_name ppm.Header = codes "Header"
ppm_reason_name ppm.Size = codes "Size"
ppm_reason_name ppm.Maxval = codes "Maxval"
ppm_reason_name ppm.Sample = codes "Sample"
ppm_reason_name ppm.Short = codes "Short"
ppm_reason_name ppm.Trailing = codes "Trailing"
ppm_reason_name ppm.TooManyColours = codes "TooManyColours"

abbrev pub fault_parts : RunFault → List Text
fault_parts (Grammar fault) = reason_name fault.reason ∷ codes "at" ∷ decimal fault.place ∷ []
fault_parts (Ppm reason place) = ppm_reason_name reason ∷ codes "at" ∷ decimal place ∷ []
fault_parts NotRgb = codes "NotRgb" ∷ []
fault_parts NoBox = codes "NoBox" ∷ []
fault_parts (Unmodelled place) = codes "Unmodelled" ∷ codes "at" ∷ decimal place ∷ []
fault_parts NoString = codes "NoString" ∷ []
fault_parts (Large width height) = codes "Large" ∷ decimal width ∷ decimal height ∷ []
fault_parts Hue = codes "Hue" ∷ []
fault_parts Empty = codes "Empty" ∷ []
fault_parts TooLarge = codes "TooLarge" ∷ []
fault_parts TooManyColours = codes "TooManyColours" ∷ []
fault_parts OutOfMemory = codes "out of memory" ∷ []
fault_parts Read = codes "read failed" ∷ []
fault_parts Write = codes "write failed" ∷ []

abbrev pub fault_line : RunFault → Text
fault_line fault = line (codes "sixel:") (fault_parts fault)

-- ---- verdicts

abbrev pub rule_name : Rule → Text
rule_name rule.RasterFirst = codes "RasterFirst"
rule_name rule.RasterTwice = codes "RasterTwice"
rule_name rule.Ratio = codes "Ratio"
rule_name rule.BoxSize = codes "BoxSize"
rule_name rule.Register = codes "Register"
rule_name rule.ColourValue = codes "ColourValue"
rule_name rule.RepeatZero = codes "RepeatZero"
rule_name rule.Unselected = codes "Unselected"
rule_name rule.Undefined = codes "Undefined"
rule_name rule.Redefined = codes "Redefined"
rule_name rule.Outside = codes "Outside"
rule_name rule.Uncovered = codes "Uncovered"
rule_name rule.EightBit = codes "EightBit"

-- the name of a rule of portable pictures, or of one that named terminals ask for
abbrev pub named_rule_name : NamedRule → Text
named_rule_name (named.Portable rule) = rule_name rule
named_rule_name (named.Asked rule) = name_of rule

-- the column and the row, if there is a pixel
abbrev pub column_and_row : Option (ℕ × ℕ) → List Text
column_and_row None = []
column_and_row (Some pixel) = numbers (pixel.0 ∷ pixel.1 ∷ [])

-- the pixel, if the rule names one
abbrev pub pixel_parts : Rule → Option (ℕ × ℕ) → List Text
pixel_parts rule.Outside pixel = column_and_row pixel
pixel_parts rule.Uncovered pixel = column_and_row pixel
pixel_parts _ pixel = []

-- the line of a finding: its rule, its offset and its pixel
abbrev pub finding_line : Finding → Text
finding_line f = line (codes "broken") (rule_name f.rule ∷ decimal f.place ∷ pixel_parts f.rule f.pixel)

-- the line of a finding of a rule that a named terminal asks for: the rule and its offset
abbrev pub asked_line : AskedFinding → Text
asked_line f = line (codes "broken") (name_of f.rule ∷ decimal f.place ∷ [])

-- the line of a portable picture of this size: its width and its height
abbrev pub size_line : ℕ → ℕ → Text
size_line width height = line (codes "portable") (numbers (width ∷ height ∷ []))

abbrev pub portable_line : PictureValue → Text
portable_line p = size_line p.width p.height

abbrev pub verdict_line : Verdict → Text
verdict_line (Portable picture) = portable_line picture
verdict_line (Broken finding) = finding_line finding

-- the same of a verdict without its picture
abbrev pub outcome_line : Outcome → Text
outcome_line (PortableSize width height) = size_line width height
outcome_line (BrokenRule finding) = finding_line finding

-- the line of a verdict for named terminals
abbrev pub named_verdict_line : NamedVerdict → Text
named_verdict_line (verdict.Portable picture) = portable_line picture
named_verdict_line (verdict.Broken finding) = finding_line finding
named_verdict_line (verdict.Asked finding) = asked_line finding

-- what a check says that ends so
abbrev pub item_of : NamedOutcome → Item
item_of (outcome.Portable width height) = item.Outcome (PortableSize width height)
item_of (outcome.Broken finding) = item.Outcome (BrokenRule finding)
item_of (outcome.Asked finding) = item.Asked finding

-- ---- surveys

-- the line of an entry: its rule, how often it counts, its offset and its pixel
abbrev pub entry_line : Entry → Text
entry_line e = line (rule_name e.rule) (decimal e.count ∷ decimal e.place ∷ pixel_parts e.rule e.pixel)

-- the line of an entry of a rule that a named terminal asks for: its rule, how often it counts, and its offset
abbrev pub asked_entry_line : AskedEntry → Text
asked_entry_line e = line (name_of e.rule) (decimal e.count ∷ decimal e.place ∷ [])

-- an item for each entry, and the size if the survey has one
abbrev pub survey_items : NamedSurvey → List Item
survey_items s =
    map item.Entry s.entries.items ++ map item.AskedEntry s.asked.items
    ++ map (λ size. item.Outcome (PortableSize size.0 size.1)) (option_to_list s.size)

-- ---- strings of a stream

-- the line of a string that is no document: the reason, and its offset
abbrev pub refusal_line : Fault → Text
refusal_line fault = line (codes "refused") (reason_name fault.reason ∷ decimal fault.place ∷ [])

abbrev pub answer_line : Answer → Text
answer_line (scanned.Portable width height) = size_line width height
answer_line (scanned.Broken finding) = finding_line finding
answer_line (scanned.Refused fault) = refusal_line fault

-- the line of a string: its offset, and after a space the line of its answer
abbrev pub string_line : Scanned → Text
string_line s = decimal s.place ++ 32 ∷ answer_line s.answer

-- ---- named terminals compared

abbrev pub terminal_name : Named → Text
terminal_name XTerm = codes "xterm"
terminal_name MlTerm = codes "mlterm"
terminal_name Foot = codes "foot"
terminal_name Konsole = codes "konsole"

-- the named terminals, in their order
abbrev pub all_named : List Named
all_named = XTerm ∷ MlTerm ∷ Foot ∷ Konsole ∷ []

-- whether the terminal is one of these
abbrev pub has_terminal : Members → Named → Bool
has_terminal some XTerm = some.xterm
has_terminal some MlTerm = some.mlterm
has_terminal some Foot = some.foot
has_terminal some Konsole = some.konsole

-- these terminals, in their order
abbrev pub members_in : Members → List Named
members_in some = filter (has_terminal some) all_named

-- the line of a group: the names of its members, and its pixel if it has one
abbrev pub group_line : Group → Text
group_line g =
    line (terminal_name g.leader) (map terminal_name (members_in g.others) ++ column_and_row g.pixel)

-- the line of a terminal whose model ends: its name, and the offset of the event at which it does
abbrev pub unmodelled_line : Named → ℕ → Text
unmodelled_line named place = line (terminal_name named) (codes "unmodelled" ∷ decimal place ∷ [])

-- the line of equal screens: their width and their height
abbrev pub same_line : ℕ → ℕ → Text
same_line width height = line (codes "same") (numbers (width ∷ height ∷ []))

-- ---- items

-- the line of what a check, a survey, a scan or a comparison says
abbrev pub item_line : Item → Text
item_line (item.Outcome outcome) = outcome_line outcome
item_line (item.Asked finding) = asked_line finding
item_line (item.Entry entry) = entry_line entry
item_line (item.AskedEntry entry) = asked_entry_line entry
item_line (item.String s) = string_line s
item_line (item.Same width height) = same_line width height
item_line (item.Group group) = group_line group
item_line (item.Unmodelled named place) = unmodelled_line named place

-- the lines of the items, one after the other
abbrev pub items_text : List Item → Text
items_text items = flat_map item_line items

-- the lines of a survey
abbrev pub survey_text : NamedSurvey → Text
survey_text s = items_text (survey_items s)
