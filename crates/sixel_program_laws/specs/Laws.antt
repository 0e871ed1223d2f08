-- What the laws say.
use Rattle.std.specs.Prelude.{◌≡◌, ◌⊎◌, ◌<◌, ◌-◌, ◌^◌, ◌∷◌, ℕ, [], List, Option, ⊤, IfSome, All, decimal, true}
use Rattle.json.specs.Json as json
use Rattle.json.specs.Json.{Json, Members}
use Rattle.json.specs.Token.{Token, boolean, null, number, string}
use Rattle.sixel_judge.specs.declared.verdict.Finding.{Finding}
use Rattle.sixel_judge.specs.declared.verdict.Outcome.{Outcome as AnOutcome}
use Rattle.sixel_judge.specs.declared.verdict.Outcome.TheVariants as outcome
use Rattle.sixel_survey.specs.declared.entry.Entry.{Entry as AnEntry}
use Rattle.sixel_scan.specs.declared.answer.Answer.{Answer}
use Rattle.sixel_scan.specs.declared.answer.Answer.TheVariants.{Portable, Broken, Refused}
use Rattle.sixel_report.specs.declared.fault.RunFault.{RunFault}
use Rattle.sixel_report.specs.declared.fault.RunFault.TheVariants.{Grammar, Ppm}
use Rattle.sixel_report.specs.declared.item.Item.{Item}
use Rattle.sixel_report.specs.declared.item.Item.TheVariants.{Asked, AskedEntry, Outcome, Entry, Group, Same, String}
use Rattle.sixel_report.specs.declared.item.Item.TheVariants.{Unmodelled}
use Rattle.sixel_report.specs.Texts.{Text}
use Rattle.std.specs.Io.KnownBytes.{Appends}
use Rattle.sixel_io.specs.Devices.{Change, SinkState}
use Rattle.sixel_messages.specs.Json.{Member}

-- ---- reading back

-- the value is nothing, a text, the decimal digits of a number below 2 ^ 64, or `true`
abbrev pub IsValue : Token → Type 0
IsValue token =
    (token ≡ null) ⊎ ((text : Text) × (token ≡ string text)) ⊎ ((n : ℕ) × (n < 2 ^ 64) × (token ≡ number (decimal n)))
    ⊎ (token ≡ boolean true)

abbrev pub HaveValues : List Member → Type 0
HaveValues members = All (λ member. IsValue member.1) members

-- the value as a reader of JSON has it
abbrev pub value_of : Token → Json
value_of (string s) = json.string s
value_of (number s) = json.number s
value_of (boolean b) = json.boolean b
value_of _ = json.null

-- and the members
abbrev pub members_of : List Member → Members
members_of [] = json.no_members
members_of (m ∷ ms) = json.member m.0 (value_of m.1) (members_of ms)

-- the column and the row are below 2 ^ 64
abbrev pub FitsPixel : Option (ℕ × ℕ) → Type 0
FitsPixel pixel = IfSome pixel (λ p. (p.0 < 2 ^ 64) × (p.1 < 2 ^ 64))

-- and so are the numbers of a finding, ...
abbrev pub FitsFinding : Finding → Type 0
FitsFinding f = (f.place < 2 ^ 64) × FitsPixel f.pixel

abbrev pub FitsOutcome : AnOutcome → Type 0
FitsOutcome (outcome.Portable width height) = (width < 2 ^ 64) × (height < 2 ^ 64)
FitsOutcome (outcome.Broken finding) = FitsFinding finding

abbrev pub FitsEntry : AnEntry → Type 0
FitsEntry e = (e.count < 2 ^ 64) × (e.place < 2 ^ 64) × FitsPixel e.pixel

abbrev pub FitsAnswer : Answer → Type 0
FitsAnswer (Portable width height) = (width < 2 ^ 64) × (height < 2 ^ 64)
FitsAnswer (Broken finding) = FitsFinding finding
FitsAnswer (Refused fault) = fault.place < 2 ^ 64

abbrev pub FitsItem : Item → Type 0
FitsItem (Outcome o) = FitsOutcome o
FitsItem (Asked f) = f.place < 2 ^ 64
FitsItem (Entry e) = FitsEntry e
FitsItem (AskedEntry e) = (e.count < 2 ^ 64) × (e.place < 2 ^ 64)
FitsItem (String s) = (s.place < 2 ^ 64) × FitsAnswer s.answer
FitsItem (Same width height) = ⊤
FitsItem (Group g) = ⊤
FitsItem (Unmodelled terminal place) = ⊤

abbrev pub FitsFault : RunFault → Type 0
FitsFault (Grammar fault) = fault.place < 2 ^ 64
FitsFault (Ppm reason place) = place < 2 ^ 64
FitsFault _ = ⊤

-- ---- what is said of all

-- a call on a sink failed: its count of failures rose, or is the greatest `u64`
abbrev pub HasFailed : Change SinkState → Type 0
HasFailed sink = (sink.old.failures < sink.new.failures) ⊎ (sink.new.failures ≡ 2 ^ 64 - 1)

-- the text was appended to the bytes of a sink, or a call on the sink failed
abbrev pub IsSaid : Text → Change SinkState → Type 0
IsSaid text sink =
    (Appends sink.old.taken sink.new.taken text × (sink.new.failures ≡ sink.old.failures)) ⊎ HasFailed sink
