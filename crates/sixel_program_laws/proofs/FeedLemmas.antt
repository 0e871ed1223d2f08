-- Each line that is written is one line: it has no line feed before its end.
use Rattle.std.proofs.Common.{◌≡◌, ◌++◌, ◌∷◌, ℕ, true, false, Bool, List, [], Option, Some, None, ap, append_assoc}
use Rattle.std.proofs.Common.{arith, codes, map, ne_eqb, refl, sym, ◌∙◌}
use Rattle.std.specs.Prelude.{◌&&◌, decimal, nat_eq, not}
use Rattle.std.specs.List.{All}
use Rattle.std.proofs.lemmas.List.Elements.{All-append, All-cons, All-nil}
use Rattle.sixel_grammar.specs.declared.fault.Reason.{Reason}
use Rattle.sixel_grammar.specs.declared.fault.Reason.TheVariants as reason
use Rattle.sixel_model.specs.declared.rule.Rule.{Rule}
use Rattle.sixel_model.specs.declared.rule.Rule.TheVariants as rule
use Rattle.sixel_judge.specs.declared.verdict.Outcome.{Outcome}
use Rattle.sixel_judge.specs.declared.verdict.Outcome.TheVariants.{Portable, Broken}
use Rattle.sixel_survey.specs.declared.entry.Entry.{Entry}
use Rattle.sixel_emulator_rules.specs.Names.{name_of}
use Rattle.sixel_emulator_rules.specs.declared.rule.AskedRule.{AskedRule}
use Rattle.sixel_emulator_rules.specs.declared.rule.AskedRule.TheVariants as asked
use Rattle.sixel_scan.specs.declared.answer.Answer.{Answer}
use Rattle.sixel_scan.specs.declared.answer.Answer.TheVariants as scanned
use Rattle.sixel_named_terminals.specs.declared.named.Named.{Named}
use Rattle.sixel_named_terminals.specs.declared.named.Named.TheVariants.{XTerm, MlTerm, Foot, Konsole}
use Rattle.sixel_report.specs.declared.item.Item.{Item}
use Rattle.sixel_report.specs.declared.item.Item.TheVariants as item
use Rattle.sixel_report.specs.Texts.{IsLine, Text, entry_line, line, numbers, pixel_parts, rule_name, spaced}
use Rattle.sixel_report.specs.Texts.{answer_line, column_and_row, item_line, outcome_line, reason_name, terminal_name}
use Rattle.sixel_report.specs.Texts.{members_in}
use Rattle.sixel_explain_laws.proofs.DigitLemmas.{AreDigits, number_digits}

-- a text without line feeds
abbrev IsUnfed : ℕ → Type 0
IsUnfed byte = nat_eq byte 10 ≡ false

abbrev AreUnfed : List Text → Type 0
AreUnfed [] = Unit {0}
AreUnfed (part ∷ parts) = All IsUnfed part × AreUnfed parts

-- whether a text has none
abbrev has_no_feed : Text → Bool
has_no_feed [] = true
has_no_feed (byte ∷ text) = not (nat_eq byte 10) && has_no_feed text

both_true : (a b : Bool) → (a && b) ≡ true → (a ≡ true) × (b ≡ true)
both_true true b e = (refl, e)
both_true false b e = let bad : false ≡ true = e in cc

not_true : (a : Bool) → not a ≡ true → a ≡ false
not_true true e = let bad : false ≡ true = e in cc
not_true false e = refl

name_unfed : (text : Text) → has_no_feed text ≡ true → All IsUnfed text
name_unfed [] none = All-nil IsUnfed
name_unfed (byte ∷ text) none =
    let both = both_true (not (nat_eq byte 10)) (has_no_feed text) none in
    All-cons IsUnfed byte text (not_true (nat_eq byte 10) both.0) (name_unfed text both.1)

rule_unfed : (r : Rule) → All IsUnfed (rule_name r)
rule_unfed rule.RasterFirst = name_unfed (codes "RasterFirst") refl
rule_unfed rule.RasterTwice = name_unfed (codes "RasterTwice") refl
rule_unfed rule.Ratio = name_unfed (codes "Ratio") refl
rule_unfed rule.BoxSize = name_unfed (codes "BoxSize") refl
rule_unfed rule.Register = name_unfed (codes "Register") refl
rule_unfed rule.ColourValue = name_unfed (codes "ColourValue") refl
rule_unfed rule.RepeatZero = name_unfed (codes "RepeatZero") refl
rule_unfed rule.Unselected = name_unfed (codes "Unselected") refl
rule_unfed rule.Undefined = name_unfed (codes "Undefined") refl
rule_unfed rule.Redefined = name_unfed (codes "Redefined") refl
rule_unfed rule.Outside = name_unfed (codes "Outside") refl
rule_unfed rule.Uncovered = name_unfed (codes "Uncovered") refl
rule_unfed rule.EightBit = name_unfed (codes "EightBit") refl

asked_unfed : (r : AskedRule) → All IsUnfed (name_of r)
asked_unfed asked.RasterLate = name_unfed (codes "RasterLate") refl
asked_unfed asked.Dropped = name_unfed (codes "Dropped") refl
asked_unfed asked.Stale = name_unfed (codes "Stale") refl
asked_unfed asked.Large = name_unfed (codes "Large") refl
asked_unfed asked.Rows = name_unfed (codes "Rows") refl
asked_unfed asked.Past = name_unfed (codes "Past") refl
asked_unfed asked.Hue = name_unfed (codes "Hue") refl
asked_unfed asked.Far = name_unfed (codes "Far") refl
asked_unfed asked.Introducer = name_unfed (codes "Introducer") refl
asked_unfed asked.Bare = name_unfed (codes "Bare") refl
asked_unfed asked.SpaceAfter = name_unfed (codes "SpaceAfter") refl

-- nor do digits
digits_unfed : (ds : Text) → AreDigits ds → All IsUnfed ds
digits_unfed [] are = All-nil IsUnfed
digits_unfed (d ∷ ds) are =
    All-cons IsUnfed d ds (ne_eqb d 10 (λ is. omega (arith, is, are.0.0))) (digits_unfed ds are.1)

number_unfed : (n : ℕ) → All IsUnfed (decimal n)
number_unfed n = digits_unfed (decimal n) (number_digits n)

pixel_unfed : (r : Rule) (pixel : Option (ℕ × ℕ)) → AreUnfed (pixel_parts r pixel)
pixel_unfed rule.Outside None = tt
pixel_unfed rule.Outside (Some p) = (number_unfed p.0, (number_unfed p.1, tt))
pixel_unfed rule.Uncovered None = tt
pixel_unfed rule.Uncovered (Some p) = (number_unfed p.0, (number_unfed p.1, tt))
pixel_unfed _ pixel = tt

spaced_unfed : (parts : List Text) → AreUnfed parts → All IsUnfed (spaced parts)
spaced_unfed [] are = All-nil IsUnfed
spaced_unfed (part ∷ parts) are =
    All-cons IsUnfed 32 (part ++ spaced parts) refl
    (All-append IsUnfed part (spaced parts) are.0 (spaced_unfed parts are.1))

-- parts without line feeds make a line
is_line : (first : Text) (parts : List Text) → All IsUnfed first → AreUnfed parts → IsLine (line first parts)
is_line first parts one are = (
  first ++ spaced parts,
  refl,
  All-append IsUnfed first (spaced parts) one (spaced_unfed parts are),
)

pub outcome_is_line : (o : Outcome) → IsLine (outcome_line o)
outcome_is_line (Portable width height) =
    is_line (codes "portable") (numbers (width ∷ height ∷ [])) (name_unfed (codes "portable") refl)
    (number_unfed width, (number_unfed height, tt))
outcome_is_line (Broken f) =
    is_line (codes "broken") (rule_name f.rule ∷ decimal f.place ∷ pixel_parts f.rule f.pixel)
    (name_unfed (codes "broken") refl)
    (rule_unfed f.rule, (number_unfed f.place, pixel_unfed f.rule f.pixel))

reason_unfed : (r : Reason) → All IsUnfed (reason_name r)
reason_unfed reason.NotSixel = name_unfed (codes "NotSixel") refl
reason_unfed reason.BadByte = name_unfed (codes "BadByte") refl
reason_unfed reason.NumberTooLarge = name_unfed (codes "NumberTooLarge") refl
reason_unfed reason.FieldCount = name_unfed (codes "FieldCount") refl
reason_unfed reason.BadRepeat = name_unfed (codes "BadRepeat") refl
reason_unfed reason.BadTerminator = name_unfed (codes "BadTerminator") refl
reason_unfed reason.Truncated = name_unfed (codes "Truncated") refl
reason_unfed reason.TooLong = name_unfed (codes "TooLong") refl
reason_unfed reason.Trailing = name_unfed (codes "Trailing") refl

-- a number, a space and a line are a line
after_place : (place : ℕ) (first : Text) (parts : List Text) → All IsUnfed first → AreUnfed parts
    → IsLine (decimal place ++ 32 ∷ line first parts)
after_place place first parts one are =
    let whole = is_line first parts one are in (
      decimal place ++ 32 ∷ whole.0,
      ap (λ (t : Text). decimal place ++ 32 ∷ t) whole.1
          ∙ sym (append_assoc (decimal place) (32 ∷ whole.0) (10 ∷ [])),
      All-append IsUnfed (decimal place) (32 ∷ whole.0) (number_unfed place) (All-cons IsUnfed 32 whole.0 refl whole.2),
    )

entry_is_line : (e : Entry) → IsLine (entry_line e)
entry_is_line e =
    is_line (rule_name e.rule) (decimal e.count ∷ decimal e.place ∷ pixel_parts e.rule e.pixel) (rule_unfed e.rule)
    (number_unfed e.count, (number_unfed e.place, pixel_unfed e.rule e.pixel))

-- ---- strings

answer_is_line : (place : ℕ) (a : Answer) → IsLine (decimal place ++ 32 ∷ answer_line a)
answer_is_line place (scanned.Portable width height) =
    after_place place (codes "portable") (numbers (width ∷ height ∷ [])) (name_unfed (codes "portable") refl)
    (number_unfed width, (number_unfed height, tt))
answer_is_line place (scanned.Broken f) =
    after_place place (codes "broken") (rule_name f.rule ∷ decimal f.place ∷ pixel_parts f.rule f.pixel)
    (name_unfed (codes "broken") refl)
    (rule_unfed f.rule, (number_unfed f.place, pixel_unfed f.rule f.pixel))
answer_is_line place (scanned.Refused f) =
    after_place place (codes "refused") (reason_name f.reason ∷ decimal f.place ∷ [])
    (name_unfed (codes "refused") refl) (reason_unfed f.reason, (number_unfed f.place, tt))

-- ---- named terminals

terminal_unfed : (named : Named) → All IsUnfed (terminal_name named)
terminal_unfed XTerm = name_unfed (codes "xterm") refl
terminal_unfed MlTerm = name_unfed (codes "mlterm") refl
terminal_unfed Foot = name_unfed (codes "foot") refl
terminal_unfed Konsole = name_unfed (codes "konsole") refl

terminals_unfed : (some : List Named) → AreUnfed (map terminal_name some)
terminals_unfed [] = tt
terminals_unfed (named ∷ more) = (terminal_unfed named, terminals_unfed more)

place_unfed : (pixel : Option (ℕ × ℕ)) → AreUnfed (column_and_row pixel)
place_unfed None = tt
place_unfed (Some pixel) = (number_unfed pixel.0, (number_unfed pixel.1, tt))

both_unfed : (a b : List Text) → AreUnfed a → AreUnfed b → AreUnfed (a ++ b)
both_unfed [] b p q = q
both_unfed (text ∷ more) b p q = (p.0, both_unfed more b p.1 q)

-- ---- items

pub item_is_line : (i : Item) → IsLine (item_line i)
item_is_line (item.Outcome outcome) = outcome_is_line outcome
item_is_line (item.Asked f) =
    is_line (codes "broken") (name_of f.rule ∷ decimal f.place ∷ []) (name_unfed (codes "broken") refl)
    (asked_unfed f.rule, (number_unfed f.place, tt))
item_is_line (item.Entry entry) = entry_is_line entry
item_is_line (item.AskedEntry e) =
    is_line (name_of e.rule) (decimal e.count ∷ decimal e.place ∷ []) (asked_unfed e.rule)
    (number_unfed e.count, (number_unfed e.place, tt))
item_is_line (item.String s) = answer_is_line s.place s.answer
item_is_line (item.Same width height) =
    is_line (codes "same") (numbers (width ∷ height ∷ [])) (name_unfed (codes "same") refl)
    (number_unfed width, (number_unfed height, tt))
item_is_line (item.Group g) =
    is_line (terminal_name g.leader) (map terminal_name (members_in g.others) ++ column_and_row g.pixel)
    (terminal_unfed g.leader)
    (both_unfed (map terminal_name (members_in g.others)) (column_and_row g.pixel)
    (terminals_unfed (members_in g.others)) (place_unfed g.pixel))
item_is_line (item.Unmodelled named place) =
    is_line (terminal_name named) (codes "unmodelled" ∷ decimal place ∷ []) (terminal_unfed named)
    (name_unfed (codes "unmodelled") refl, (number_unfed place, tt))
