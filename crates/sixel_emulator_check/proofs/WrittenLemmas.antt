-- A verdict and a survey, where it is known where the rules of the bytes are broken first.
use Rattle.std.proofs.Common.{◌≡◌, ◌∙◌, ◌≤◌, ◌++◌, ◌+◌, ℕ, Bool, true, false, List, [], ◌∷◌, Option, Some, None, ap}
use Rattle.std.proofs.Common.{arith, length, refl, subst, sym}
use Rattle.std.specs.Prelude.{IfSome, cond, filter_map, nat_lt, if◌then◌else◌}
use Rattle.std.specs.List.{cons_option}
use Rattle.std.proofs.lemmas.List.Elements.{filter_map-append}
use Rattle.std.proofs.lemmas.List.{append-nil, length-append}
use Rattle.sixel_grammar.specs.Document.{events_of}
use Rattle.sixel_grammar.specs.declared.command.Event.{Event}
use Rattle.sixel_grammar.specs.declared.command.Placed.{Placed}
use Rattle.sixel_omissions.specs.Omissions.{IsFirstBare, bare_count}
use Rattle.sixel_model.specs.Pictures.{PictureValue}
use Rattle.sixel_model.specs.Positions.{HoldsAtPosition}
use Rattle.sixel_omissions.proofs.FirstBareLemmas.{bare_exists, bare_once}
use Rattle.sixel_emulator_rules.specs.Asked.{is_asked}
use Rattle.sixel_emulator_rules.specs.Counts.{in_order}
use Rattle.sixel_emulator_rules.specs.Tallies.{AreAskedEntries, CountsAsked, IsAskedEntryOf}
use Rattle.sixel_emulator_rules.specs.declared.asking.AskedFinding.{AskedFinding}
use Rattle.sixel_emulator_rules.specs.declared.rule.AskedRule.{AskedRule}
use Rattle.sixel_emulator_rules.specs.declared.rule.AskedRule.TheVariants.{RasterLate, Dropped, Stale, Large, Rows}
use Rattle.sixel_emulator_rules.specs.declared.rule.AskedRule.TheVariants.{Past, Hue, Far, Introducer, Bare, SpaceAfter}
use Rattle.sixel_emulator_rules.specs.declared.tally.AskedEntry.{AskedEntry}
use Rattle.sixel_emulator_rules.specs.declared.terminals.Terminals.{Terminals}
use Rattle.sixel_emulator_check.specs.Checking.{outcome_with}
use Rattle.sixel_emulator_check.specs.Surveys.{IsSurveyOn}
use Rattle.sixel_emulator_check.specs.Trailer.{IsFirstSpace, space_count}
use Rattle.sixel_emulator_check.specs.Verdicts.{IsRightOn, IsVerdictOn, named_outcome_of}
use Rattle.sixel_emulator_check.specs.Written.{IsBareOn, IsIfAsked, IsSpaceOn, IsSurveyOf, IsVerdictOf, entry_at}
use Rattle.sixel_emulator_check.specs.Written.{size_unless, with_finding, with_rule}
use Rattle.sixel_emulator_check.specs.declared.surveying.NamedSurvey.{NamedSurvey}
use Rattle.sixel_emulator_check.specs.declared.verdict.NamedOutcome.TheVariants as outcome
use Rattle.sixel_emulator_check.specs.declared.verdict.NamedVerdict.{NamedVerdict}
use Rattle.sixel_emulator_check.specs.declared.verdict.NamedVerdict.TheVariants.{Portable, Broken, Asked}
use Rattle.sixel_emulator_check.proofs.OneSurveyLemmas.{of_parts, survey_on_exists, survey_on_once}
use Rattle.sixel_emulator_check.proofs.OneVerdictLemmas.{verdict_on_exists, verdict_on_once}
use Rattle.sixel_emulator_check.proofs.TrailerLemmas.{space_exists, space_once}

-- ---- where a rule of the bytes is broken first

if_once : (b : Bool) (first : Option ℕ → Type 0) (o u : Option ℕ)
    → ((p q : Option ℕ) → first p → first q → p ≡ q) → IsIfAsked b first o → IsIfAsked b first u → o ≡ u
if_once true first o u once h k = once o u h k
if_once false first o u once h k = h ∙ sym k

pub bare_on_once : (t : Terminals) (bytes : List ℕ) (o u : Option ℕ) → IsBareOn t bytes o → IsBareOn t bytes u → o ≡ u
bare_on_once t bytes o u h k = if_once (is_asked t Bare) (IsFirstBare bytes) o u (bare_once bytes) h k

pub space_on_once : (t : Terminals) (bytes : List ℕ) (o u : Option ℕ) → IsSpaceOn t bytes o → IsSpaceOn t bytes u
    → o ≡ u
space_on_once t bytes o u h k = if_once (is_asked t SpaceAfter) (IsFirstSpace bytes) o u (space_once bytes) h k

if_exists : (b : Bool) (first : Option ℕ → Type 0) → (o : Option ℕ) × first o → (o : Option ℕ) × IsIfAsked b first o
if_exists true first found = found
if_exists false first found = (None, refl)

bare_on_exists : (t : Terminals) (bytes : List ℕ) → (o : Option ℕ) × IsBareOn t bytes o
bare_on_exists t bytes = if_exists (is_asked t Bare) (IsFirstBare bytes) (bare_exists bytes)

space_on_exists : (t : Terminals) (bytes : List ℕ) → (o : Option ℕ) × IsSpaceOn t bytes o
space_on_exists t bytes = if_exists (is_asked t SpaceAfter) (IsFirstSpace bytes) (space_exists bytes)

-- what is first is first if it is asked for
pub if_asked : (b : Bool) (first : Option ℕ → Type 0) (o u : Option ℕ) → first o → u ≡ cond b o None
    → IsIfAsked b first u
if_asked true first o u h is = subst first (sym is) h
if_asked false first o u h is = is

-- ---- the verdict: exactly one

pub verdict_of_once : (registers : ℕ) (t : Terminals) (bytes : List ℕ) (placed : List Placed) (v w : NamedVerdict)
    → IsVerdictOf registers t bytes placed v → IsVerdictOf registers t bytes placed w → v ≡ w
verdict_of_once registers t bytes placed v w h k =
    let bare = bare_on_once t bytes h.bare k.bare h.bare_is k.bare_is in
    let space = space_on_once t bytes h.space k.space h.space_is k.space_is in
    let same = verdict_on_once registers t placed h.by_events k.by_events h.is k.is in
    h.verdict_is
    ∙ ap (λ (o : Option ℕ). with_rule SpaceAfter o (with_rule Bare h.bare h.by_events)) space
    ∙ ap (λ (o : Option ℕ). with_rule SpaceAfter k.space (with_rule Bare o h.by_events)) bare
    ∙ ap (λ (u : NamedVerdict). with_rule SpaceAfter k.space (with_rule Bare k.bare u)) same
    ∙ sym k.verdict_is

pub verdict_of_exists : (registers : ℕ) (t : Terminals) (bytes : List ℕ) (placed : List Placed)
    → (v : NamedVerdict) × IsVerdictOf registers t bytes placed v
verdict_of_exists registers t bytes placed =
    let v = verdict_on_exists registers t placed in
    let bare = bare_on_exists t bytes in
    let space = space_on_exists t bytes in (
      with_rule SpaceAfter space.0 (with_rule Bare bare.0 v.0),
      record {
        by_events = v.0;
        is = v.1;
        bare = bare.0;
        bare_is = bare.1;
        space = space.0;
        space_is = space.1;
        verdict_is = refl;
      },
    )

-- where none of these rules is broken it is that on the events
pub verdict_by_events : {registers : ℕ} {t : Terminals} {bytes : List ℕ} {placed : List Placed} {v : NamedVerdict}
    (w : IsVerdictOf registers t bytes placed v) → w.bare ≡ None → w.space ≡ None → IsVerdictOn registers t placed v
verdict_by_events {registers} {t} {bytes} {placed} {v} w no_bare no_space =
    let same : v ≡ w.by_events =
    w.verdict_is
    ∙ ap (λ (o : Option ℕ). with_rule SpaceAfter o (with_rule Bare w.bare w.by_events)) no_space
    ∙ ap (λ (o : Option ℕ). with_rule Bare o w.by_events) no_bare in
    subst (IsVerdictOn registers t placed) (sym same) w.is

-- ---- what is made of it

earlier_right : (registers : ℕ) (found : AskedFinding) (placed : List Placed) (v : NamedVerdict) (early : Bool)
    → IsRightOn registers (events_of placed) v
    → IsRightOn registers (events_of placed) (if early then Asked found else v)
earlier_right registers found placed v true h = tt
earlier_right registers found placed v false h = h

finding_right : (registers : ℕ) (found : AskedFinding) (placed : List Placed) (v : NamedVerdict)
    → IsRightOn registers (events_of placed) v → IsRightOn registers (events_of placed) (with_finding found v)
finding_right registers found placed (Portable p) h = tt
finding_right registers found placed (Broken f) h =
    earlier_right registers found placed (Broken f) (nat_lt found.place f.place) h
finding_right registers found placed (Asked f) h =
    earlier_right registers found placed (Asked f) (nat_lt found.place f.place) h

pub right_with : (registers : ℕ) (placed : List Placed) (rule : AskedRule) (first : Option ℕ) (v : NamedVerdict)
    → IsRightOn registers (events_of placed) v → IsRightOn registers (events_of placed) (with_rule rule first v)
right_with registers placed rule None v h = h
right_with registers placed rule (Some n) v h = finding_right registers (record { rule = rule; place = n }) placed v h

earlier_same : (found : AskedFinding) (v : NamedVerdict) (early : Bool)
    → (if early then outcome.Asked found else named_outcome_of v)
    ≡ named_outcome_of (if early then Asked found else v)
earlier_same found v true = refl
earlier_same found v false = refl

-- the same without the picture
pub with_same : (rule : AskedRule) (first : Option ℕ) (v : NamedVerdict)
    → outcome_with rule first (named_outcome_of v) ≡ named_outcome_of (with_rule rule first v)
with_same rule None v = refl
with_same rule (Some n) (Portable p) = refl
with_same rule (Some n) (Broken f) = earlier_same (record { rule = rule; place = n }) (Broken f) (nat_lt n f.place)
with_same rule (Some n) (Asked f) = earlier_same (record { rule = rule; place = n }) (Asked f) (nat_lt n f.place)

-- a picture is left only if the rule isn't broken
no_picture : (p : PictureValue) (found : AskedFinding) (early : Bool) (u : NamedVerdict) → (u ≡ Portable p → ⊥)
    → (if early then Asked found else u) ≡ Portable p → ⊥
no_picture p found true u other h = cc
no_picture p found false u other h = other h

portable_alone : (rule : AskedRule) (v : NamedVerdict) (first : Option ℕ) (p : PictureValue)
    → Portable p ≡ with_rule rule first v → (first ≡ None) × (Portable p ≡ v)
portable_alone rule v None p is = (refl, is)
portable_alone rule (Portable q) (Some n) p is = cc
portable_alone rule (Broken f) (Some n) p is =
    absurd (no_picture p (record { rule = rule; place = n }) (nat_lt n f.place) (Broken f) (λ h. cc) (sym is))
portable_alone rule (Asked f) (Some n) p is =
    absurd (no_picture p (record { rule = rule; place = n }) (nat_lt n f.place) (Asked f) (λ h. cc) (sym is))

-- what a verdict that is a picture says
pub record IsPictureOf (registers : ℕ) (t : Terminals) (bytes : List ℕ) (placed : List Placed) (p : PictureValue) :
    Type 0 where
  pub no_bare : IsBareOn t bytes None
  pub no_space : IsSpaceOn t bytes None
  pub is : IsVerdictOn registers t placed (Portable p)

pub picture_of : {registers : ℕ} {t : Terminals} {bytes : List ℕ} {placed : List Placed} (p : PictureValue)
    → IsVerdictOf registers t bytes placed (Portable p) → IsPictureOf registers t bytes placed p
picture_of {registers} {t} {bytes} {placed} p w =
    let last = portable_alone SpaceAfter (with_rule Bare w.bare w.by_events) w.space p w.verdict_is in
    let first = portable_alone Bare w.by_events w.bare p last.1 in record {
      no_bare = subst (IsBareOn t bytes) first.0 w.bare_is;
      no_space = subst (IsSpaceOn t bytes) last.0 w.space_is;
      is = subst (IsVerdictOn registers t placed) (sym first.1) w.is;
    }

-- ---- the survey

-- the entries of the rules that are asked for: those by events, and those of the rules of the bytes
abbrev entries_with : List ℕ → List AskedEntry → Option ℕ → Option ℕ → List AskedEntry
entries_with bytes by_events bare space =
    (by_events ++ entry_at Bare (bare_count bytes) bare) ++ entry_at SpaceAfter (space_count bytes) space

pub survey_of_once : (registers : ℕ) (t : Terminals) (bytes : List ℕ) (placed : List Placed) (s u : NamedSurvey)
    → IsSurveyOf registers t bytes placed s → IsSurveyOf registers t bytes placed u → s ≡ u
unfolding of_parts
survey_of_once registers t bytes placed s u h k =
    let bare = bare_on_once t bytes h.bare k.bare h.bare_is k.bare_is in
    let space = space_on_once t bytes h.space k.space h.space_is k.space_is in
    let same = survey_on_once registers t placed h.by_events k.by_events h.is k.is in
    let entries : s.entries.items ≡ u.entries.items =
    h.entries_are ∙ ap (λ (n : NamedSurvey). n.entries.items) same ∙ sym k.entries_are in
    let more : s.asked.items ≡ u.asked.items =
    h.asked_are
    ∙ ap (λ (n : NamedSurvey). entries_with bytes n.asked.items h.bare h.space) same
    ∙ ap (λ (o : Option ℕ). entries_with bytes k.by_events.asked.items o h.space) bare
    ∙ ap (λ (o : Option ℕ). entries_with bytes k.by_events.asked.items k.bare o) space
    ∙ sym k.asked_are in
    let size : s.size ≡ u.size =
    h.size_is
    ∙ ap (λ (n : NamedSurvey). size_unless h.space (size_unless h.bare n.size)) same
    ∙ ap (λ (o : Option ℕ). size_unless h.space (size_unless o k.by_events.size)) bare
    ∙ ap (λ (o : Option ℕ). size_unless o (size_unless k.bare k.by_events.size)) space
    ∙ sym k.size_is in
    let whole : of_parts s.entries.items s.asked.items s.size ≡ of_parts u.entries.items u.asked.items u.size =
    cc (entries, more, size) in
    whole

pub survey_of_exists : (registers : ℕ) (t : Terminals) (bytes : List ℕ) (placed : List Placed)
    → (s : NamedSurvey) × IsSurveyOf registers t bytes placed s
survey_of_exists registers t bytes placed =
    let s = survey_on_exists registers t placed in
    let bare = bare_on_exists t bytes in
    let space = space_on_exists t bytes in (
      record {
        entries = s.0.entries;
        asked = record { items = entries_with bytes s.0.asked.items bare.0 space.0 };
        size = size_unless space.0 (size_unless bare.0 s.0.size);
      },
      record {
        by_events = s.0;
        is = s.1;
        bare = bare.0;
        bare_is = bare.1;
        space = space.0;
        space_is = space.1;
        entries_are = refl;
        asked_are = refl;
        size_is = refl;
      },
    )

-- where none of these rules is broken it is the survey of the events
pub survey_alone : (registers : ℕ) (t : Terminals) (bytes : List ℕ) (placed : List Placed) (s : NamedSurvey)
    → IsBareOn t bytes None → IsSpaceOn t bytes None → IsSurveyOn registers t placed s
    → IsSurveyOf registers t bytes placed s
survey_alone registers t bytes placed s no_bare no_space is = record {
  by_events = s;
  is = is;
  bare = None;
  bare_is = no_bare;
  space = None;
  space_is = no_space;
  entries_are = refl;
  asked_are = sym (append-nil (s.asked.items ++ []) ∙ append-nil s.asked.items);
  size_is = refl;
}

-- the entry of a rule was added
pub record HasAdded (rule : AskedRule) (often : ℕ) (first : Option ℕ) (before after : NamedSurvey) : Type 0 where
  pub entries : after.entries ≡ before.entries
  pub asked : after.asked.items ≡ before.asked.items ++ entry_at rule often first
  pub size : after.size ≡ size_unless first before.size

-- the survey of the events, with the entries of the rules of the bytes that are broken
pub with_entries : {registers : ℕ} (t : Terminals) (bytes : List ℕ) (placed : List Placed)
    (by_events with_bare survey : NamedSurvey) (bare space : Option ℕ) (bares spaces : ℕ)
    → IsSurveyOn registers t placed by_events → IsBareOn t bytes bare → IsSpaceOn t bytes space
    → bares ≡ bare_count bytes → spaces ≡ space_count bytes → HasAdded Bare bares bare by_events with_bare
    → HasAdded SpaceAfter spaces space with_bare survey → IsSurveyOf registers t bytes placed survey
with_entries t bytes placed by_events with_bare survey bare space bares spaces is bare_is space_is bares_are spaces_are
    one other = record {
      by_events = by_events;
      is = is;
      bare = bare;
      bare_is = bare_is;
      space = space;
      space_is = space_is;
      entries_are = ap (λ l. l.items) (other.entries ∙ one.entries);
      asked_are = other.asked
          ∙ ap (λ (l : List AskedEntry). l ++ entry_at SpaceAfter spaces space) one.asked
          ∙ ap (λ (n : ℕ). (by_events.asked.items ++ entry_at Bare n bare) ++ entry_at SpaceAfter spaces space) bares_are
          ∙ ap (λ (n : ℕ). (by_events.asked.items ++ entry_at Bare (bare_count bytes) bare) ++ entry_at SpaceAfter n space)
          spaces_are;
      size_is = other.size ∙ ap (size_unless space) one.size;
    }

-- what holds of the document's bytes, given what was seen of the source's
pub told_with : (known : Option (List ℕ)) (bytes : List ℕ) (Q P : List ℕ → Type 0)
    → IfSome known (λ given. given ≡ bytes) → IfSome known Q → (Q bytes → P bytes) → IfSome known P
told_with None bytes Q P are q holds = tt
told_with (Some given) bytes Q P are q holds = subst P (sym are) (holds (subst Q are q))

-- ---- there is room for these entries

-- a rule that counts nowhere has none
has_none : (t : Terminals) (placed : List Placed) (m : AskedRule) (o : Option AskedEntry)
    → ((before : List Event) (event : Event) → ¬ CountsAsked m before event) → IsAskedEntryOf t placed m o → o ≡ None
has_none t placed m None never h = refl
has_none t placed m (Some e) never h =
    let counts : HoldsAtPosition (CountsAsked m) (events_of placed) h.2 =
    subst (λ (r : AskedRule). HoldsAtPosition (CountsAsked r) (events_of placed) h.2) h.1 (h.3).counts in
    absurd (never _ _ counts.holds)

short : (f : AskedRule → Option AskedEntry) (xs : List AskedRule) → length (filter_map f xs) ≤ length xs
short f [] = omega arith
short f (x ∷ xs) = by (f x) (short f xs)
  where
    by : (o : Option AskedEntry) → length (filter_map f xs) ≤ length xs
        → length (cons_option o (filter_map f xs)) ≤ length (x ∷ xs)
    by None few = omega (arith, few)
    by (Some e) few = omega (arith, few)

first_nine : List AskedRule
first_nine = RasterLate ∷ Dropped ∷ Stale ∷ Large ∷ Rows ∷ Past ∷ Hue ∷ Far ∷ Introducer ∷ []

-- events tell of nine of the rules
pub few_by_events : (t : Terminals) (placed : List Placed) (entries : List AskedEntry)
    → AreAskedEntries t placed entries → length entries ≤ 9
unfolding first_nine
few_by_events t placed entries s =
    let no_bare : s.entry_of Bare ≡ None =
    has_none t placed Bare (s.entry_of Bare) (λ before event h. h) (s.each Bare) in
    let no_space : s.entry_of SpaceAfter ≡ None =
    has_none t placed SpaceAfter (s.entry_of SpaceAfter) (λ before event h. h) (s.each SpaceAfter) in
    let others : List AskedEntry = cons_option (s.entry_of Bare) (cons_option (s.entry_of SpaceAfter) []) in
    let parts : filter_map s.entry_of in_order ≡ filter_map s.entry_of first_nine ++ others =
    filter_map-append s.entry_of first_nine (Bare ∷ SpaceAfter ∷ []) in
    let kept : filter_map s.entry_of first_nine ++ others ≡ filter_map s.entry_of first_nine =
    rw (no_bare, no_space) (append-nil (filter_map s.entry_of first_nine)) in
    let few = short s.entry_of first_nine in
    let long : length entries ≡ length (filter_map s.entry_of first_nine) =
    ap (λ (l : List AskedEntry). length l) (s.entries_are ∙ parts ∙ kept) in
    omega (arith, few, long)

one_more : (rule : AskedRule) (often : ℕ) (first : Option ℕ) → length (entry_at rule often first) ≤ 1
one_more rule often None = omega arith
one_more rule often (Some n) = omega arith

-- one more entry is one more
pub few_added : (rule : AskedRule) (often : ℕ) (first : Option ℕ) (before after : List AskedEntry)
    → after ≡ before ++ entry_at rule often first → length after ≤ length before + 1
few_added rule often first before after is =
    let long : length after ≡ length before + length (entry_at rule often first) =
    ap (λ (l : List AskedEntry). length l) is ∙ length-append before (entry_at rule often first) in
    let one = one_more rule often first in
    omega (arith, long, one)
