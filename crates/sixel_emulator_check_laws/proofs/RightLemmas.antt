-- The named terminals show a picture for which no rule is broken.
use Rattle.std.proofs.Common.{◌≡◌, ◌∙◌, ◌==◌, ◌≤◌, ℕ, Bool, true, false, List, None, Option, Some, ap, arith, not, refl}
use Rattle.std.proofs.Common.{subst, sym, take}
use Rattle.std.specs.Prelude.{◌&&◌, ◌||◌, IsTrue, nat_le, slice_get}
use Rattle.std.specs.Option.{option_map}
use Rattle.std.proofs.lemmas.Bool.{and_from, or_left, or_right}
use Rattle.std.proofs.lemmas.Bool.Decides.{nat_tests}
use Rattle.std.proofs.lemmas.Option.{slice_get-map}
use Rattle.sixel_grammar.specs.declared.command.Command.TheVariants.{Raster}
use Rattle.sixel_grammar.specs.declared.command.Event.TheVariants.{Step}
use Rattle.sixel_grammar.specs.Document.{AreWhole, events_of}
use Rattle.sixel_grammar.specs.declared.command.Event.{Event}
use Rattle.sixel_grammar.specs.declared.command.Placed.{Placed}
use Rattle.sixel_omissions.specs.Omissions.{IsFirstBare}
use Rattle.sixel_model.specs.declared.colour.Parts.{Parts}
use Rattle.sixel_model.specs.Pictures.{PictureValue, is_side, most_side}
use Rattle.sixel_model.specs.Rules.{BreaksNone, breaks_box_size, last_rule, picture_left}
use Rattle.sixel_model.proofs.RuleLemmas.{Keeps, keeps_at, none_drawn}
use Rattle.sixel_named_terminals.specs.declared.named.Named.{Named}
use Rattle.sixel_named_terminals.specs.declared.named.Named.TheVariants.{XTerm, MlTerm, Foot, Konsole}
use Rattle.sixel_named_terminals.specs.Named.{heard_on, hears_on}
use Rattle.sixel_emulator.proofs.HeardLemmas.{HasHeight, heard_boxes, heard_whole}
use Rattle.sixel_emulator_rules.specs.Asked.{BreaksNoneAsked, asks, has_rule, is_asked, one_asks}
use Rattle.sixel_emulator_rules.specs.declared.rule.AskedRule.{AskedRule}
use Rattle.sixel_emulator_rules.specs.declared.rule.AskedRule.TheVariants.{Bare}
use Rattle.sixel_emulator_rules.specs.declared.terminals.Terminals.{Terminals}
use Rattle.sixel_emulator_rules_laws.specs.Laws.{BreaksNoneOf, IsShownOn, ShowsPortable}
use Rattle.sixel_emulator_rules_laws.proofs.KonsoleShownLemmas.{konsole_shows}
use Rattle.sixel_emulator_rules_laws.proofs.MlTermShownLemmas.{mlterm_shows}
use Rattle.sixel_emulator_rules_laws.proofs.ShownLemmas.{foot_shows}
use Rattle.sixel_emulator_rules_laws.proofs.XTermShownLemmas.{xterm_shows}
use Rattle.sixel_emulator_check.specs.Written.{IsBareOn, IsIfAsked}
use Rattle.sixel_emulator_check_laws.specs.Shown.{IsHeeded, IsNamed, IsShownOnEach}

-- a rule that a terminal of the set asks for has an asker
asker_of : (t : Terminals) (named : Named) (rule : AskedRule) → IsNamed t named → IsTrue (asks named rule)
    → IsTrue (one_asks t rule)
asker_of t XTerm rule is asked =
    or_left ((t.xterm && asks XTerm rule) || (t.mlterm && asks MlTerm rule)) _
    (or_left (t.xterm && asks XTerm rule) _ (and_from t.xterm (asks XTerm rule) is asked))
asker_of t MlTerm rule is asked =
    or_left ((t.xterm && asks XTerm rule) || (t.mlterm && asks MlTerm rule)) _
    (or_right (t.xterm && asks XTerm rule) _ (and_from t.mlterm (asks MlTerm rule) is asked))
asker_of t Foot rule is asked =
    or_right ((t.xterm && asks XTerm rule) || (t.mlterm && asks MlTerm rule)) _
    (or_left (t.foot && asks Foot rule) _ (and_from t.foot (asks Foot rule) is asked))
asker_of t Konsole rule is asked =
    or_right ((t.xterm && asks XTerm rule) || (t.mlterm && asks MlTerm rule)) _
    (or_right (t.foot && asks Foot rule) _ (and_from t.konsole (asks Konsole rule) is asked))

-- what a terminal that is heeded asks for is asked for
asked_by : (t : Terminals) (named : Named) (rule : AskedRule) → IsHeeded t named → IsTrue (asks named rule)
    → IsTrue (is_asked t rule)
asked_by t named rule is asked =
    and_from (one_asks t rule) (not (has_rule t.ignored rule)) (asker_of t named rule is.0 asked)
    (ap not (is.1 rule asked))

none_of : (t : Terminals) (named : Named) (events : List Event) → IsHeeded t named → BreaksNoneAsked t events
    → BreaksNoneOf named events
none_of t named events is none rule asked = none rule (asked_by t named rule is asked)

shows : (registers : ℕ) (named : Named) → registers ≤ 256 → ShowsPortable named registers
shows registers XTerm few = xterm_shows registers few
shows registers MlTerm few = mlterm_shows registers few
shows registers Foot few = foot_shows registers (omega arith)
shows registers Konsole few = konsole_shows registers few

-- each terminal of the set that is heeded shows the picture of the events
abbrev pub AreShown : Terminals → List Event → PictureValue → Type 0
AreShown t events p =
    (named : Named) (background : Parts) (width height : ℕ) → IsHeeded t named → p.width ≤ width → p.height ≤ height
    → IsShownOn named background (width, height) events p

pub shown_on_all : (registers : ℕ) (t : Terminals) (events : List Event) (p : PictureValue) → registers ≤ 256
    → AreWhole events → BreaksNone registers last_rule events → BreaksNoneAsked t events
    → p ≡ picture_left registers events → AreShown t events p
shown_on_all registers t events p few whole none unasked left =
    subst (AreShown t events) (sym left)
    (λ named background width height is across down.
    shows registers named few background width height events whole none (none_of t named events is unasked) across
    down)

-- ---- as they are heard

bare_if : (b : Bool) (bytes : List ℕ) (o : Option ℕ) → IsTrue b → IsIfAsked b (IsFirstBare bytes) o
    → IsFirstBare bytes o
bare_if true bytes o is bare = bare
bare_if false bytes o is bare = cc

side_of : (across one most : Bool) → not (across && (one && most)) ≡ false → one ≡ true
side_of true true most is = refl
side_of true false most is = cc
side_of false one most is = cc

not_zero : (n : ℕ) → nat_le 1 n ≡ true → (n == 0) ≡ false
not_zero n some = grind (arith, nat_tests)

has_height : (registers : ℕ) (before : List Event) (e : Event) → Keeps registers before e → HasHeight e
unfolding breaks_box_size
has_height registers before (Step (Raster pan pad width height)) keeps =
    not_zero height (side_of (is_side width) (nat_le 1 height) (nat_le height most_side) keeps.box_size)
has_height registers before _ keeps = tt

-- if no rule is broken, raster attributes have a height
have_heights : (registers : ℕ) (placed : List Placed) → BreaksNone registers last_rule (events_of placed) → (i : ℕ)
    (p : Placed) → slice_get placed i ≡ Some p → HasHeight p.event
have_heights registers placed none i p there =
    let event : Placed → Event = λ q. q.event in
    has_height registers (take i (events_of placed)) p.event
    (keeps_at registers (events_of placed) (none_drawn registers (events_of placed) none) i p.event
    (slice_get-map event placed i ∙ ap (option_map event) there))

-- if no rule is broken and no select lacks its number, what is heard are the events
pub heard_all : (registers : ℕ) (named : Named) (bytes : List ℕ) (placed : List Placed) → IsFirstBare bytes None
    → BreaksNone registers last_rule (events_of placed) → heard_on named bytes placed ≡ placed
heard_all registers named bytes placed bare none =
    heard_whole (hears_on named) bytes placed bare (have_heights registers placed none)

-- and where none lacks it of those that matter
heard_by : (registers : ℕ) (t : Terminals) (named : Named) (bytes : List ℕ) (placed : List Placed) → IsHeeded t named
    → IsBareOn t bytes None → BreaksNone registers last_rule (events_of placed) → heard_on named bytes placed ≡ placed
heard_by registers t XTerm bytes placed is bare none =
    heard_all registers XTerm bytes placed (bare_if (is_asked t Bare) bytes None (asked_by t XTerm Bare is refl) bare) none
heard_by registers t MlTerm bytes placed is bare none =
    heard_all registers MlTerm bytes placed (bare_if (is_asked t Bare) bytes None (asked_by t MlTerm Bare is refl) bare) none
heard_by registers t Foot bytes placed is bare none = refl
heard_by registers t Konsole bytes placed is bare none = heard_boxes bytes placed (have_heights registers placed none)

pub shown_on_each : (registers : ℕ) (t : Terminals) (bytes : List ℕ) (placed : List Placed) (p : PictureValue)
    → IsBareOn t bytes None → BreaksNone registers last_rule (events_of placed) → AreShown t (events_of placed) p
    → IsShownOnEach t bytes placed p
shown_on_each registers t bytes placed p bare none shown = λ named background width height is across down.
    subst (λ (l : List Placed). IsShownOn named background (width, height) (events_of l) p)
    (sym (heard_by registers t named bytes placed is bare none))
    (shown named background width height is across down)
