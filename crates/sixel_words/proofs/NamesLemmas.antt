-- Terminals that `--on` of `check` and `survey` names.
use Rattle.std.proofs.Common.{◌≡◌, ◌∙◌, ◌∷◌, ◌||◌, [], Bool, List, None, Option, Some, ap, codes, false, map, refl, subst, sym}
use Rattle.std.proofs.Common.{true}
use Rattle.std.specs.Borrow.{Bor}
use Rattle.std.specs.List.{list_all, list_any}
use Rattle.std.specs.Prelude.{◌≢◌, IfSome, IsNone, is_some, unwrap_or}
use Rattle.std.specs.Str.{bytes_eq}
use Rattle.std.proofs.lemmas.Slice.Eq.{bytes_eq-Decides}
use Rattle.clap.specs.Walk.{Row, Text, all_of}
use Rattle.sixel_emulator_rules.specs.Asked.{no_rules}
use Rattle.sixel_emulator_rules.specs.declared.asked_rules.AskedRules.{AskedRules}
use Rattle.sixel_emulator_rules.specs.declared.terminals.Terminals.{Terminals}
use Rattle.sixel_named_terminals.specs.declared.named.Named.{Named}
use Rattle.sixel_named_terminals.specs.declared.named.Named.TheVariants.{XTerm, MlTerm, Foot, Konsole}
use Rattle.sixel_report.specs.declared.task.Task.{Task}
use Rattle.sixel_report.specs.declared.task.Task.TheVariants.{List as Listing, Check, Differ, DifferSheet, Encode, Mend}
use Rattle.sixel_report.specs.declared.task.Task.TheVariants.{Render, Scan, Show, ShowBox, ShowOn, Survey}
use Rattle.sixel_words.specs.Words.{HasIgnored, HasTerminals, IsTask, NameRules, NameTerminals, ignore_values, is_called}
use Rattle.sixel_words.specs.Words.{is_terminal, names_it, names_rules, names_terminals, no_terminals, on_values}
use Rattle.sixel_words.specs.Words.{terminal_name}

pub not_both : (b : Bool) → b ≡ true → b ≡ false → ⊥
not_both b e f = let bad : true ≡ false = sym e ∙ f in cc

-- two texts that differ
pub apart : (a b : Text) → bytes_eq a b ≡ false → a ≡ b → ⊥
apart a b differ is = not_both (bytes_eq a b) ((bytes_eq-Decides a b).1 is) differ

-- ---- a name

-- a text that isn't one of the four names is no other's
pub no_name : (text : Text) → is_called (codes "xterm") text ≡ false → is_called (codes "mlterm") text ≡ false
    → is_called (codes "foot") text ≡ false → is_called (codes "konsole") text ≡ false
    → (named : Named) → is_called (terminal_name named) text ≡ false
no_name text xterm mlterm foot konsole XTerm = xterm
no_name text xterm mlterm foot konsole MlTerm = mlterm
no_name text xterm mlterm foot konsole Foot = foot
no_name text xterm mlterm foot konsole Konsole = konsole

or_right : (a b : Bool) → b ≡ true → (a || b) ≡ true
or_right true b is = refl
or_right false b is = is

-- a text is the name of a terminal if one was found for it
pub is_terminal_so : (text : Text) (found : Option Named)
    → IfSome found (λ named. is_called (terminal_name named) text ≡ true)
    → (IsNone found → (named : Named) → is_called (terminal_name named) text ≡ false)
    → is_terminal text ≡ is_some found
is_terminal_so text None is none =
    let no = none refl in rw (no XTerm, no MlTerm, no Foot, no Konsole) refl
is_terminal_so text (Some XTerm) is none = rw is refl
is_terminal_so text (Some MlTerm) is none =
    or_right (is_called (codes "xterm") text) _ (rw is refl)
is_terminal_so text (Some Foot) is none =
    or_right (is_called (codes "xterm") text) _ (or_right (is_called (codes "mlterm") text) _ (rw is refl))
is_terminal_so text (Some Konsole) is none =
    or_right (is_called (codes "xterm") text) _ (or_right (is_called (codes "mlterm") text) _
    (or_right (is_called (codes "foot") text) _ (rw is refl)))

-- ---- names

-- a test of texts, and of what points to them
pub any_now : (test : Text → Bool) (values : List (Bor Text))
    → list_any test (map (λ value. value.now) values) ≡ list_any (λ value. test value.now) values
any_now test [] = refl
any_now test (value ∷ values) = ap (λ (b : Bool). test value.now || b) (any_now test values)

-- values that name these terminals
pub name_these : (values : List Text) (xterm mlterm foot konsole : Bool) (ignored : AskedRules)
    → list_all names_terminals values ≡ true
    → list_any (names_it (codes "xterm")) values ≡ xterm → list_any (names_it (codes "mlterm")) values ≡ mlterm
    → list_any (names_it (codes "foot")) values ≡ foot → list_any (names_it (codes "konsole")) values ≡ konsole
    → NameTerminals values ignored (record {
      xterm = xterm;
      mlterm = mlterm;
      foot = foot;
      konsole = konsole;
      ignored = ignored;
    })
name_these values xterm mlterm foot konsole ignored all x m f k = (all, rw (x, m, f, k) refl)

-- ---- rules to ignore

-- what is ignored is one set only
pub ignored_once : (rows : List Row) (s u : AskedRules) → HasIgnored rows s → HasIgnored rows u → s ≡ u
ignored_once rows s u is so = is.1 ∙ sym so.1

-- the values of the option are these
pub has_rules : (rows : List Row) (values : List Text) (s : AskedRules) → ignore_values rows ≡ values
    → NameRules values s → HasIgnored rows s
has_rules rows values s given name = subst (λ (vs : List Text). NameRules vs s) (sym given) name

pub of_rules : (rows : List Row) (values : List Text) (s : AskedRules) → ignore_values rows ≡ values
    → HasIgnored rows s → NameRules values s
of_rules rows values s given has = subst (λ (vs : List Text). NameRules vs s) given has

-- ---- the terminals

some_unlike : (o : Option (List Text)) (values : List Text) → o ≡ Some values → o ≡ None → ⊥
some_unlike o values some none = let bad : Some values ≡ None = sym some ∙ none in cc

-- `--on` has these values, and `--ignore` names these rules
pub has_these : (rows : List Row) (values : List Text) (ignored : AskedRules) (t : Terminals)
    → all_of (codes "on") rows ≡ Some values → HasIgnored rows ignored → NameTerminals values ignored t
    → HasTerminals rows t
has_these rows values ignored t on has name =
    let same : t.ignored ≡ ignored = ap (λ (u : Terminals). u.ignored) name.1 in
    record {
      ignored = subst (HasIgnored rows) (sym same) has;
      named = subst (λ (vs : List Text). NameTerminals vs t.ignored t) (sym (ap (λ o. unwrap_or o []) on))
          (subst (λ (s : AskedRules). NameTerminals values s t) (sym same) name);
      together = λ none. absurd (some_unlike (all_of (codes "on") rows) values on none);
    }

pub on_these : (rows : List Row) (values : List Text) (ignored : AskedRules) (t : Terminals)
    → all_of (codes "on") rows ≡ Some values → HasIgnored rows ignored → HasTerminals rows t
    → NameTerminals values ignored t
on_these rows values ignored t on is has =
    let same : t.ignored ≡ ignored = ignored_once rows t.ignored ignored has.ignored is in
    subst (λ (s : AskedRules). NameTerminals values s t) same
    (subst (λ (vs : List Text). NameTerminals vs t.ignored t) (ap (λ o. unwrap_or o []) on) has.named)

-- neither option is given
pub has_no_terminals : (rows : List Row) (ignored : AskedRules) (t : Terminals) → all_of (codes "on") rows ≡ None
    → HasIgnored rows ignored → ignored ≡ no_rules → t ≡ no_terminals → HasTerminals rows t
has_no_terminals rows ignored t none has nothing is =
    let same : t.ignored ≡ ignored = ap (λ (u : Terminals). u.ignored) is ∙ sym nothing in
    record {
      ignored = subst (HasIgnored rows) (sym same) has;
      named = subst (λ (vs : List Text). NameTerminals vs t.ignored t) (sym (ap (λ o. unwrap_or o []) none))
          (subst (λ (s : AskedRules). NameTerminals [] s t) (sym (same ∙ nothing)) (refl, is));
      together = λ alone. same ∙ nothing;
    }

pub has_nobody : (rows : List Row) → all_of (codes "on") rows ≡ None → all_of (codes "ignore") rows ≡ None
    → HasTerminals rows no_terminals
has_nobody rows on ignored =
    has_no_terminals rows no_rules no_terminals on
    (subst (λ (o : Option (List Text)). NameRules (unwrap_or o []) no_rules) (sym ignored) (refl, refl)) refl refl

-- values of which one names no terminals
pub has_none : (rows : List Row) (values : List Text) (t : Terminals) → on_values rows ≡ values
    → list_all names_terminals values ≡ false → HasTerminals rows t → ⊥
has_none rows values t on other has = not_both _ has.named.0 (ap (list_all names_terminals) on ∙ other)

-- values of which one names no rules
pub ignores_none : (rows : List Row) (values : List Text) (t : Terminals) → ignore_values rows ≡ values
    → list_all names_rules values ≡ false → HasTerminals rows t → ⊥
ignores_none rows values t given other has = not_both _ has.ignored.0 (ap (list_all names_rules) given ∙ other)

-- rules are ignored of no terminal
pub ignores_alone : (rows : List Row) (s : AskedRules) (t : Terminals) → all_of (codes "on") rows ≡ None
    → HasIgnored rows s → s ≢ no_rules → HasTerminals rows t → ⊥
ignores_alone rows s t none is some has =
    some (ignored_once rows s t.ignored is has.ignored ∙ has.together none)

-- ---- tasks

-- if the options give no terminals, there is no task of `check`
pub not_checked : (rows : List Row) (t : Task) → ((u : Terminals) → HasTerminals rows u → ⊥)
    → IsTask (codes "check") rows t → ⊥
not_checked rows Listing none is = apart (codes "check") (codes "list") refl is
not_checked rows (Check profile terminals) none is = none terminals is.2
not_checked rows (Survey profile terminals) none is = apart (codes "check") (codes "survey") refl is.0
not_checked rows (Scan profile eight) none is = apart (codes "check") (codes "scan") refl is.0
not_checked rows (Render profile format) none is = apart (codes "check") (codes "render") refl is.0
not_checked rows (Encode profile fitting) none is = apart (codes "check") (codes "encode") refl is.0
not_checked rows (Show profile showing fill selects width height format) none is =
    apart (codes "check") (codes "show") refl is.0
not_checked rows (ShowBox profile showing fill selects format) none is = apart (codes "check") (codes "show") refl is.0
not_checked rows (ShowOn named background area format) none is = apart (codes "check") (codes "show") refl is.0
not_checked rows (Differ background) none is = apart (codes "check") (codes "differ") refl is.0
not_checked rows (DifferSheet background) none is = apart (codes "check") (codes "differ") refl is.0
not_checked rows (Mend profile background showing selects fitting) none is = apart (codes "check") (codes "mend") refl is.0

-- nor one of `survey`
pub not_surveyed : (rows : List Row) (t : Task) → ((u : Terminals) → HasTerminals rows u → ⊥)
    → IsTask (codes "survey") rows t → ⊥
not_surveyed rows Listing none is = apart (codes "survey") (codes "list") refl is
not_surveyed rows (Check profile terminals) none is = apart (codes "survey") (codes "check") refl is.0
not_surveyed rows (Survey profile terminals) none is = none terminals is.2
not_surveyed rows (Scan profile eight) none is = apart (codes "survey") (codes "scan") refl is.0
not_surveyed rows (Render profile format) none is = apart (codes "survey") (codes "render") refl is.0
not_surveyed rows (Encode profile fitting) none is = apart (codes "survey") (codes "encode") refl is.0
not_surveyed rows (Show profile showing fill selects width height format) none is =
    apart (codes "survey") (codes "show") refl is.0
not_surveyed rows (ShowBox profile showing fill selects format) none is =
    apart (codes "survey") (codes "show") refl is.0
not_surveyed rows (ShowOn named background area format) none is = apart (codes "survey") (codes "show") refl is.0
not_surveyed rows (Differ background) none is = apart (codes "survey") (codes "differ") refl is.0
not_surveyed rows (DifferSheet background) none is = apart (codes "survey") (codes "differ") refl is.0
not_surveyed rows (Mend profile background showing selects fitting) none is = apart (codes "survey") (codes "mend") refl is.0
