-- On the events that a checker has seen.
use Rattle.std.proofs.Common.{ℕ, ◌≡◌, ◌||◌, ◌&&◌, Bool, true, false, not, IsTrue, ◌⊎◌, inl, inr, List, [], ◌∷◌, ◌++◌}
use Rattle.std.proofs.Common.{sym, ◌∙◌, ap, subst, refl}
use Rattle.std.specs.Prelude.{if◌then◌else◌}
use Rattle.std.specs.List.{AllByRecursion, list_any}
use Rattle.std.proofs.lemmas.Bool.{and_parts, both_ways, not-true}
use Rattle.std.proofs.lemmas.List.Folds.{list_any-append}
use Rattle.std.proofs.Math.Bool.{or-false}
use Rattle.sixel_grammar.specs.Document.{AreRest, AreWhole, events_of}
use Rattle.sixel_grammar.specs.Faults.{AreBegun, ArePrefix, AreSteps}
use Rattle.sixel_grammar.specs.Spelling.{IsSpellable}
use Rattle.sixel_grammar.proofs.PieceLemmas.{all-append}
use Rattle.sixel_grammar.specs.declared.command.Event.{Event}
use Rattle.sixel_grammar.specs.declared.command.Event.TheVariants.{Start, Step, Finish}
use Rattle.sixel_grammar.specs.declared.command.Placed.{Placed}
use Rattle.sixel_model.specs.Events.{is_finish}
use Rattle.sixel_model.specs.Profiles.{count_of}
use Rattle.sixel_plane.specs.Covers.{kept_by}
use Rattle.sixel_judge.specs.declared.progress.Progress.{Progress}
use Rattle.sixel_judge.specs.declared.progress.Progress.TheVariants.{Fresh, Begun, Whole}
use Rattle.sixel_judge.specs.Judging.{JudgesAfter}
use Rattle.sixel_judge.specs.Standing.{CheckerValue, StandsAfter, expects, expects_from, is_start, is_whole}
use Rattle.sixel_judge.specs.Standing.{is_whole_at, progress_of, progress_with}
use Rattle.sixel_judge.proofs.JudgeLemmas.{events_push}

-- ---- the shape of the events

pub steps_go_on : (events : List Event) → AreSteps events → list_any is_finish events ≡ false
steps_go_on [] m = refl
steps_go_on (Step command ∷ more) m = steps_go_on more m
steps_go_on _ m = absurd m

pub begun_goes_on : (events : List Event) → AreBegun events → list_any is_finish events ≡ false
begun_goes_on (Start eight parameters ∷ more) m = steps_go_on more m
begun_goes_on _ m = absurd m

rest_ends : (events : List Event) → AreRest events → list_any is_finish events ≡ true
rest_ends (Step command ∷ more) m = rest_ends more m
rest_ends (Finish eight ∷ more) m = refl
rest_ends _ m = absurd m

-- a whole list has a finish
pub whole_ended : (events : List Event) → AreWhole events → list_any is_finish events ≡ true
whole_ended (Start eight parameters ∷ more) m = rest_ends more m
whole_ended _ m = absurd m

-- a prefix with a finish is whole
pub prefix_whole : (events : List Event) → ArePrefix events → list_any is_finish events ≡ true → AreWhole events
prefix_whole events m h =
    elim m [
      | inl none ↦ absurd (both_ways (list_any is_finish events) (ap (list_any is_finish) none) h)
      | inr some ↦ elim some [
        | inl begun ↦ absurd (both_ways (list_any is_finish events) (begun_goes_on events begun) h)
        | inr whole ↦ whole
      ]
    ]

steps_push : (events : List Event) (e : Event) → AreSteps events → is_start e ≡ false
    → AreSteps (events ++ e ∷ []) ⊎ AreRest (events ++ e ∷ [])
steps_push [] (Start eight parameters) m s = cc
steps_push [] (Step command) m s = inl tt
steps_push [] (Finish eight) m s = inr refl
steps_push (Step command ∷ more) e m s = steps_push more e m s
steps_push _ e m s = absurd m

begun_push : (events : List Event) (e : Event) → AreBegun events → is_start e ≡ false
    → AreBegun (events ++ e ∷ []) ⊎ AreWhole (events ++ e ∷ [])
begun_push (Start eight parameters ∷ more) e m s = steps_push more e m s
begun_push _ e m s = absurd m

-- a prefix with one more expected event is a prefix
prefix_push : (events : List Event) (e : Event) → ArePrefix events → list_any is_finish events ≡ false
    → is_start e ≡ false → (events ≡ [] → ⊥) → ArePrefix (events ++ e ∷ [])
prefix_push events e m h s some =
    elim m [
      | inl none ↦ absurd (some none)
      | inr rest ↦ elim rest [
        | inl begun ↦ inr (begun_push events e begun s)
        | inr whole ↦ absurd (both_ways (list_any is_finish events) h (whole_ended events whole))
      ]
    ]

prefix_first : (e : Event) → is_start e ≡ true → ArePrefix (e ∷ [])
prefix_first (Start eight parameters) h = inr (inl tt)
prefix_first _ h = cc

-- ---- one more event

pub whole_events : (seen : List Placed) → list_any is_finish (events_of seen) ≡ is_whole seen
whole_events [] = refl
whole_events (p ∷ ps) = ap (λ (b : Bool). is_finish p.event || b) (whole_events ps)

pub prefix_next : (seen : List Placed) (p : Placed) → ArePrefix (events_of seen) → IsTrue (expects seen p.event)
    → ArePrefix (events_of seen ++ p.event ∷ [])
prefix_next [] p prefix h = prefix_first p.event h
prefix_next (q ∷ qs) p prefix h =
    let parts = and_parts (not (is_whole (q ∷ qs))) (not (is_start p.event)) h in
    prefix_push (events_of (q ∷ qs)) p.event prefix (whole_events (q ∷ qs) ∙ not-true (is_whole (q ∷ qs)) parts.0)
    (not-true (is_start p.event) parts.1) (λ e. cc)

-- ---- the progress

expects_two : (b : Bool) (e : Event) → expects_from (if b then Whole else Begun) e ≡ (not b && not (is_start e))
expects_two true e = refl
expects_two false e = refl

expects_of : (seen : List Placed) (e : Event) → expects_from (progress_of seen) e ≡ expects seen e
expects_of [] e = refl
expects_of (q ∷ qs) e = expects_two (is_whole (q ∷ qs)) e

whole_two : (b : Bool) → is_whole_at (if b then Whole else Begun) ≡ b
whole_two true = refl
whole_two false = refl

whole_of : (seen : List Placed) → is_whole_at (progress_of seen) ≡ is_whole seen
whole_of [] = refl
whole_of (q ∷ qs) = whole_two (is_whole (q ∷ qs))

pub whole_push : (seen : List Placed) (p : Placed) → is_whole seen ≡ false
    → is_whole (seen ++ p ∷ []) ≡ is_finish p.event
whole_push seen p h = list_any-append (λ q. is_finish q.event) seen (p ∷ []) ∙ rw h (or-false (is_finish p.event))

pub progress_push : (seen : List Placed) (p : Placed) → IsTrue (expects seen p.event)
    → progress_of (seen ++ p ∷ []) ≡ progress_with p.event
progress_push [] p h = ap (λ (b : Bool). if b then Whole else Begun) (whole_push [] p refl)
progress_push (q ∷ qs) p h =
    let parts = and_parts (not (is_whole (q ∷ qs))) (not (is_start p.event)) h in
    ap (λ (b : Bool). if b then Whole else Begun) (whole_push (q ∷ qs) p (not-true (is_whole (q ∷ qs)) parts.0))

-- ---- what a checker has seen

pub stands_none : (registers : ℕ) (checker : CheckerValue) → count_of checker.profile ≡ registers
    → JudgesAfter (kept_by checker.keeps) checker.profile checker.finding checker.notes checker.grid []
    → checker.progress ≡ Fresh → StandsAfter registers checker []
unfolding StandsAfter
stands_none registers checker are judges fresh = (are, judges, fresh, inl refl, tt)

-- a checker has this many registers
pub registers_of : (registers : ℕ) (checker : CheckerValue) (seen : List Placed) → StandsAfter registers checker seen
    → count_of checker.profile ≡ registers
unfolding StandsAfter
registers_of registers checker seen s = s.0

-- its parts are those of a judge
pub judges_inside : (registers : ℕ) (inside checker : CheckerValue) (seen : List Placed) → inside ≡ checker
    → StandsAfter registers checker seen
    → JudgesAfter (kept_by inside.keeps) inside.profile inside.finding inside.notes inside.grid seen
unfolding StandsAfter
judges_inside registers inside checker seen is s =
    subst (λ (v : CheckerValue). JudgesAfter (kept_by v.keeps) v.profile v.finding v.notes v.grid seen) (sym is) s.1

-- and they have as many registers
pub registers_inside : (registers : ℕ) (inside checker : CheckerValue) (seen : List Placed) → inside ≡ checker
    → StandsAfter registers checker seen → count_of inside.profile ≡ registers
registers_inside registers inside checker seen is s =
    ap (λ (v : CheckerValue). count_of v.profile) is ∙ registers_of registers checker seen s

pub stands_expects : (registers : ℕ) (checker : CheckerValue) (seen : List Placed) (e : Event)
    → StandsAfter registers checker seen → expects_from checker.progress e ≡ expects seen e
unfolding StandsAfter
stands_expects registers checker seen e s = ap (λ (g : Progress). expects_from g e) s.2 ∙ expects_of seen e

pub stands_whole_at : (registers : ℕ) (checker : CheckerValue) (seen : List Placed) → StandsAfter registers checker seen
    → is_whole_at checker.progress ≡ is_whole seen
unfolding StandsAfter
stands_whole_at registers checker seen s = ap is_whole_at s.2 ∙ whole_of seen

-- after one more expected event
pub stands_push : (others registers : ℕ) (old new : CheckerValue) (first seen : List Placed) (p : Placed)
    → StandsAfter others old first → IsTrue (expects first p.event) → IsSpellable p.event
    → StandsAfter registers old seen → new.profile ≡ old.profile
    → JudgesAfter (kept_by new.keeps) new.profile new.finding new.notes new.grid (seen ++ p ∷ [])
    → new.progress ≡ progress_with p.event → StandsAfter registers new (seen ++ p ∷ [])
unfolding StandsAfter
stands_push others registers old new first seen p f expected spellable s profile judges far =
    let may : IsTrue (expects seen p.event) =
    sym (stands_expects _ old seen p.event s) ∙ stands_expects _ old first p.event f ∙ expected in (
      ap count_of profile ∙ s.0,
      judges,
      far ∙ sym (progress_push seen p may),
      subst ArePrefix (sym (events_push seen p)) (prefix_next seen p s.3 may),
      subst (AllByRecursion IsSpellable) (sym (events_push seen p))
          (all-append IsSpellable (events_of seen) (p.event ∷ []) s.4 (spellable, tt)),
    )

-- if the finish has come, the events are whole
pub stands_whole : (others registers : ℕ) (checker : CheckerValue) (first seen : List Placed)
    → StandsAfter others checker first
    → IsTrue (is_whole first) → StandsAfter registers checker seen → AreWhole (events_of seen)
unfolding StandsAfter
stands_whole others registers checker first seen f whole s =
    prefix_whole (events_of seen) s.3
    (whole_events seen ∙ sym (stands_whole_at _ checker seen s) ∙ stands_whole_at _ checker first f ∙ whole)
