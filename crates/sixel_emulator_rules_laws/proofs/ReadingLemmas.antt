-- If a terminal's model says what each event gives and never stops, what it draws event by event is its reading.
use Rattle.std.proofs.Common.{◌≡◌, ℕ, zero, suc, ◌+◌, ◌<◌, ◌≤◌, Bool, true, false, Option, Some, None, List, []}
use Rattle.std.proofs.Common.{◌∷◌, ◌++◌, length, take, refl, sym, ap, ◌∙◌, append-nil, arith}
use Rattle.std.specs.Prelude.{flat_map, slice_get}
use Rattle.std.specs.List.{range_with_len}
use Rattle.std.proofs.Math.Seq.{take-length}
use Rattle.std.proofs.lemmas.Grind.{flat_map-append}
use Rattle.sixel_grammar.specs.declared.command.Event.{Event}
use Rattle.sixel_model.proofs.LastLemmas.{item_there}
use Rattle.sixel_model.proofs.LatestLemmas.{take_one_more}
use Rattle.sixel_emulator.specs.declared.reading.Reads.{Reads}
use Rattle.sixel_emulator.specs.declared.reading.Reads.TheVariants.{Nothing, Draws, DrawsTwo, Stops, Unsaid}
use Rattle.sixel_emulator.specs.Readings.{IsReading, IsSaid, IsUnsaid, Model, Rule, drawn_by, is_stop}
use Rattle.sixel_emulator.specs.Readings.{is_unsaid_control}
use Rattle.sixel_emulator.specs.Readings.{read_at}
use Rattle.sixel_emulator.specs.Readings.IsUnsaid.{Control, Behaviour}
use Rattle.sixel_emulator.specs.Words.{after_each, after_first}
use Rattle.sixel_emulator.proofs.WordLemmas.{each_push}
use Rattle.sixel_emulator_rules_laws.proofs.DrawingLemmas.{range_then}

-- ---- the drawing

abbrev draws_by : Rule → List Event → List Event → Event → List Event
draws_by rule drawing before e = drawing ++ drawn_by (rule before e None)

-- what the terminal draws in place of the events, if no event's reading depends on the event after
abbrev pub drawing_by : Rule → List Event → List Event
drawing_by rule before = after_each (draws_by rule) [] before

pub by_push : (rule : Rule) (before : List Event) (e : Event)
    → drawing_by rule (before ++ e ∷ []) ≡ drawing_by rule before ++ drawn_by (rule before e None)
by_push rule before e = each_push (draws_by rule) [] before e

pub by_none : (rule : Rule) → drawing_by rule [] ≡ []
unfolding after_each after_first
by_none rule = refl

-- ---- models that say all and go on

-- the model says what the event gives, and the terminal goes on
abbrev pub goes : Reads → Bool
goes Nothing = true
goes (Draws command) = true
goes (DrawsTwo first second) = true
goes Stops = false
goes Unsaid = false

-- the event gives these commands, and the terminal goes on
pub record IsRead (r : Reads) (drawn : List Event) : Type 0 where
  pub goes_on : goes r ≡ true
  pub drawn_is : drawn_by r ≡ drawn

pub record IsClear (m : Model) (events : List Event) : Type 0 where
  pub opens : m.opening events ≡ []
  pub alone : (before : List Event) (e : Event) (next : Option Event) → m.rule before e next ≡ m.rule before e None
  pub on : (i : ℕ) (e : Event) → slice_get events i ≡ Some e → goes (m.rule (take i events) e None) ≡ true

read_there : (m : Model) (events : List Event) (i : ℕ) (e : Event) → IsClear m events → slice_get events i ≡ Some e
    → read_at m events i ≡ m.rule (take i events) e None
read_there m events i e c here = rw here (c.alone (take i events) e (slice_get events (i + 1)))

-- ---- it is the reading

abbrev reads : Model → List Event → ℕ → List Event
reads m events i = drawn_by (read_at m events i)

reading_step : (m : Model) (events : List Event) (n : ℕ) (e : Event) → IsClear m events → slice_get events n ≡ Some e
    → flat_map (reads m events) (range_with_len 0 n) ≡ drawing_by m.rule (take n events)
    → flat_map (reads m events) (range_with_len 0 (suc n)) ≡ drawing_by m.rule (take (suc n) events)
reading_step m events n e c here ih =
    ap (flat_map (reads m events)) (range_then 0 n n (omega arith))
    ∙ (flat_map-append (reads m events) (range_with_len 0 n) (n ∷ [])
    ∙ (ap (λ (es : List Event). es ++ (reads m events n ++ [])) ih
    ∙ (ap (λ (es : List Event). drawing_by m.rule (take n events) ++ es)
    (append-nil (reads m events n) ∙ ap drawn_by (read_there m events n e c here))
    ∙ (sym (by_push m.rule (take n events) e)
    ∙ ap (drawing_by m.rule) (sym (take_one_more events n e here))))))

reading_below : (m : Model) (events : List Event) (n : ℕ) → IsClear m events → n ≤ length events
    → flat_map (reads m events) (range_with_len 0 n) ≡ drawing_by m.rule (take n events)
reading_below m events zero c le = sym (by_none m.rule)
reading_below m events (suc n) c le =
    let e : (e : Event) × (slice_get events n ≡ Some e) = item_there events n (omega (arith, le)) in
    reading_step m events n (e.0) c (e.1) (reading_below m events n c (omega (arith, le)))

never_stops : (r : Reads) → goes r ≡ true → is_stop r ≡ false
never_stops Nothing h = refl
never_stops (Draws command) h = refl
never_stops (DrawsTwo first second) h = refl
never_stops Stops h = cc
never_stops Unsaid h = refl

position_goes_on : (m : Model) (events : List Event) (k : ℕ) → IsClear m events → k < length events
    → is_stop (read_at m events k) ≡ false
position_goes_on m events k c lt =
    let e = item_there events k lt in
    ap is_stop (read_there m events k e.0 c e.1) ∙ never_stops _ (c.on k e.0 e.1)

pub clear_reading : (m : Model) (events : List Event) → IsClear m events
    → IsReading m events (drawing_by m.rule events)
clear_reading m events c = record {
  end = length events;
  within = omega arith;
  goes_on = λ k lt. position_goes_on m events k c lt;
  stops = λ lt. absurd (omega arith);
  drawing_is = sym (ap (λ (es : List Event). es ++ flat_map (reads m events) (range_with_len 0 (length events))) c.opens
      ∙ (reading_below m events (length events) c (omega arith) ∙ ap (drawing_by m.rule) (take-length events)));
}

-- ---- all is said

says : (r : Reads) → goes r ≡ true → r ≡ Unsaid → ⊥
says Unsaid h is = cc
says _ h is = cc

-- the model says its controls at each position
abbrev pub SaysControls : Model → List Event → Type 0
SaysControls m events = (i : ℕ) (e : Event) → slice_get events i ≡ Some e → is_unsaid_control m e ≡ false

position_says : (m : Model) (events : List Event) (i : ℕ) → IsClear m events → SaysControls m events
    → i < length events → IsUnsaid m events i → ⊥
position_says m events i c controls lt (Control e here is) =
    let no : is_unsaid_control m e ≡ false = controls i e here in cc
position_says m events i c controls lt (Behaviour goes is) =
    let e = item_there events i lt in
    says (m.rule (take i events) e.0 None) (c.on i e.0 e.1) (sym (read_there m events i e.0 c e.1) ∙ is)

pub clear_said : (m : Model) (events : List Event) → IsClear m events → SaysControls m events → IsSaid m events
clear_said m events c controls = λ i lt unsaid. position_says m events i c controls lt unsaid
