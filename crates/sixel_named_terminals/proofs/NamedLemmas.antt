-- What a named terminal shows is one screen, or its model ends at one position.
use Rattle.std.proofs.Common.{◌≡◌, ◌≤◌, ◌<◌, ◌⊎◌, ℕ, zero, suc, Bool, true, false, Some, List, refl, sym}
use Rattle.std.proofs.Common.{ap, subst, ◌∙◌, inl, inr, length, arith, [], ◌∷◌, ◌++◌}
use Rattle.std.specs.Prelude.{flat_map, slice_get}
use Rattle.std.specs.List.{range_with_len}
use Rattle.sixel_grammar.specs.declared.command.Event.{Event}
use Rattle.sixel_grammar.specs.declared.command.Placed.{Placed}
use Rattle.sixel_grammar.specs.Document.{events_of}
use Rattle.sixel_model.specs.declared.colour.Parts.{Parts}
use Rattle.sixel_terminal.specs.Displays.{Display}
use Rattle.sixel_terminal.specs.Drawing.{screen_on}
use Rattle.sixel_terminal.specs.Screens.{IsScreenAfter, Shown}
use Rattle.sixel_emulator.specs.declared.course.Course.{Course}
use Rattle.sixel_emulator.specs.declared.course.Course.TheVariants.{Goes, Stopped, Ended}
use Rattle.sixel_named_terminals.specs.declared.named.Named.{Named}
use Rattle.sixel_emulator.specs.Courses.{IsCourse, next_course}
use Rattle.sixel_emulator.specs.Modelled.{EndsAtPlace, HasPlace}
use Rattle.sixel_named_terminals.specs.Named.{IsScreenOn, model_of, terminal_on}
use Rattle.sixel_emulator.specs.Readings.{EndsAt, IsReading, IsSaid, Model, drawn_by, is_stop, is_unsaid_control}
use Rattle.sixel_emulator.specs.Readings.{read_at}
use Rattle.sixel_emulator.proofs.CourseLemmas.{course_push, course_start, ends_before_end, goes_to_end}
use Rattle.sixel_emulator.proofs.CourseLemmas.{stops_before_end}

-- ---- one position

ends_before : (m : Model) (events : List Event) (i j : ℕ) → EndsAt m events i → EndsAt m events j → i < j → ⊥
ends_before m events i j a b lt = b.first i lt a.unsaid

-- two numbers of which neither is below the other are one
neither : (i j : ℕ) → (i < j → ⊥) → (j < i → ⊥) → i ≡ j
neither i j a b = omega (arith, a, b)

pub end_once : (m : Model) (events : List Event) (i j : ℕ) → EndsAt m events i → EndsAt m events j → i ≡ j
end_once m events i j a b = neither i j (ends_before m events i j a b) (ends_before m events j i b a)

pub said_does_not_end : (m : Model) (events : List Event) (i : ℕ) → IsSaid m events → EndsAt m events i → ⊥
said_does_not_end m events i said e = said i e.within e.unsaid

-- ---- the event at which a model ends

-- each event has an offset
some_place : (placed : List Placed) (i : ℕ) → i < length (events_of placed) → (place : ℕ) × HasPlace placed i place
some_place [] i lt = absurd (omega (arith, lt))
some_place (p ∷ ps) zero lt = (p.place, refl)
some_place (p ∷ ps) (suc i) lt = some_place ps i (omega (arith, lt))

same_place : (placed : List Placed) (i a b : ℕ) → HasPlace placed i a → HasPlace placed i b → a ≡ b
same_place placed i a b p q = let whole : Some a ≡ Some b = sym p ∙ q in cc

pub ends_somewhere : (m : Model) (placed : List Placed) (i : ℕ) → EndsAt m (events_of placed) i
    → (place : ℕ) × EndsAtPlace m placed place
ends_somewhere m placed i ends =
    let p = some_place placed i ends.within in (p.0, record { at = i; ends = ends; has_place = p.1 })

pub one_end : (m : Model) (placed : List Placed) (a b : ℕ) → EndsAtPlace m placed a → EndsAtPlace m placed b → a ≡ b
one_end m placed a b p q =
    let same : p.at ≡ q.at = end_once m (events_of placed) p.at q.at p.ends q.ends in
    same_place placed q.at a b (subst (λ (i : ℕ). HasPlace placed i a) same p.has_place) q.has_place

-- ---- one drawing

both : (b : Bool) → b ≡ true → b ≡ false → ⊥
both true h k = cc
both false h k = cc

stops_before : (m : Model) (events a b : List Event) (p : IsReading m events a) (q : IsReading m events b)
    → p.end < q.end → ⊥
stops_before m events a b p q lt =
    both (is_stop (read_at m events p.end)) (p.stops (omega (arith, lt, q.within))) (q.goes_on p.end lt)

pub reading_once : (m : Model) (events a b : List Event) → IsReading m events a → IsReading m events b → a ≡ b
reading_once m events a b p q =
    let same : p.end ≡ q.end = neither p.end q.end (stops_before m events a b p q) (stops_before m events b a q p) in
    p.drawing_is
    ∙ ap (λ (n : ℕ). m.opening events ++ flat_map (λ i. drawn_by (read_at m events i)) (range_with_len 0 n)) same
    ∙ sym q.drawing_is

-- ---- one screen

abbrev screen_of : ℕ → ℕ → List Parts → Shown
screen_of width height colours = record { width = width; height = height; colours = colours }

same_parts : (w v h k : ℕ) (c d : List Parts) → w ≡ v → h ≡ k → c ≡ d → screen_of w h c ≡ screen_of v k d
same_parts w v h k c d e f g = cc

same_screen : (t : Display) (a b : Shown) (drawing : List Event) → IsScreenAfter t a drawing
    → IsScreenAfter t b drawing → a ≡ b
same_screen t a b drawing p q =
    same_parts a.width b.width a.height b.height a.colours b.colours (p.width ∙ sym q.width)
    (p.height ∙ sym q.height) (p.colours ∙ sym q.colours)

pub screen_once : (named : Named) (background : Parts) (sides : ℕ × ℕ) (events : List Event) (a b : Shown)
    → IsScreenOn named background sides events a → IsScreenOn named background sides events b → a ≡ b
screen_once named background sides events a b p q =
    let same : p.drawing ≡ q.drawing =
    reading_once (model_of named) events p.drawing q.drawing p.is_reading q.is_reading in
    let t : Display = terminal_on named background ((model_of named).opening events) sides in
    same_screen t a b p.drawing p.after (subst (λ (d : List Event). IsScreenAfter t b d) (sym same) q.after)

-- ---- a drawing, or an end

some_at : (events : List Event) (n : ℕ) → n < length events → (e : Event) × (slice_get events n ≡ Some e)
some_at [] n lt = absurd (omega (arith, lt))
some_at (x ∷ xs) zero lt = (x, refl)
some_at (x ∷ xs) (suc n) lt = some_at xs n (omega (arith, lt))

pub course_at : (m : Model) (events : List Event) (n : ℕ) → n ≤ length events → (c : Course) × IsCourse m events n c
course_at m events zero le = (Goes, course_start m events)
course_at m events (suc n) le =
    let before = course_at m events n (omega (arith, le)) in
    let here = some_at events n (omega (arith, le)) in (
      next_course before.0 (is_unsaid_control m here.0) (read_at m events n),
      course_push m events n here.0 before.0 (is_unsaid_control m here.0) (read_at m events n)
          (record { here = here.1; reads_are = refl }) refl before.1,
    )

at_end : (m : Model) (events : List Event) (c : Course) → IsCourse m events (length events) c
    → ((i : ℕ) × EndsAt m events i) ⊎ (IsSaid m events × ((drawing : List Event) × IsReading m events drawing))
at_end m events Goes s = let g = goes_to_end m events s in inr (g.0, (_, g.1))
at_end m events Stopped s = let g = stops_before_end m events s in inr (g.0, (_, g.1.1))
at_end m events Ended s = inl (ends_before_end m events s)

pub said_or_ends : (m : Model) (events : List Event)
    → ((i : ℕ) × EndsAt m events i) ⊎ (IsSaid m events × ((drawing : List Event) × IsReading m events drawing))
said_or_ends m events =
    let whole = course_at m events (length events) (omega arith) in
    at_end m events whole.0 whole.1

-- ---- a screen, or an end

abbrev the_screen : Display → List Event → Shown
the_screen t drawing = screen_of t.choices.screen_width t.choices.screen_height (screen_on t drawing)

is_screen_on : (named : Named) (background : Parts) (sides : ℕ × ℕ) (events drawing : List Event)
    → IsSaid (model_of named) events → IsReading (model_of named) events drawing
    → (screen : Shown) × IsScreenOn named background sides events screen
is_screen_on named background sides events drawing said reading = (
  the_screen (terminal_on named background ((model_of named).opening events) sides) drawing,
  record {
    said = said;
    drawing = drawing;
    is_reading = reading;
    after = record { width = refl; height = refl; colours = refl };
  },
)

pub shows_or_ends : (named : Named) (background : Parts) (sides : ℕ × ℕ) (events : List Event)
    → ((i : ℕ) × EndsAt (model_of named) events i)
    ⊎ ((screen : Shown) × IsScreenOn named background sides events screen)
shows_or_ends named background sides events =
    elim (said_or_ends (model_of named) events) [
      | inl ends ↦ inl ends
      | inr said ↦ inr (is_screen_on named background sides events said.1.0 said.0 said.1.1)
    ]
