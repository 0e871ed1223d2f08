-- The state before any event, and after an event that isn't a command.
use Rattle.std.proofs.Common.{◌≡◌, ℕ, zero, suc, ◌+◌, ◌%◌, ◌<◌, ◌≤◌, Bool, true, false, Option, Some, None, List, []}
use Rattle.std.proofs.Common.{◌∷◌, ◌++◌, length, take, get_or, map, refl, sym, ap, ◌∙◌, add-one, arith}
use Rattle.std.specs.Prelude.{if◌then◌else◌}
use Rattle.std.specs.Option.{option_map_or, option_or}
use Rattle.std.proofs.lemmas.List.{get_or-map, length-map}
use Rattle.std.proofs.lemmas.Nat.{div-add-mod'}
use Rattle.sixel_grammar.specs.declared.command.Command.{Command}
use Rattle.sixel_grammar.specs.declared.command.Event.{Event}
use Rattle.sixel_grammar.specs.declared.command.Event.TheVariants.{Start, Step, Finish}
use Rattle.sixel_grammar.specs.declared.command.Placed.{Placed}
use Rattle.sixel_grammar.specs.Document.{events_of}
use Rattle.sixel_model.specs.declared.colour.Parts.{Parts}
use Rattle.sixel_model.specs.declared.colour.Parts.TheVariants.{Rgb}
use Rattle.sixel_model.specs.Events.{columns_of, is_next_line, is_return, named_by, raster_of, select_of}
use Rattle.sixel_model.specs.Geometry.{band, column}
use Rattle.sixel_model.specs.Positions.{earliest, last_at, last_below, latest, since}
use Rattle.sixel_model.specs.Rules.{raster_before}
use Rattle.sixel_terminal.specs.declared.pixel.Ink.{Ink}
use Rattle.sixel_terminal.specs.declared.pixel.Ink.TheVariants.{Fixed}
use Rattle.sixel_terminal.specs.declared.pen.Pen.{Pen}
use Rattle.sixel_terminal.specs.Canvases.{black}
use Rattle.sixel_terminal.specs.Displays.{Display, registers_of}
use Rattle.sixel_terminal.specs.Drawing.{defined_on, height_of, map_on, selected_on}
use Rattle.sixel_terminal.specs.Standing.{IsPenAfter, StandsAfter, ink_at_point}
use Rattle.sixel_terminal.proofs.InkLemmas.{stands_push}
use Rattle.sixel_terminal.proofs.PaintLemmas.{none_filled, unpainted_pixel}
use Rattle.sixel_terminal.proofs.RunLemmas.{Runs}

pub pen_start : (t : Display) (p : Pen) → t.choices.selected < registers_of t → p.column ≡ 0 → p.band ≡ 0
    → p.height ≡ t.choices.tall → p.declared ≡ None → p.selected ≡ t.choices.selected → IsPenAfter t [] p
unfolding band column height_of raster_before earliest selected_on latest since
pen_start t p below c b h d s = record {
  column_is = c;
  band_is = b;
  height_is = h;
  declared_is = d;
  selected_is = s;
  selected_below = rw s below;
}

pub stands_start : (t : Display) (p : Pen) (inks : List Ink) → Runs t → IsPenAfter t [] p
    → inks ≡ map (λ c. Fixed c) t.screen → StandsAfter t [] p t.colours inks
unfolding map_on latest ink_at_point last_at last_below
stands_start t p inks runs pen same = record {
  pen = pen;
  registers = refl;
  colours_are = λ r lt. refl;
  pixels = rw same (simp length-map runs.in_class.screen);
  inks_are = λ i lt.
      ap (λ xs. get_or xs i black) same
      ∙ get_or-map (λ c. Fixed c) t.screen i (Rgb 0 0 0) black (omega (arith, lt, runs.in_class.screen))
      ∙ ap (λ n. Fixed (get_or t.screen n (Rgb 0 0 0))) (sym (div-add-mod' i t.choices.screen_width));
}

pub or_none : {A : Type 0} (o : Option A) → o ≡ option_or o None
or_none None = refl
or_none (Some a) = refl

pub none_chosen : (b : Bool) (e : Event) (n d : ℕ) → named_by e ≡ None → select_of e ≡ None
    → d ≡ option_map_or (λ r. r % n) ((if b then named_by else select_of) e) d
none_chosen true e n d h g = rw h refl
none_chosen false e n d h g = rw g refl

-- an event without effect leaves the state as it is
stands_same : (t : Display) (before : List Event) (p : Pen) (e : Event) (colours : List Parts) (inks : List Ink)
    → Runs t → StandsAfter t before p colours inks → is_return e ≡ false → is_next_line e ≡ false
    → columns_of t.choices.zero e ≡ 0 → raster_of e ≡ None → named_by e ≡ None → select_of e ≡ None
    → ((r : ℕ) → defined_on t r e ≡ None)
    → StandsAfter t (before ++ e ∷ []) p colours inks
stands_same t before p e colours inks runs s no_return no_line no_columns no_raster no_name no_select no_definition =
    stands_push t before p p e colours colours inks inks runs s
    (rw (no_return, no_columns) (omega (arith, s.pen.column_is)))
    (rw no_line (omega (arith, s.pen.band_is)))
    (rw no_raster refl)
    (rw no_raster (or_none p.declared))
    (none_chosen t.choices.selects e (registers_of t) p.selected no_name no_select)
    refl (λ r lt. rw (no_definition r) refl)
    refl (λ i lt.
    unpainted_pixel t p colours e _ _ (get_or inks i black) no_columns (none_filled t.choices.ground e _ _ no_raster))

pub stands_idle : (t : Display) (before : List Event) (p : Pen) (e : Event) (colours : List Parts) (inks : List Ink)
    → Runs t → StandsAfter t before p colours inks → ((command : Command) → e ≡ Step command → ⊥)
    → StandsAfter t (before ++ e ∷ []) p colours inks
stands_idle t before p (Start eight parameters) colours inks runs s no_step =
    stands_same t before p (Start eight parameters) colours inks runs s refl refl refl refl refl refl (λ r. refl)
stands_idle t before p (Step command) colours inks runs s no_step = absurd (no_step command refl)
stands_idle t before p (Finish eight) colours inks runs s no_step =
    stands_same t before p (Finish eight) colours inks runs s refl refl refl refl refl refl (λ r. refl)

push_at : (events : List Placed) (i : ℕ) (p : Placed) → i < length events → p ≡ get_or events i p
    → events_of (take (suc i) events) ≡ events_of (take i events) ++ p.event ∷ []
push_at [] i p lt e = absurd (omega arith)
push_at (x ∷ xs) zero p lt e = ap (λ (q : Placed). q.event ∷ []) (sym e)
push_at (x ∷ xs) (suc i) p lt e = ap (λ (es : List Event). x.event ∷ es) (push_at xs i p (omega arith) e)

-- the events up to and including a position
pub events_push : (events : List Placed) (i : ℕ) (p : Placed) → i < length events → p ≡ get_or events i p
    → events_of (take (i + 1) events) ≡ events_of (take i events) ++ p.event ∷ []
events_push events i p lt e = rw add-one (push_at events i p lt e)

-- all of a list is taken if the count isn't below its length
pub all_taken : {A : Type 0} (n : ℕ) (xs : List A) → length xs ≤ n → take n xs ≡ xs
all_taken zero [] h = refl
all_taken zero (x ∷ xs) h = absurd (omega arith)
all_taken (suc n) [] h = refl
all_taken (suc n) (x ∷ xs) h = ap (λ (l : List _). x ∷ l) (all_taken n xs (omega arith))
