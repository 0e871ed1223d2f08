-- What foot draws, event by event.
use Rattle.std.proofs.Common.{◌≡◌, ℕ, zero, suc, ◌+◌, ◌≤◌, Bool, true, false, Option, Some, None, List, []}
use Rattle.std.proofs.Common.{◌∷◌, ◌++◌, length, take, refl, sym, ap, ◌∙◌, append-nil, arith}
use Rattle.std.specs.Prelude.{◌==◌, flat_map, slice_get, slice_index_or, if◌then◌else◌}
use Rattle.std.specs.List.{range_with_len}
use Rattle.std.proofs.Math.Seq.{take-length}
use Rattle.std.proofs.lemmas.Grind.{flat_map-append}
use Rattle.sixel_grammar.specs.declared.command.Command.{Command}
use Rattle.sixel_grammar.specs.declared.command.Command.TheVariants.{Raster, Select}
use Rattle.sixel_grammar.specs.declared.command.Event.{Event}
use Rattle.sixel_grammar.specs.declared.command.Event.TheVariants.{Start, Step, Finish}
use Rattle.sixel_model.specs.declared.colour.Parts.{Parts}
use Rattle.sixel_model.proofs.LastLemmas.{item_there}
use Rattle.sixel_model.proofs.LatestLemmas.{take_one_more}
use Rattle.sixel_emulator.specs.declared.reading.Reads.TheVariants.{Nothing, Draws, Unsaid}
use Rattle.sixel_foot.specs.Foot.{foot, foot_colour, foot_model, foot_register, foot_select}
use Rattle.sixel_foot.specs.Foot.{is_last, spoils_on_foot}
use Rattle.sixel_emulator.specs.Readings.{IsReading, drawn_by, is_stop, read_at}
use Rattle.sixel_emulator.specs.Words.{after_each, after_first}
use Rattle.sixel_emulator.proofs.WordLemmas.{each_push}

-- ---- the drawing

abbrev draws_too : List Event → List Event → Event → List Event
draws_too drawing before e = drawing ++ drawn_by (foot before e None)

-- what foot draws in place of the events
abbrev pub foot_drawing : List Event → List Event
foot_drawing before = after_each draws_too [] before

pub drawing_push : (before : List Event) (e : Event)
    → foot_drawing (before ++ e ∷ []) ≡ foot_drawing before ++ drawn_by (foot before e None)
drawing_push before e = each_push draws_too [] before e

pub drawing_none : foot_drawing [] ≡ []
unfolding after_each after_first
drawing_none = refl

-- ---- it is the reading

raster_draws : (last spoils : Bool)
    → drawn_by (if last then Nothing else if spoils then Unsaid else Nothing) ≡ []
raster_draws true spoils = refl
raster_draws false true = refl
raster_draws false false = refl

pub raster_drawn : (before : List Event) (pan pad width height : ℕ) (next : Option Event)
    → drawn_by (foot before (Step (Raster pan pad width height)) next) ≡ []
raster_drawn before pan pad width height next = raster_draws (is_last next) (spoils_on_foot before width height)

-- what it draws doesn't depend on the event after
any_next : (before : List Event) (e : Event) (next : Option Event)
    → drawn_by (foot before e next) ≡ drawn_by (foot before e None)
any_next before (Step (Raster pan pad width height)) next =
    raster_drawn before pan pad width height next ∙ sym (raster_drawn before pan pad width height None)
any_next before (Start eight parameters) next = refl
any_next before (Finish eight) next = refl
any_next before (Step _) next = refl

read_there : (events : List Event) (i : ℕ) (e : Event) → slice_get events i ≡ Some e
    → read_at foot_model events i ≡ foot (take i events) e (slice_get events (i + 1))
read_there events i e here = rw here refl

pub range_then : (a n j : ℕ) → a + n ≡ j → range_with_len a (suc n) ≡ range_with_len a n ++ j ∷ []
range_then a zero j e = let same : a ≡ j = omega arith in ap (λ (k : ℕ). k ∷ []) same
range_then a (suc n) j e = ap (λ (ks : List ℕ). a ∷ ks) (range_then (a + 1) n j (omega arith))

abbrev reads : List Event → ℕ → List Event
reads events i = drawn_by (read_at foot_model events i)

reading_step : (events : List Event) (n : ℕ) (e : Event) → slice_get events n ≡ Some e
    → flat_map (reads events) (range_with_len 0 n) ≡ foot_drawing (take n events)
    → flat_map (reads events) (range_with_len 0 (suc n)) ≡ foot_drawing (take (suc n) events)
reading_step events n e here ih =
    ap (flat_map (reads events)) (range_then 0 n n (omega arith))
    ∙ (flat_map-append (reads events) (range_with_len 0 n) (n ∷ [])
    ∙ (ap (λ (es : List Event). es ++ (reads events n ++ [])) ih
    ∙ (ap (λ (es : List Event). foot_drawing (take n events) ++ es)
    (append-nil (reads events n) ∙ (ap drawn_by (read_there events n e here) ∙ any_next (take n events) e _))
    ∙ (sym (drawing_push (take n events) e) ∙ ap foot_drawing (sym (take_one_more events n e here))))))

reading_below : (events : List Event) (n : ℕ) → n ≤ length events
    → flat_map (reads events) (range_with_len 0 n) ≡ foot_drawing (take n events)
reading_below events zero le = sym drawing_none
reading_below events (suc n) le =
    let e : (e : Event) × (slice_get events n ≡ Some e) = item_there events n (omega (arith, le)) in
    reading_step events n (e.0) (e.1) (reading_below events n (omega (arith, le)))

introducer_goes_on : (b : Bool) (c : Command) → is_stop (if b then Nothing else Draws c) ≡ false
introducer_goes_on true c = refl
introducer_goes_on false c = refl

raster_goes_on : (last spoils : Bool)
    → is_stop (if last then Nothing else if spoils then Unsaid else Nothing) ≡ false
raster_goes_on true spoils = refl
raster_goes_on false true = refl
raster_goes_on false false = refl

select_goes_on : (before : List Event) (register : ℕ) (o : Option Parts)
    → foot_colour before (foot_register register) ≡ o → is_stop (foot_select before register) ≡ false
select_goes_on before register None is = rw is refl
select_goes_on before register (Some colour) is = rw is refl

-- foot never stops
never_stops : (before : List Event) (e : Event) (next : Option Event) → is_stop (foot before e next) ≡ false
never_stops before (Start eight parameters) next = introducer_goes_on (slice_index_or parameters.items 1 0 == 1) _
never_stops before (Step (Raster pan pad width height)) next =
    raster_goes_on (is_last next) (spoils_on_foot before width height)
never_stops before (Step (Select register)) next = select_goes_on before register _ refl
never_stops before (Finish eight) next = refl
never_stops before (Step _) next = refl

position_goes_on : (events : List Event) (k : ℕ) (o : Option Event) → slice_get events k ≡ o
    → is_stop (read_at foot_model events k) ≡ false
position_goes_on events k None is = rw is refl
position_goes_on events k (Some e) is = rw is (never_stops (take k events) e (slice_get events (k + 1)))

pub drawing_is_reading : (events : List Event) → IsReading foot_model events (foot_drawing events)
drawing_is_reading events = record {
  end = length events;
  within = omega arith;
  goes_on = λ k lt. position_goes_on events k (slice_get events k) refl;
  stops = λ lt. absurd (omega arith);
  drawing_is = sym (reading_below events (length events) (omega arith) ∙ ap foot_drawing (take-length events));
}
