-- konsole's reading of a whole string.
use Rattle.std.proofs.Common.{◌≡◌, ◌+◌, ℕ, Bool, true, false, Option, Some, None, List, [], ◌++◌, length, take}
use Rattle.std.proofs.Common.{refl, sym, ap, append-nil, arith}
use Rattle.std.specs.Prelude.{◌==◌, ◌&&◌, ◌||◌, is_none, is_some, max, nat_lt, not, slice_get, if◌then◌else◌}
use Rattle.std.specs.List.{flat_map, range_with_len}
use Rattle.std.specs.Option.{option_map_or}
use Rattle.sixel_grammar.specs.declared.command.Command.{Command}
use Rattle.sixel_grammar.specs.declared.command.Command.TheVariants.{Sixel, Repeat, Raster, Select, Define}
use Rattle.sixel_grammar.specs.declared.command.Command.TheVariants.{CarriageReturn, NextLine}
use Rattle.sixel_grammar.specs.declared.command.Event.{Event}
use Rattle.sixel_grammar.specs.declared.command.Event.TheVariants.{Start, Step, Finish}
use Rattle.sixel_model.specs.declared.colour.Parts.{Parts}
use Rattle.sixel_emulator.specs.declared.reading.Reads.TheVariants.{Nothing, Draws, Unsaid}
use Rattle.sixel_konsole.specs.Konsole.{colour_and_select, event_after, konsole, konsole_drawing, konsole_model}
use Rattle.sixel_konsole.specs.Konsole.{counting, has_begun, is_above, is_dropped, is_stuck, is_whole, konsole_move}
use Rattle.sixel_konsole.specs.Konsole.{konsole_opening, may_count}
use Rattle.sixel_emulator.specs.Readings.{IsReading, drawn_by, is_stop, read_at}
use Rattle.sixel_emulator.specs.Words.{nearest}
use Rattle.sixel_konsole.proofs.KonsoleMeasureLemmas.{flat_same}

unsaid_goes_on : (stuck b : Bool) → is_stop (if stuck then Nothing else if b then Unsaid else Nothing) ≡ false
unsaid_goes_on true b = refl
unsaid_goes_on false true = refl
unsaid_goes_on false false = refl

define_goes_on : (dropped b : Bool) (register : ℕ) (o : Option Parts)
    → is_stop (if dropped then Nothing else if b then Unsaid else colour_and_select register o) ≡ false
define_goes_on true b register o = refl
define_goes_on false true register o = refl
define_goes_on false false register None = refl
define_goes_on false false register (Some c) = refl

dropped_goes_on : (dropped : Bool) (c : Command) → is_stop (if dropped then Nothing else Draws c) ≡ false
dropped_goes_on true c = refl
dropped_goes_on false c = refl

move_goes_on : (begun : Bool) (c : Command) → is_stop (konsole_move begun c) ≡ false
move_goes_on true c = refl
move_goes_on false c = refl

-- konsole never stops
never_stops : (before : List Event) (e : Event) (next : Option Event) → is_stop (konsole before e next) ≡ false
never_stops before (Start eight parameters) next = refl
never_stops before (Step (Raster pan pad width height)) next = unsaid_goes_on (is_stuck before)
    ((height == 0) || ((is_some (may_count before (Step (Raster pan pad width height)) next)
    && is_none (counting before (Some (Step (Raster pan pad width height)))))
    && not (is_whole (record { pan = pan; pad = pad; width = width; height = height }))))
never_stops before (Step (Define register system x y z)) next =
    define_goes_on (is_dropped before next || nat_lt 255 register) (is_above system x y z) register
    (nearest system x y z)
never_stops before (Step (Select register)) next =
    dropped_goes_on (is_dropped before next || nat_lt 255 register) (Select register)
never_stops before (Step (Sixel bits)) next = dropped_goes_on (is_stuck before) (Sixel bits)
never_stops before (Step (Repeat count bits)) next = dropped_goes_on (is_stuck before) (Repeat (max 1 count) bits)
never_stops before (Step CarriageReturn) next =
    move_goes_on (has_begun before (Some (Step CarriageReturn))) CarriageReturn
never_stops before (Step NextLine) next = move_goes_on (has_begun before (Some (Step NextLine))) NextLine
never_stops before (Finish eight) next = refl

position_goes_on : (events : List Event) (k : ℕ) (o : Option Event) → slice_get events k ≡ o
    → is_stop (read_at konsole_model events k) ≡ false
position_goes_on events k None is = rw is refl
position_goes_on events k (Some e) is = rw is (never_stops (take k events) e (slice_get events (k + 1)))

drawn_at : (events : List Event) (i : ℕ) (o : Option Event) → slice_get events i ≡ o
    → drawn_by (read_at konsole_model events i)
    ≡ option_map_or (λ e. drawn_by (konsole (take i events) e (event_after events None i))) (slice_get events i) []
drawn_at events i None is = rw is refl
drawn_at events i (Some e) is =
    rw is
    (ap (λ (n : Option Event). drawn_by (konsole (take i events) e n))
    (ap (λ (xs : List Event). slice_get xs (i + 1)) (sym (append-nil events))))

drawing_is : (events : List Event)
    → konsole_drawing events None
    ≡ flat_map (λ i. drawn_by (read_at konsole_model events i)) (range_with_len 0 (length events))
unfolding konsole_drawing
drawing_is events =
    flat_same (λ i. option_map_or (λ e. drawn_by (konsole (take i events) e (event_after events None i)))
    (slice_get events i) []) (λ i. drawn_by (read_at konsole_model events i)) (length events)
    (λ i lt. sym (drawn_at events i (slice_get events i) refl))

pub konsole_read : (events : List Event)
    → IsReading konsole_model events (konsole_opening events ++ konsole_drawing events None)
konsole_read events = record {
  end = length events;
  within = omega arith;
  goes_on = λ k lt. position_goes_on events k (slice_get events k) refl;
  stops = λ lt. absurd (omega arith);
  drawing_is = ap (λ (xs : List Event). konsole_opening events ++ xs) (drawing_is events);
}
