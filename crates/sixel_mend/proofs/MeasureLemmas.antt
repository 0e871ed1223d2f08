-- What an extent stores, event by event.
use Rattle.std.proofs.Common.{◌≡◌, ◌==◌, ℕ, suc, ◌+◌, ◌-◌, ◌*◌, ◌<◌, ◌≤◌, Bool, true, false, cond, max, min, Option}
use Rattle.std.proofs.Common.{None, List, [], ◌∷◌, ◌++◌, length, refl, sym, ap, ap₂, subst, ◌∙◌, append_assoc}
use Rattle.std.proofs.Common.{◌||◌, append-nil, arith}
use Rattle.std.specs.Prelude.{if◌then◌else◌, slice_index}
use Rattle.std.specs.List.{list_any}
use Rattle.std.specs.Option.{option_map, option_or}
use Rattle.std.proofs.lemmas.List.Folds.{list_any-append}
use Rattle.sixel_grammar.specs.declared.command.Command.{Command}
use Rattle.sixel_grammar.specs.declared.command.Command.TheVariants.{Sixel}
use Rattle.sixel_grammar.specs.declared.command.Event.{Event}
use Rattle.sixel_grammar.specs.declared.command.Event.TheVariants.{Start, Step, Finish}
use Rattle.sixel_grammar.specs.declared.command.Placed.{Placed}
use Rattle.sixel_grammar.specs.Document.{events_of}
use Rattle.sixel_grammar.specs.Stretches.{sixels_from}
use Rattle.sixel_model.specs.Events.{bits_of, columns_of, is_next_line, is_return, raster_of}
use Rattle.sixel_model.specs.Geometry.{band, column}
use Rattle.sixel_model.specs.Positions.{earliest, since}
use Rattle.sixel_model.specs.Rules.{raster_before}
use Rattle.sixel_model.proofs.StepLemmas.{band_push, column_push, raster_push}
use Rattle.sixel_terminal.specs.Stretches.{sixels_of}
use Rattle.sixel_terminal.proofs.DrawLemmas.{or_none}
use Rattle.sixel_terminal.proofs.FollowLemmas.{events_then, sixels_are}
use Rattle.sixel_terminal.proofs.StandLemmas.{map_or}
use Rattle.sixel_mend.specs.declared.extent.Extent.{Extent}
use Rattle.sixel_mend.specs.declared.extent.Sides.{Sides}
use Rattle.sixel_mend.specs.Extents.{depth, next_height, next_width, reached}
use Rattle.sixel_mend.specs.Measures.{Measures, defines_hls, most, next_band, next_column, next_declared}
use Rattle.sixel_mend.specs.Measures.{next_has_hls, reached_column, reached_row, sides_of}
use Rattle.sixel_mend.specs.Screens.{mending_terminal}
use Rattle.sixel_mend.proofs.ExtentLemmas.{extent_none, extent_push}

-- ---- numbers that stop at the greatest one

capped_column : (b : Bool) (c n : ℕ) → cond b 0 (min (min c most + n) most) ≡ min (cond b 0 (c + n)) most
capped_column true c n = omega arith
capped_column false c n = omega arith

capped_sum : (b n : ℕ) → min (min b most + n) most ≡ min (b + n) most
capped_sum b n = omega arith

capped_row : (b rows : ℕ) → min (6 * min b most + rows) most ≡ min (6 * b + rows) most
capped_row b rows = omega arith

capped_side : (side rows to : ℕ) → reached (min side most) rows (min to most) ≡ min (reached side rows to) most
capped_side side rows to = by (rows == 0)
  where
    by : (b : Bool) → (if b then min side most else max (min side most) (min to most))
        ≡ min (if b then side else max side to) most
    by true = refl
    by false = omega arith

-- ---- one more event

or_false : (b : Bool) → b ≡ (b || false)
or_false true = refl
or_false false = refl

hls_push : (before : List Event) (event : Event)
    → (list_any defines_hls before || defines_hls event) ≡ list_any defines_hls (before ++ event ∷ [])
hls_push before event =
    ap (λ (b : Bool). list_any defines_hls before || b) (or_false (defines_hls event))
    ∙ sym (list_any-append defines_hls before (event ∷ []))

pub measures_push : {e : Extent} (f : Extent) {before : List Event} (event : Event) → Measures e before
    → f.column ≡ next_column e event → f.band ≡ next_band e event → f.width ≡ reached_column e event
    → f.height ≡ reached_row e event → f.declared ≡ next_declared e event → f.has_hls ≡ next_has_hls e event
    → Measures f (before ++ event ∷ [])
measures_push f {before} event s c b w h d l =
    let rows = depth (bits_of event) in
    let columns = columns_of 1 event in
    record {
      column_is =
          c ∙ ap (λ (n : ℕ). cond (is_return event) 0 (min (n + columns) most)) s.column_is
          ∙ capped_column (is_return event) (column 1 before) columns
          ∙ ap (λ (n : ℕ). min n most) (sym (column_push 1 before event));
      band_is =
          b ∙ ap (λ (n : ℕ). min (n + cond (is_next_line event) 1 0) most) s.band_is
          ∙ capped_sum (band before) (cond (is_next_line event) 1 0)
          ∙ ap (λ (n : ℕ). min n most) (sym (band_push before event));
      width = next_width s.width before event;
      height = next_height s.height before event;
      extent = λ m v u. extent_push m v u event (s.extent m v u);
      width_is =
          w ∙ ap₂ (λ (a n : ℕ). reached a rows (min (n + columns) most)) s.width_is s.column_is
          ∙ ap (reached (min s.width most) rows) (capped_sum (column 1 before) columns)
          ∙ capped_side s.width rows (column 1 before + columns);
      height_is =
          h ∙ ap₂ (λ (a n : ℕ). reached a rows (min (6 * n + rows) most)) s.height_is s.band_is
          ∙ ap (reached (min s.height most) rows) (capped_row (band before) rows)
          ∙ capped_side s.height rows (6 * band before + rows);
      declared_is =
          d ∙ ap (λ (o : Option Sides). option_or o (option_map sides_of (raster_of event))) s.declared_is
          ∙ sym (map_or sides_of (raster_before before) (raster_of event))
          ∙ ap (option_map sides_of) (sym (raster_push before event));
      has_hls_is = l ∙ ap (λ (b : Bool). b || defines_hls event) s.has_hls_is ∙ hls_push before event;
    }

-- an event that is no command
pub measures_idle : {e : Extent} {before : List Event} (event : Event)
    → ((command : Command) → event ≡ Step command → ⊥) → Measures e before → Measures e (before ++ event ∷ [])
measures_idle (Step command) no_step s = absurd (no_step command refl)
measures_idle {e} (Start eight parameters) no_step s =
    measures_push e (Start eight parameters) s (omega (arith, s.column_is)) (omega (arith, s.band_is))
    refl refl (or_none e.declared) (or_false e.has_hls)
measures_idle {e} (Finish eight) no_step s =
    measures_push e (Finish eight) s (omega (arith, s.column_is)) (omega (arith, s.band_is)) refl refl
    (or_none e.declared) (or_false e.has_hls)

pub measures_none : (e : Extent) → e.column ≡ 0 → e.band ≡ 0 → e.width ≡ 0 → e.height ≡ 0 → e.declared ≡ None
    → e.has_hls ≡ false → Measures e []
unfolding column band raster_before earliest since
measures_none e c b w h d l = record {
  column_is = c;
  band_is = b;
  width = 0;
  height = 0;
  extent = λ m v u. extent_none (mending_terminal m v u);
  width_is = w;
  height_is = h;
  declared_is = d;
  has_hls_is = l;
}

-- ---- a stretch that reaches no further

side_stays : (side rows to : ℕ) → to ≤ side → reached side rows (min to most) ≡ side
side_stays side rows to le = by (rows == 0)
  where
    by : (b : Bool) → (if b then side else max side (min to most)) ≡ side
    by true = refl
    by false = omega (arith, le)

abbrev moved : Extent → ℕ → Extent
moved e n = record e { column = e.column + n }

-- one of its sixels
one_inside : {e : Extent} {before : List Event} (bits : ℕ) → Measures e before → e.column + 1 ≤ e.width
    → 6 * e.band + depth bits ≤ e.height → Measures (moved e 1) (before ++ Step (Sixel bits) ∷ [])
one_inside {e} bits s across down =
    measures_push (moved e 1) (Step (Sixel bits)) s (omega (arith, s.width_is, across))
    (omega (arith, s.band_is)) (sym (side_stays e.width (depth bits) (e.column + 1) across))
    (sym (side_stays e.height (depth bits) (6 * e.band + depth bits) down)) (or_none e.declared)
    (or_false e.has_hls)

pub measures_stretch : (bytes : List ℕ) {e : Extent} {before : List Event} → Measures e before
    → e.column + length bytes ≤ e.width
    → ((k : ℕ) → k < length bytes → 6 * e.band + depth (slice_index bytes k - 63) ≤ e.height)
    → Measures (moved e (length bytes)) (before ++ sixels_of bytes)
measures_stretch [] {e} {before} s across down =
    subst (Measures (moved e 0)) (sym (append-nil before)) (same_there (e.column + 0) (omega arith))
  where
    same_there : (n : ℕ) → n ≡ e.column → Measures (record e { column = n }) before
    same_there n is = rw is s
measures_stretch (b ∷ bytes) {e} {before} s across down =
    let sixel = Step (Sixel (b - 63)) in
    let one = one_inside (b - 63) s (omega (arith, across)) (down 0 (omega arith)) in
    let all = measures_stretch bytes one (omega (arith, across)) (λ k lt. down (suc k) (omega (arith, lt))) in
    let count : e.column + 1 + length bytes ≡ e.column + length (b ∷ bytes) = omega arith in
    subst (λ (n : ℕ). Measures (record e { column = n }) (before ++ sixels_of (b ∷ bytes))) count
    (subst (Measures (moved (moved e 1) (length bytes))) (append_assoc before (sixel ∷ []) (sixels_of bytes)) all)

-- ---- events with their offsets

pub measures_one : {e : Extent} (seen : List Placed) (p : Placed) → Measures e (events_of seen ++ p.event ∷ [])
    → Measures e (events_of (seen ++ p ∷ []))
measures_one {e} seen p s = subst (Measures e) (sym (events_then seen (p ∷ []))) s

pub measures_sixels : {e : Extent} (seen : List Placed) (place : ℕ) (bytes : List ℕ)
    → Measures e (events_of seen ++ sixels_of bytes) → Measures e (events_of (seen ++ sixels_from place bytes))
measures_sixels {e} seen place bytes s =
    subst (Measures e)
    (ap (λ (es : List Event). events_of seen ++ es) (sym (sixels_are place bytes))
    ∙ sym (events_then seen (sixels_from place bytes))) s
