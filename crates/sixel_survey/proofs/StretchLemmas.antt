-- Stretches of sixels, one sixel after another.
use Rattle.std.proofs.Common.{◌≡◌, ◌≢◌, ◌<◌, ◌≤◌, ◌+◌, ◌-◌, ◌*◌, ◌&&◌, ◌||◌, ℕ, zero, suc, Bool, true, false, not}
use Rattle.std.proofs.Common.{Option, Some, None, List, [], ◌∷◌, ◌++◌, length, set, take, refl, sym, ap, ap₂}
use Rattle.std.proofs.Common.{subst, ◌∙◌, arith}
use Rattle.std.specs.Prelude.{is_some, nat_eq, nat_lt, slice_index, if◌then◌else◌}
use Rattle.std.specs.Option.{option_map_or}
use Rattle.std.proofs.Math.Bool.{or-false, or-true}
use Rattle.std.proofs.lemmas.Bool.{cond-true, eqb-false, eqb-true, lt-ltb}
use Rattle.std.proofs.lemmas.List.{append-nil, get_or-take, length-take-le, set-set}
use Rattle.sixel_grammar.specs.declared.command.Event.{Event}
use Rattle.sixel_grammar.specs.declared.command.Placed.{Placed}
use Rattle.sixel_grammar.specs.Document.{events_of}
use Rattle.sixel_grammar.specs.Stretches.{sixels_from}
use Rattle.sixel_grammar.proofs.SourceLemmas.{take_past}
use Rattle.sixel_model.specs.Events.{Attributes, has_sides, is_painting}
use Rattle.sixel_model.specs.Geometry.{band, column}
use Rattle.sixel_model.specs.Grids.{Grid, cell, painted_grid}
use Rattle.sixel_model.specs.Rules.{raster_before}
use Rattle.sixel_model.proofs.StepLemmas.{raster_push}
use Rattle.sixel_model.proofs.PositionLemmas.{option_or_none}
use Rattle.sixel_plane.specs.Stretches.{sixel_of, stretched_grid}
use Rattle.sixel_plane.proofs.PlaneStretchLemmas.{stretched_height, stretched_length, stretched_more, stretched_none}
use Rattle.sixel_plane.proofs.PlaneStretchLemmas.{stretched_width}
use Rattle.sixel_model.specs.declared.rule.Rule.{Rule}
use Rattle.sixel_model.specs.declared.rule.Rule.TheVariants.{RasterFirst, Unselected, Undefined, Outside, Uncovered}
use Rattle.sixel_judge.specs.Outside.{IsFirstIfAny, PaintsOutside}
use Rattle.sixel_judge.specs.Verdicts.{capped}
use Rattle.sixel_judge.proofs.JudgeLemmas.{events_push}
use Rattle.sixel_judge.proofs.OutsideLemmas.{IsCapped, inside_fits, none_outside}
use Rattle.sixel_judge.proofs.RunLemmas.{falls_first}
use Rattle.sixel_judge.proofs.StretchLemmas.{side, sixels_then}
use Rattle.sixel_survey.specs.declared.entry.Entry.{Entry}
use Rattle.sixel_judge.specs.declared.notes.Notes.{Notes}
use Rattle.sixel_judge.specs.declared.hits.Hit.{Hit}
use Rattle.sixel_judge.specs.Counting.{has_box, IsHit, at_pixel}
use Rattle.sixel_judge.specs.Covering.{IsCoverOf}
use Rattle.sixel_survey.specs.Covering.{IsCoveredBy}
use Rattle.sixel_judge.specs.Notes.{IsNotesAfter, counts_in, known_in, marked}
use Rattle.sixel_judge.specs.Stretches.{Fits}
use Rattle.sixel_survey.specs.Stretches.{CountsIf, any_paints, passed, sixel_at, with_sixels}
use Rattle.sixel_survey.specs.Surveying.{AreTallies}
use Rattle.sixel_survey.specs.Tallies.{AreTalliedFor, IsTallyOf, next_tally, tally_in}
use Rattle.sixel_survey.proofs.CoverLemmas.{cover_run, covered_part}
use Rattle.sixel_judge.proofs.HitLemmas.{box_told, hit_if, notes_hit, outside_in, outside_none}
use Rattle.sixel_judge.proofs.NotesLemmas.{notes_push}
use Rattle.sixel_survey.proofs.TallyLemmas.{tally_push}
use Rattle.sixel_survey.proofs.TallyingLemmas.{never, sixel_only, tallied_rest}

-- ---- one sixel after another

-- what holds before a stretch, and stays with each sixel, holds after the first k sixels
pub over : (Q : ℕ → List Placed → Type 0) (seen : List Placed) (place : ℕ) (stretch : List ℕ) → Q 0 seen
    → ((k : ℕ) → k < length stretch → Q k (with_sixels seen place stretch k)
    → Q (suc k) (with_sixels seen place stretch k
    ++ record { place = place + k; event = sixel_at stretch k } ∷ []))
    → (k : ℕ) → k ≤ length stretch → Q k (with_sixels seen place stretch k)
over Q seen place stretch start step zero le = subst (Q 0) (sym (append-nil seen)) start
over Q seen place stretch start step (suc k) le =
    let lt : k < length stretch = omega (arith, le) in
    let next : k + 1 ≡ suc k = omega arith in
    subst (Q (suc k))
    (sixels_then seen place k stretch lt ∙ ap (λ (n : ℕ). with_sixels seen place stretch n) next)
    (step k lt (over Q seen place stretch start step k (omega (arith, le))))

-- after all of them
pub over_all : (Q : List Placed → Type 0) (seen : List Placed) (place : ℕ) (stretch : List ℕ) (k : ℕ)
    → length stretch ≤ k → Q (with_sixels seen place stretch k) → Q (seen ++ sixels_from place stretch)
over_all Q seen place stretch k le h =
    subst (λ (l : List ℕ). Q (seen ++ sixels_from place l)) (take_past k stretch le) h

-- ---- the notes

marked_twice : (xs : List Bool) (o : Option ℕ) → marked (marked xs o) o ≡ marked xs o
marked_twice xs None = refl
marked_twice xs (Some r) = by_low (nat_lt r 256)
  where
    by_low : (b : Bool) → (if b then set (if b then set xs r true else xs) r true else (if b then set xs r true else xs))
        ≡ (if b then set xs r true else xs)
    by_low true = set-set xs r true true
    by_low false = refl

marked_more : (b a : Bool) (xs : List Bool) (o : Option ℕ)
    → (if b then marked (if a then marked xs o else xs) o else (if a then marked xs o else xs))
    ≡ (if b || a then marked xs o else xs)
marked_more true true xs o = marked_twice xs o
marked_more true false xs o = refl
marked_more false a xs o = refl

early_more : (early b a late : Bool) → ((early || (a && late)) || (b && late)) ≡ (early || ((b || a) && late))
early_more true b a late = refl
early_more false true true true = refl
early_more false true true false = refl
early_more false true false late = refl
early_more false false a late = or-false (a && late)

notes_none : {n : Notes} {events : List Event} (stretch : List ℕ) → IsNotesAfter n events
    → IsNotesAfter (passed n stretch 0) events
notes_none {n} {events} stretch s =
    let is = s.column_is in
    let column : n.column ≡ capped (n.column + 0) = omega (arith, is) in
    subst (λ (c : ℕ). IsNotesAfter (record n { column = c; early = n.early || false }) events) column
    (subst (λ (b : Bool). IsNotesAfter (record n { early = b }) events) (sym (or-false n.early)) s)

notes_one : (n : Notes) (events : List Event) (stretch : List ℕ) (k : ℕ) → IsNotesAfter (passed n stretch k) events
    → IsNotesAfter (passed n stretch (suc k)) (events ++ sixel_at stretch k ∷ [])
notes_one n events stretch k s =
    let e : Event = sixel_at stretch k in
    let a : Bool = any_paints stretch k in
    let column : capped (capped (n.column + k) + 1) ≡ capped (n.column + suc k) = omega arith in
    rw (
      column,
      marked_more (is_painting e) a n.painted (known_in n),
      or-false n.declared,
      early_more n.early (is_painting e) a (not n.declared),
    ) at (notes_push (passed n stretch k) events e s)

-- the notes after the first k sixels
pub notes_passed : (n : Notes) (seen : List Placed) (place : ℕ) (stretch : List ℕ) → IsNotesAfter n (events_of seen)
    → (k : ℕ) → k ≤ length stretch → IsNotesAfter (passed n stretch k) (events_of (with_sixels seen place stretch k))
notes_passed n seen place stretch s =
    over (λ k l. IsNotesAfter (passed n stretch k) (events_of l)) seen place stretch (notes_none stretch s)
    (λ k lt v. subst (IsNotesAfter (passed n stretch (suc k))) (sym (events_push (with_sixels seen place stretch k) _))
    (notes_one n (events_of (with_sixels seen place stretch k)) stretch k v))

-- a sixel that paints
paints_here : (stretch : List ℕ) (k n : ℕ) (b : Bool) → nat_eq k n ≡ b → k < suc n
    → is_painting (sixel_at stretch k) ≡ true → (k < n → any_paints stretch n ≡ true)
    → any_paints stretch (suc n) ≡ true
paints_here stretch k n true same lt is before =
    ap (λ (b : Bool). b || any_paints stretch n)
    (ap (λ (j : ℕ). is_painting (sixel_at stretch j)) (sym (eqb-true k n same)) ∙ is)
paints_here stretch k n false differ lt is before =
    let other = eqb-false k n differ in
    ap (λ (b : Bool). is_painting (sixel_at stretch n) || b) (before (omega (arith, lt, other)))
    ∙ or-true (is_painting (sixel_at stretch n))

pub some_paints : (stretch : List ℕ) (k n : ℕ) → k < n → is_painting (sixel_at stretch k) ≡ true
    → any_paints stretch n ≡ true
some_paints stretch k zero lt is = absurd (omega (arith, lt))
some_paints stretch k (suc n) lt is =
    paints_here stretch k n (nat_eq k n) refl lt is (λ less. some_paints stretch k n less is)

-- ---- the box

-- sixels declare no box
pub raster_stays : (seen : List Placed) (place : ℕ) (stretch : List ℕ) (k : ℕ) → k ≤ length stretch
    → raster_before (events_of (with_sixels seen place stretch k)) ≡ raster_before (events_of seen)
raster_stays seen place stretch =
    over (λ k l. raster_before (events_of l) ≡ raster_before (events_of seen)) seen place stretch refl
    (λ k lt same.
    ap raster_before (events_push (with_sixels seen place stretch k) _)
    ∙ raster_push (events_of (with_sixels seen place stretch k)) (sixel_at stretch k)
    ∙ option_or_none (raster_before (events_of (with_sixels seen place stretch k)))
    ∙ same)

pub has_box_stays : (seen : List Placed) (place : ℕ) (stretch : List ℕ) (k : ℕ) → k ≤ length stretch
    → has_box (events_of (with_sixels seen place stretch k)) ≡ has_box (events_of seen)
has_box_stays seen place stretch k le =
    ap (λ (o : Option Attributes). option_map_or has_sides o false) (raster_stays seen place stretch k le)

-- ---- the tallies

-- the tally of a rule that counts at none of the sixels
pub tally_passed : (registers : ℕ) (rule : Rule) (seen : List Placed) (place : ℕ) (stretch : List ℕ) (t : Option Entry)
    → ((k : ℕ) → k < length stretch
    → IsHit registers rule (events_of (with_sixels seen place stretch k)) (sixel_at stretch k) None)
    → IsTallyOf registers seen rule t → IsTallyOf registers (seen ++ sixels_from place stretch) rule t
tally_passed registers rule seen place stretch t none is =
    over_all (λ l. IsTallyOf registers l rule t) seen place stretch (length stretch) (omega arith)
    (over (λ k l. IsTallyOf registers l rule t) seen place stretch is
    (λ k lt h. tally_push registers rule (with_sixels seen place stretch k) _ None t (none k lt) h)
    (length stretch) (omega arith))

-- the tally with one more sixel
pub tally_more : (registers : ℕ) (rule : Rule) (seen : List Placed) (place : ℕ) (stretch : List ℕ) (k : ℕ)
    (hit : Option Hit) (t : Option Entry) → k < length stretch
    → IsHit registers rule (events_of (with_sixels seen place stretch k)) (sixel_at stretch k) hit
    → IsTallyOf registers (with_sixels seen place stretch k) rule t
    → IsTallyOf registers (with_sixels seen place stretch (k + 1)) rule (next_tally rule (place + k) hit t)
tally_more registers rule seen place stretch k hit t lt here is =
    subst (λ (l : List Placed). IsTallyOf registers l rule (next_tally rule (place + k) hit t))
    (sixels_then seen place k stretch lt)
    (tally_push registers rule (with_sixels seen place stretch k)
    (record { place = place + k; event = sixel_at stretch k }) hit t here is)

pub tally_start : (registers : ℕ) (rule : Rule) (seen : List Placed) (place : ℕ) (stretch : List ℕ) (t : Option Entry)
    → IsTallyOf registers seen rule t → IsTallyOf registers (with_sixels seen place stretch 0) rule t
tally_start registers rule seen place stretch t is =
    subst (λ (l : List Placed). IsTallyOf registers l rule t) (sym (append-nil seen)) is

-- after a stretch, if the rules that a sixel can break are done
pub tallied_sixels : {registers : ℕ} {n : Notes} {seen : List Placed} (place : ℕ) (stretch : List ℕ)
    {tallies : List (Option Entry)} → registers ≤ 256 → IsNotesAfter n (events_of seen)
    → AreTalliedFor registers seen (sixels_from place stretch) (Outside ∷ Undefined ∷ Unselected ∷ RasterFirst ∷ [])
    tallies
    → AreTallies registers (seen ++ sixels_from place stretch) tallies
tallied_sixels {registers} {n} {seen} place stretch {tallies} few s t =
    tallied_rest t (λ rule left. tally_passed registers rule seen place stretch (tally_in tallies rule)
    (λ k lt. never registers (sixel_at stretch k) rule few (notes_passed n seen place stretch s k (omega (arith, lt)))
    (sixel_only (slice_index stretch k - 63) rule left)))

-- a rule that doesn't look at pixels, by the notes after the sixels before
pub sixel_hits : (registers : ℕ) (n : Notes) (seen : List Placed) (place : ℕ) (stretch : List ℕ) (rule : Rule)
    (counts blank_too : Bool) → registers ≤ 256 → IsNotesAfter n (events_of seen) → rule ≢ Outside → rule ≢ Uncovered
    → ((k : ℕ) → counts_in registers (passed n stretch k) (sixel_at stretch k) rule
    ≡ (counts && (blank_too || is_painting (sixel_at stretch k))))
    → CountsIf registers rule seen place stretch counts blank_too
sixel_hits registers n seen place stretch rule counts blank_too few s p q same k lt =
    subst (λ (c : Bool). IsHit registers rule (events_of (with_sixels seen place stretch k)) (sixel_at stretch k)
    (hit_if c)) (same k)
    (notes_hit registers (passed n stretch k) (events_of (with_sixels seen place stretch k)) (sixel_at stretch k) rule
    few (notes_passed n seen place stretch s k (omega (arith, lt))) p q)

-- ---- the pixels

-- where the first pixel of one sixel outside the box is
pub outside_each : (registers : ℕ) {n : Notes} {s : Grid} (seen : List Placed) (place : ℕ) (stretch : List ℕ)
    (o : Option (ℕ × ℕ)) → IsNotesAfter n (events_of seen) → IsCoverOf s (events_of seen)
    → (k : ℕ) → k < length stretch
    → ((left line : ℕ) → capped (n.column + k) ≡ capped left → n.band ≡ capped line
    → IsFirstIfAny (PaintsOutside left 1 line (slice_index stretch k - 63) s.width s.height) o)
    → IsHit registers Outside (events_of (with_sixels seen place stretch k)) (sixel_at stretch k) (at_pixel o)
outside_each registers {n} {s} seen place stretch o h c k lt first =
    let before : List Event = events_of (with_sixels seen place stretch k) in
    let notes = notes_passed n seen place stretch h k (omega (arith, lt)) in
    outside_in registers c.box before (sixel_at stretch k)
    (raster_stays seen place stretch k (omega (arith, lt)) ∙ c.box_is)
    (has_box_stays seen place stretch k (omega (arith, lt)) ∙ box_told s (events_of seen) c) o
    (falls_first before (sixel_at stretch k) c.box o
    (rw (c.width_is, c.height_is) (first (column 0 before) (band before) notes.column_is notes.band_is)))

pub hit_there : (o : Option (ℕ × ℕ)) → is_some o ≡ true → at_pixel o ≡ Some (record { pixel = o })
hit_there None is = cc
hit_there (Some p) is = refl

pub hit_nowhere : (o : Option (ℕ × ℕ)) → is_some o ≡ false → at_pixel o ≡ None
hit_nowhere None is = refl
hit_nowhere (Some p) is = cc

-- no sixel of a stretch that lies in the box paints outside it
pub inside_none : (registers : ℕ) {n : Notes} {s : Grid} (seen : List Placed) (place : ℕ) (stretch : List ℕ)
    → IsNotesAfter n (events_of seen) → IsCoverOf s (events_of seen) → Fits n (length stretch) s → (k : ℕ)
    → k < length stretch
    → IsHit registers Outside (events_of (with_sixels seen place stretch k)) (sixel_at stretch k) None
inside_none registers {n} {s} seen place stretch h c fits k lt =
    outside_each registers seen place stretch None h c k lt (λ left line column_is band_is.
    let w : IsCapped (capped (n.column + k)) n.band left line s.width s.height = record {
      column_is = column_is;
      band_is = band_is;
      narrow = omega (arith, side s.width c.width);
      low = omega (arith, side s.height c.height);
    } in
    let columns : n.column + length stretch ≤ s.width = fits.columns in
    none_outside left 1 line (slice_index stretch k - 63) s.width s.height
    (inside_fits (capped (n.column + k)) n.band left line s.width s.height 1 (slice_index stretch k - 63) w
    (omega (arith, columns, lt)) fits.rows))

pub no_box_none : (registers : ℕ) (seen : List Placed) (place : ℕ) (stretch : List ℕ)
    → has_box (events_of seen) ≡ false → (k : ℕ) → k < length stretch
    → IsHit registers Outside (events_of (with_sixels seen place stretch k)) (sixel_at stretch k) None
no_box_none registers seen place stretch none k lt =
    outside_none registers (events_of (with_sixels seen place stretch k)) (sixel_at stretch k)
    (has_box_stays seen place stretch k (omega (arith, lt)) ∙ none)

-- ---- the covered pixels

-- the covered pixels with one more sixel
pub cover_more : {n : Notes} {s : Grid} (t : Grid) (seen : List Placed) (place : ℕ) (stretch : List ℕ) (k : ℕ)
    → k < length stretch → IsNotesAfter n (events_of seen)
    → IsCoverOf s (events_of (with_sixels seen place stretch k))
    → ((left line : ℕ) → capped (n.column + k) ≡ capped left → n.band ≡ capped line
    → IsCoveredBy s left 1 line (slice_index stretch k - 63) t)
    → IsCoverOf t (events_of (with_sixels seen place stretch (k + 1)))
cover_more {n} t seen place stretch k lt h c covers =
    let l : List Placed = with_sixels seen place stretch k in
    let notes = notes_passed n seen place stretch h k (omega (arith, lt)) in
    subst (λ (m : List Placed). IsCoverOf t (events_of m)) (sixels_then seen place k stretch lt)
    (subst (IsCoverOf t) (sym (events_push l _))
    (cover_run (sixel_at stretch k) c
    (covers (column 0 (events_of l)) (band (events_of l)) notes.column_is notes.band_is)))

-- grids with the same pixels
cover_same : {s : Grid} (t : Grid) {before : List Event} → t.width ≡ s.width → t.height ≡ s.height
    → length t.cells ≡ t.width * t.height → ((x y : ℕ) → x < s.width → y < s.height → cell t x y ≡ cell s x y)
    → IsCoverOf s before → IsCoverOf t before
cover_same t wide high long same c = record {
  box = c.box;
  box_is = c.box_is;
  width_is = c.width_is ∙ sym wide;
  height_is = c.height_is ∙ sym high;
  width = rw wide c.width;
  height = rw high c.height;
  pixels = long;
  covered = λ late x y p q.
      ap is_some (same x y (rw wide at p) (rw high at q)) ∙ c.covered late x y (rw wide at p) (rw high at q);
}

cover_none : {s : Grid} {before : List Event} (left line : ℕ) (f : ℕ → ℕ) (r : ℕ) → IsCoverOf s before
    → IsCoverOf (stretched_grid s left line 0 f r) before
cover_none {s} left line f r c =
    let wide = stretched_width s left line 0 f r in
    let high = stretched_height s left line 0 f r in
    cover_same (stretched_grid s left line 0 f r) wide high
    (stretched_length s left line 0 f r ∙ ap₂ (λ (w h : ℕ). w * h) (sym wide) (sym high))
    (λ x y p q. stretched_none s left line f r x y p q) c

-- the covered pixels after a stretch that lies in the box
pub cover_stretch : {n : Notes} {s : Grid} (seen : List Placed) (place : ℕ) {count : ℕ} (r : ℕ) (bytes : List ℕ)
    → count ≤ length bytes → IsNotesAfter n (events_of seen) → Fits n count s → IsCoverOf s (events_of seen)
    → (k : ℕ) → k ≤ count
    → IsCoverOf (stretched_grid s n.column n.band k (sixel_of bytes count) r)
    (events_of (with_sixels seen place (take count bytes) k))
cover_stretch {n} {s} seen place {count} r bytes long h fits c zero le =
    subst (λ (l : List Placed). IsCoverOf (stretched_grid s n.column n.band 0 (sixel_of bytes count) r) (events_of l))
    (sym (append-nil seen)) (cover_none n.column n.band (sixel_of bytes count) r c)
cover_stretch {n} {s} seen place {count} r bytes long h fits c (suc k) le =
    let f : ℕ → ℕ = sixel_of bytes count in
    let stretch : List ℕ = take count bytes in
    let t : Grid = stretched_grid s n.column n.band k f r in
    let short : length stretch ≡ count = length-take-le count bytes long in
    let before = cover_stretch seen place r bytes long h fits c k (omega (arith, le)) in
    let bits : f k ≡ slice_index stretch k - 63 =
    cond-true _ _ _ (lt-ltb k count (omega (arith, le)))
    ∙ ap (λ (b : ℕ). b - 63) (sym (get_or-take count bytes k 0 (omega (arith, le)))) in
    let columns : n.column + count ≤ s.width = fits.columns in
    let rows : 6 * n.band + 6 ≤ s.height = fits.rows in
    let next : k + 1 ≡ suc k = omega arith in
    let after = cover_more (painted_grid t (n.column + k) n.band 1 (f k) r) seen place stretch k
    (omega (arith, short, le)) h before
    (λ left line column_is band_is.
    let across : n.column + k ≡ left = omega (arith, column_is, columns, le, side s.width c.width) in
    let down : n.band ≡ line = omega (arith, band_is, rows, side s.height c.height) in
    covered_part t left 1 line (slice_index stretch k - 63) (n.column + k) n.band 1 (f k) r
    (λ x y p q. rw (across, down, bits) refl)) in
    subst (λ (j : ℕ). IsCoverOf (stretched_grid s n.column n.band j f r) (events_of (with_sixels seen place stretch j)))
    next
    (subst (λ (u : Grid). IsCoverOf u (events_of (with_sixels seen place stretch (k + 1))))
    (stretched_more s n.column n.band k f r (omega (arith, columns, le))) after)
