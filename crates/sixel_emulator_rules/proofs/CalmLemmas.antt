-- Sixels that can break no rule, and the notes after them.
use Rattle.std.proofs.Common.{◌≡◌, ◌<◌, ◌≤◌, ◌+◌, ◌-◌, ◌*◌, ◌^◌, ◌&&◌, ◌||◌, ℕ, suc, Bool, true, false}
use Rattle.std.proofs.Common.{not, min, Option, Some, None, List, [], ◌∷◌, ◌++◌, length, refl, sym, ap, ◌∙◌, subst}
use Rattle.std.proofs.Common.{append-nil, arith}
use Rattle.std.specs.Prelude.{IsTrue, nat_le, nat_lt}
use Rattle.std.specs.Option.{option_map, option_map_or, option_or}
use Rattle.std.proofs.lemmas.Bool.{and_parts, leb-true, ltb-true, not-true}
use Rattle.std.proofs.lemmas.Bool.Decides.{nat_tests}
use Rattle.sixel_grammar.specs.declared.command.Command.TheVariants.{Sixel}
use Rattle.sixel_grammar.specs.declared.command.Event.{Event}
use Rattle.sixel_grammar.specs.declared.command.Event.TheVariants.{Step}
use Rattle.sixel_model.specs.Events.{Attributes, is_painting, named_by, select_of}
use Rattle.sixel_model.specs.Geometry.{band, column}
use Rattle.sixel_model.specs.Positions.{latest}
use Rattle.sixel_model.specs.Rules.{colour_of, known, raster_before}
use Rattle.sixel_model.proofs.PositionLemmas.{latest_push, option_or_none}
use Rattle.sixel_model.proofs.StepLemmas.{band_push, column_push, raster_push}
use Rattle.sixel_emulator.specs.Places.{most}
use Rattle.sixel_emulator.proofs.PlainLemmas.{band_over, column_over, first_before, same_over}
use Rattle.sixel_terminal.specs.Stretches.{sixels_of}
use Rattle.sixel_emulator_rules.specs.Asked.{breaks_dropped, breaks_far, breaks_hue, breaks_large, breaks_introducer}
use Rattle.sixel_emulator_rules.specs.Asked.{breaks_past, breaks_raster_late, breaks_rows, leaves_box, leaves_far}
use Rattle.sixel_emulator_rules.specs.Asked.{is_asked, is_droppable}
use Rattle.sixel_emulator_rules.specs.Asking.{BreaksNoneWithin}
use Rattle.sixel_emulator_rules.specs.Counts.{asks_where, fits_box_in, fits_in, is_calm_in, is_near_in}
use Rattle.sixel_emulator_rules.specs.Notes.{AreNarrow, IsNotesAfter, attributes, passed, stale_in}
use Rattle.sixel_emulator_rules.specs.Stale.{colour_at_select}
use Rattle.sixel_emulator_rules.specs.Tallies.{CountsAsked}
use Rattle.sixel_emulator_rules.specs.declared.notes.Declared.{Declared}
use Rattle.sixel_emulator_rules.specs.declared.notes.Notes.{Notes}
use Rattle.sixel_emulator_rules.specs.declared.rule.AskedRule.{AskedRule}
use Rattle.sixel_emulator_rules.specs.declared.rule.AskedRule.TheVariants.{RasterLate, Dropped, Stale, Large, Rows}
use Rattle.sixel_emulator_rules.specs.declared.rule.AskedRule.TheVariants.{Past, Hue}
use Rattle.sixel_emulator_rules.specs.declared.rule.AskedRule.TheVariants.{Far, Introducer, Bare, SpaceAfter}
use Rattle.sixel_emulator_rules.specs.declared.terminals.Terminals.{Terminals}
use Rattle.sixel_emulator_rules.proofs.AskingLemmas.{none_push}
use Rattle.sixel_emulator_rules.proofs.CountsLemmas.{breaks_counts, fresh, known_below}
use Rattle.sixel_emulator_rules.proofs.QuietLemmas.{either_left, either_right, near_if}
use Rattle.sixel_emulator_rules.proofs.StaleLemmas.{at_select_still, colour_still}

-- ---- the notes after sixels

dropped_over : (before : List Event) (bytes : List ℕ) → 0 < length bytes
    → option_map_or is_droppable (latest (λ (d : Event). Some d) (before ++ sixels_of bytes)) false ≡ false
dropped_over before [] some = absurd (omega (arith, some))
dropped_over before (b ∷ []) some =
    ap (λ (o : Option Event). option_map_or is_droppable o false)
    (latest_push (λ (d : Event). Some d) before (Step (Sixel (b - 63))))
dropped_over before (b ∷ c ∷ cs) some =
    ap (λ (es : List Event). option_map_or is_droppable (latest (λ (d : Event). Some d) es) false)
    (first_before before b (c ∷ cs))
    ∙ dropped_over (before ++ Step (Sixel (b - 63)) ∷ []) (c ∷ cs) (omega arith)

latest_over : {A : Type 0} (f : Event → Option A) → ((bits : ℕ) → f (Step (Sixel bits)) ≡ None)
    → (before : List Event) (bytes : List ℕ) → latest f (before ++ sixels_of bytes) ≡ latest f before
latest_over f none before bytes =
    same_over (latest f)
    (λ es bits. latest_push f es (Step (Sixel bits)) ∙ ap (λ (o : Option _). option_or o (latest f es)) (none bits))
    before bytes

raster_over : (before : List Event) (bytes : List ℕ)
    → raster_before (before ++ sixels_of bytes) ≡ raster_before before
raster_over before bytes =
    same_over raster_before
    (λ es bits. raster_push es (Step (Sixel bits)) ∙ option_or_none (raster_before es)) before bytes

colour_over : (r : ℕ) (before : List Event) (bytes : List ℕ)
    → colour_of (before ++ sixels_of bytes) r ≡ colour_of before r
colour_over r before bytes =
    same_over (λ es. colour_of es r) (λ es bits. colour_still es (Step (Sixel bits)) r refl) before bytes

at_select_over : (r : ℕ) (before : List Event) (bytes : List ℕ)
    → colour_at_select (before ++ sixels_of bytes) r ≡ colour_at_select before r
at_select_over r before bytes =
    same_over (λ es. colour_at_select es r) (λ es bits. at_select_still es (Step (Sixel bits)) r refl) before bytes

moved : (c k : ℕ) → min (min c most + k) most ≡ min (c + k) most
moved c k = omega arith

pub notes_over : (n : Notes) (before : List Event) (bytes : List ℕ) → 0 < length bytes → IsNotesAfter n before
    → IsNotesAfter (passed n (length bytes)) (before ++ sixels_of bytes)
notes_over n before bytes some s = record {
  column_is =
      ap (λ (m : ℕ). min (m + length bytes) most) s.column_is
      ∙ (moved (column 0 before) (length bytes)
      ∙ ap (λ (m : ℕ). min m most) (sym (column_over 0 before bytes)));
  band_is = s.band_is ∙ ap (λ (m : ℕ). min m most) (sym (band_over before bytes));
  declared_is = s.declared_is ∙ sym (raster_over before bytes);
  narrow = s.narrow;
  droppable_is = sym (dropped_over before bytes some);
  selected_is = s.selected_is ∙ sym (latest_over select_of (λ bits. refl) before bytes);
  named_is = s.named_is ∙ sym (latest_over named_by (λ bits. refl) before bytes);
  entries = s.entries;
  shades_are = λ r lt. s.shades_are r lt ∙ sym (colour_over r before bytes);
  picked_is = λ r lt is. s.picked_is r lt is ∙ sym (at_select_over r before bytes);
  picked_none = s.picked_none;
}

-- ---- what they can break

-- if a rule is asked for that hangs on where sixels stand, so many end in the box and at most at column 32,767, and their
-- band begins in the box; and if foot is asked, the known register has the colour of its select
pub record AreCalm (t : Terminals) (before : List Event) (count : ℕ) : Type 0 where
  pub column_to : IsTrue (asks_where t) → column 0 before + count ≤ 32767
  pub fits : IsTrue (asks_where t) → (a : Attributes) → raster_before before ≡ Some a
      → (column 0 before + count ≤ a.width) × (6 * band before < a.height)
  pub fresh : IsTrue (is_asked t Stale) → (r : ℕ) → r < 256 → known before ≡ Some r
      → colour_of before r ≡ colour_at_select before r

no_past : (p : Bool) (w h c b k : ℕ) → c + suc k ≤ w → 6 * b < h
    → (not p && (nat_lt w (c + 1) || nat_le h (6 * b))) ≡ true → ⊥
no_past true w h c b k across down t = cc
no_past false w h c b k across down t = grind (arith, nat_tests)

not_past : {t : Terminals} {before : List Event} {k : ℕ} (bits : ℕ) (o : Option Attributes) → raster_before before ≡ o
    → AreCalm t before (suc k) → IsTrue (asks_where t)
    → (not (is_painting (Step (Sixel bits))) && option_map_or (λ a. leaves_box a before (Step (Sixel bits))) o false)
    ≡ true → ⊥
not_past bits None is calm asks t = and_no (not (is_painting (Step (Sixel bits)))) t
  where
    and_no : (b : Bool) → (b && false) ≡ true → ⊥
    and_no true h = cc
    and_no false h = cc
not_past {before} {k} bits (Some a) is calm asks t =
    let room = calm.fits asks a is in
    no_past (is_painting (Step (Sixel bits))) a.width a.height (column 0 before) (band before) k room.0 room.1 t

no_far : (w h c b k : ℕ) → c + suc k ≤ 32767 → c + suc k ≤ w → 6 * b < h
    → (nat_lt 32767 (c + 1) || (nat_lt w (c + 1) || nat_lt (h + 512) (6 * b + 6))) ≡ true → ⊥
no_far w h c b k across in_box down t = grind (arith, nat_tests)

no_far_alone : (c k : ℕ) → c + suc k ≤ 32767 → (nat_lt 32767 (c + 1) || false) ≡ true → ⊥
no_far_alone c k across t = grind (arith, nat_tests)

not_far : {t : Terminals} {before : List Event} {k : ℕ} (bits : ℕ) (o : Option Attributes) → raster_before before ≡ o
    → AreCalm t before (suc k) → IsTrue (asks_where t)
    → (nat_lt 32767 (column 0 before + 1)
    || option_map_or (λ a. leaves_far a before (Step (Sixel bits))) o false) ≡ true → ⊥
not_far {before} {k} bits None is calm asks t = no_far_alone (column 0 before) k (calm.column_to asks) t
not_far {before} {k} bits (Some a) is calm asks t =
    let room = calm.fits asks a is in
    no_far a.width a.height (column 0 before) (band before) k (calm.column_to asks) room.0 room.1 t

pub none_counted : {t : Terminals} {before : List Event} {k : ℕ} (bits : ℕ) (rule : AskedRule)
    → AreCalm t before (suc k) → IsTrue (is_asked t rule) → ¬ CountsAsked rule before (Step (Sixel bits))
unfolding breaks_raster_late breaks_dropped breaks_large breaks_rows breaks_past breaks_hue breaks_far breaks_introducer
none_counted bits RasterLate calm asked h = cc
none_counted bits Dropped calm asked h = cc
none_counted {before} bits Stale calm asked h =
    h.0.differs (calm.fresh asked h.0.register (known_below before h.0.register h.0.is_known h.1) h.0.is_known)
none_counted bits Large calm asked h = cc
none_counted bits Rows calm asked h = cc
none_counted {t} {before} bits Past calm asked h =
    not_past bits (raster_before before) refl calm (either_left (is_asked t Past) (is_asked t Far) asked) h
none_counted bits Hue calm asked h = cc
none_counted {t} {before} bits Far calm asked h =
    not_far bits (raster_before before) refl calm (either_right (is_asked t Past) (is_asked t Far) asked) h
none_counted bits Introducer calm asked h = cc
none_counted bits Bare calm asked h = h
none_counted bits SpaceAfter calm asked h = h

known_still : (before : List Event) (bits : ℕ) → known (before ++ Step (Sixel bits) ∷ []) ≡ known before
unfolding known
known_still before bits =
    rw (latest_push select_of before (Step (Sixel bits)), latest_push named_by before (Step (Sixel bits))) refl

pub calm_after : {t : Terminals} (before : List Event) (k bits : ℕ) → AreCalm t before (suc k)
    → AreCalm t (before ++ Step (Sixel bits) ∷ []) k
calm_after before k bits calm =
    let one : Event = Step (Sixel bits) in
    let right : column 0 (before ++ one ∷ []) ≡ column 0 before + 1 = column_push 0 before one in
    let same : band (before ++ one ∷ []) ≡ band before + 0 = band_push before one in
    record {
      column_to = λ asks.
          let across : column 0 before + suc k ≤ 32767 = calm.column_to asks in omega (arith, across, right);
      fits = λ asks a is.
          let room = calm.fits asks a (sym (raster_push before one ∙ option_or_none (raster_before before)) ∙ is) in
          let in_width : column 0 before + suc k ≤ a.width = room.0 in
          let in_height : 6 * band before < a.height = room.1 in
          (omega (arith, in_width, right), omega (arith, in_height, same));
      fresh = λ asked r low is.
          colour_still before one r refl
          ∙ (calm.fresh asked r low (sym (known_still before bits) ∙ is)
          ∙ sym (at_select_still before one r refl));
    }

pub none_over : (t : Terminals) (before : List Event) (bytes : List ℕ) → AreCalm t before (length bytes)
    → BreaksNoneWithin t before → BreaksNoneWithin t (before ++ sixels_of bytes)
none_over t before [] calm none = subst (BreaksNoneWithin t) (sym (append-nil before)) none
none_over t before (b ∷ bs) calm none =
    subst (BreaksNoneWithin t) (sym (first_before before b bs))
    (none_over t (before ++ Step (Sixel (b - 63)) ∷ []) bs (calm_after before (length bs) (b - 63) calm)
    (none_push t before (Step (Sixel (b - 63))) none
    (λ rule asked within h. none_counted (b - 63) rule calm asked (breaks_counts before _ rule within h))))

-- ---- by the notes

within_cap : (c k m : ℕ) → m < most → min c most + k ≤ m → c + k ≤ m
within_cap c k m low h = omega (arith, low, h)

row_below : (b m : ℕ) → m < most → 6 * min b most < m → 6 * b < m
row_below b m low h = omega (arith, low, h)

fits_of : {n : Notes} {before : List Event} (k : ℕ) (a : Attributes) (o : Option Declared) → IsNotesAfter n before
    → AreNarrow o → option_map attributes o ≡ Some a → option_map_or (fits_in n k) o true ≡ true
    → (column 0 before + k ≤ a.width) × (6 * band before < a.height)
fits_of k a None s narrow is t = cc
fits_of {n} {before} k a (Some d) s narrow is t =
    let parts = and_parts (nat_le (n.column + k) d.width) (nat_lt (6 * n.band) d.height) t in
    let width : d.width ≡ a.width = cc in
    let height : d.height ≡ a.height = cc in
    let across : min (column 0 before) most + k ≤ d.width =
    subst (λ (m : ℕ). m + k ≤ d.width) s.column_is (leb-true (n.column + k) d.width parts.0) in
    let down : 6 * min (band before) most < d.height =
    subst (λ (m : ℕ). 6 * m < d.height) s.band_is (ltb-true (6 * n.band) d.height parts.1) in
    let w : d.width < 2 ^ 16 = narrow.0 in
    let h : d.height < 2 ^ 16 = narrow.1 in (
      subst (λ (m : ℕ). column 0 before + k ≤ m) width
          (within_cap (column 0 before) k d.width (omega (arith, w)) across),
      subst (λ (m : ℕ). 6 * band before < m) height (row_below (band before) d.height (omega (arith, h)) down),
    )

pub calm_of : {n : Notes} {before : List Event} (t : Terminals) (k : ℕ) → IsNotesAfter n before
    → is_calm_in t n k ≡ true → AreCalm t before k
calm_of {n} {before} t k s h =
    let one = and_parts (not (asks_where t) || is_near_in n k) (not (is_asked t Stale && stale_in n)) h in
    let near = λ (asks : IsTrue (asks_where t)).
    and_parts (fits_box_in n k) (nat_le (n.column + k) 32767)
    (near_if (asks_where t) (is_near_in n k) one.0 asks) in
    record {
      column_to = λ asks. within_cap (column 0 before) k 32767 (omega arith)
          (subst (λ (m : ℕ). m + k ≤ 32767) s.column_is (leb-true (n.column + k) 32767 (near asks).1));
      fits = λ asks a is. fits_of k a n.declared s s.narrow (s.declared_is ∙ is) (near asks).0;
      fresh = λ asked r low is.
          fresh r s low (second_false (is_asked t Stale) (stale_in n) asked (not-true _ one.1)) is;
    }
  where
    second_false : (a b : Bool) → a ≡ true → (a && b) ≡ false → b ≡ false
    second_false true b asked h = h
    second_false false b asked h = cc
