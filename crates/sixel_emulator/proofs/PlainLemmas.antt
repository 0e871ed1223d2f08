-- What sixels that come one after the other leave as it is, and where they end.
use Rattle.std.proofs.Common.{◌≡◌, ◌≢◌, ℕ, zero, suc, ◌+◌, ◌-◌, ◌<◌, ◌≤◌, Bool, true, false, ◌||◌, length, min, List}
use Rattle.std.proofs.Common.{[], ◌∷◌, ◌++◌, refl, sym, ap, ◌∙◌, append-nil, append_assoc}
use Rattle.std.proofs.Common.{arith, take}
use Rattle.std.specs.Prelude.{IsTrue, nat_lt, slice_index, slice_index_or}
use Rattle.sixel_grammar.specs.Bytes.{is_data}
use Rattle.std.specs.List.{list_any}
use Rattle.std.proofs.lemmas.Bool.Decides.{nat_tests}
use Rattle.std.proofs.lemmas.List.Folds.{list_any-append}
use Rattle.sixel_grammar.specs.declared.command.Command.{Command}
use Rattle.sixel_grammar.specs.declared.command.Command.TheVariants.{Sixel}
use Rattle.sixel_grammar.specs.declared.command.Event.{Event}
use Rattle.sixel_grammar.specs.declared.command.Event.TheVariants.{Step}
use Rattle.sixel_model.specs.Events.{is_data_command, is_painting}
use Rattle.sixel_model.specs.Geometry.{band, band_rows, column}
use Rattle.sixel_model.proofs.StepLemmas.{band_push, column_push}
use Rattle.sixel_terminal.specs.Stretches.{sixels_of}
use Rattle.sixel_emulator.specs.declared.place.Place.{Place}
use Rattle.sixel_emulator.specs.Places.{IsPlaceAfter, most}
use Rattle.sixel_emulator.specs.Words.{kept}

-- the first of them belongs to the events before
pub first_before : (before : List Event) (b : ℕ) (bs : List ℕ)
    → before ++ sixels_of (b ∷ bs) ≡ (before ++ Step (Sixel (b - 63)) ∷ []) ++ sixels_of bs
first_before before b bs = sym (append_assoc before (Step (Sixel (b - 63)) ∷ []) (sixels_of bs))

-- what one leaves as it is, all leave
pub same_over : {A : Type 0} (f : List Event → A)
    → ((es : List Event) (bits : ℕ) → f (es ++ Step (Sixel bits) ∷ []) ≡ f es) → (before : List Event)
    (bytes : List ℕ) → f (before ++ sixels_of bytes) ≡ f before
same_over f same before [] = ap f (append-nil before)
same_over f same before (b ∷ bs) =
    ap f (first_before before b bs)
    ∙ (same_over f same (before ++ Step (Sixel (b - 63)) ∷ []) bs ∙ same before (b - 63))

pub column_over : (zero_columns : ℕ) (before : List Event) (bytes : List ℕ)
    → column zero_columns (before ++ sixels_of bytes) ≡ column zero_columns before + length bytes
column_over zero_columns before [] = ap (column zero_columns) (append-nil before) ∙ omega arith
column_over zero_columns before (b ∷ bs) =
    ap (column zero_columns) (first_before before b bs)
    ∙ (column_over zero_columns (before ++ Step (Sixel (b - 63)) ∷ []) bs
    ∙ (ap (λ n. n + length bs) (column_push zero_columns before (Step (Sixel (b - 63)))) ∙ omega arith))

pub band_over : (before : List Event) (bytes : List ℕ) → band (before ++ sixels_of bytes) ≡ band before
band_over before bytes = same_over band (λ es bits. band_push es (Step (Sixel bits)) ∙ omega arith) before bytes

pub place_over : (zero_columns : ℕ) (p q : Place) {before : List Event} (bytes : List ℕ)
    → IsPlaceAfter zero_columns p before → q.column ≡ min (p.column + length bytes) most → q.band ≡ p.band
    → IsPlaceAfter zero_columns q (before ++ sixels_of bytes)
place_over zero_columns p q {before} bytes s c b =
    let capped : min (min (column zero_columns before) most + length bytes) most
    ≡ min (column zero_columns before + length bytes) most = omega arith in
    record {
      column_is =
          c ∙ (ap (λ (n : ℕ). min (n + length bytes) most) s.column_is
          ∙ (capped ∙ ap (λ (n : ℕ). min n most) (sym (column_over zero_columns before bytes))));
      band_is = b ∙ (s.band_is ∙ ap (λ (n : ℕ). min n most) (sym (band_over before bytes)));
    }

-- whether a data command is among them
some_more : (n : ℕ) → true ≡ nat_lt 0 (suc n)
some_more n = grind (arith, nat_tests)

data_in : (bytes : List ℕ) → list_any is_data_command (sixels_of bytes) ≡ nat_lt 0 (length bytes)
data_in [] = refl
data_in (b ∷ bs) = some_more (length bs)

pub data_over : (before : List Event) (bytes : List ℕ)
    → list_any is_data_command (before ++ sixels_of bytes)
    ≡ (list_any is_data_command before || nat_lt 0 (length bytes))
data_over before bytes =
    list_any-append is_data_command before (sixels_of bytes)
    ∙ ap (λ (b : Bool). list_any is_data_command before || b) (data_in bytes)

-- a command that has room is kept as it is
pub kept_whole : (columns rows : ℕ) (command : Command) (count bits : ℕ) → count ≤ columns → band_rows ≤ rows
    → kept columns rows command count bits ≡ command
kept_whole columns rows command count bits across down = grind (arith, nat_tests)

-- ---- set bits

blank : (b : ℕ) → b ≡ 63 → is_painting (Step (Sixel (b - 63))) ≡ false
blank b is = rw is refl

pub none_painting : (bytes : List ℕ) → ((k : ℕ) → k < length bytes → slice_index_or bytes k 0 ≡ 63)
    → false ≡ list_any is_painting (sixels_of bytes)
none_painting [] each = refl
none_painting (b ∷ bs) each =
    rw (blank b (each 0 (omega arith))) (none_painting bs (λ k lt. each (suc k) (omega (arith, lt))))

-- the first n of these bytes
pub none_painting_below : (bytes : List ℕ) (n : ℕ) → ((k : ℕ) → k < n → slice_index_or bytes k 0 ≡ 63)
    → list_any is_painting (sixels_of (take n bytes)) ≡ false
none_painting_below bytes zero each = refl
none_painting_below [] (suc n) each = refl
none_painting_below (b ∷ bs) (suc n) each =
    rw (blank b (each 0 (omega arith))) (none_painting_below bs n (λ k lt. each (suc k) (omega (arith, lt))))

set_bit : (b : ℕ) → IsTrue (is_data b) → b ≢ 63 → is_painting (Step (Sixel (b - 63))) ≡ true
set_bit b told other = grind (arith, nat_tests)

or_true : (a : Bool) → true ≡ (a || true)
or_true true = refl
or_true false = refl

pub some_painting : (bytes : List ℕ) (i : ℕ) → i < length bytes → IsTrue (is_data (slice_index bytes i))
    → slice_index_or bytes i 0 ≢ 63 → true ≡ list_any is_painting (sixels_of bytes)
some_painting [] i lt told other = absurd (omega (arith, lt))
some_painting (b ∷ bs) zero lt told other = rw (set_bit b told other) refl
some_painting (b ∷ bs) (suc i) lt told other =
    rw (sym (some_painting bs i (omega (arith, lt)) told other)) (or_true (is_painting (Step (Sixel (b - 63)))))

-- ---- none

pub none_over : (before : List Event) (bytes : List ℕ) → length bytes ≡ 0 → before ++ sixels_of bytes ≡ before
none_over before [] none = append-nil before
none_over before (b ∷ bs) none = absurd (omega (arith, none))
