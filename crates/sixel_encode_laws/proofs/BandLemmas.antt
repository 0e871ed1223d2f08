-- The registers of a band, and the bands.
use Rattle.std.proofs.Common.{◌≡◌, ℕ, zero, suc, ◌+◌, ◌-◌, ◌*◌, ◌/◌, ◌%◌, ◌<◌, Bool, true, false, ◌&&◌, ◌||◌, List, []}
use Rattle.std.proofs.Common.{◌∷◌, ◌++◌, map, refl, sym, ap, ◌∙◌, arith}
use Rattle.std.specs.Prelude.{◌==◌, nat_lt, flat_map}
use Rattle.std.specs.List.{list_any, join_by, range_with_len, AllByRecursion}
use Rattle.std.proofs.lemmas.Bool.{and_parts, eq-eqb, eqb-true, lt-leb, ltb-true}
use Rattle.std.proofs.lemmas.Bool.Decides.{nat_tests}
use Rattle.std.proofs.lemmas.List.{map-append}
use Rattle.sixel_grammar.specs.declared.command.Event.{Event}
use Rattle.sixel_grammar.specs.declared.command.Event.TheVariants.{Step}
use Rattle.sixel_grammar.specs.declared.command.Command.TheVariants.{Select, CarriageReturn, NextLine}
use Rattle.sixel_model.specs.Pictures.{PictureValue, register_of}
use Rattle.sixel_model.specs.Geometry.{column}
use Rattle.sixel_model.specs.Rules.{breaks_colour_value, breaks_redefined, breaks_register, breaks_repeat_zero}
use Rattle.sixel_model.proofs.StepLemmas.{column_push}
use Rattle.sixel_encode.specs.Canon.{band_columns, band_commands, band_registers, below, register_commands, runs}
use Rattle.sixel_encode_laws.specs.Laws.{items_of}
use Rattle.sixel_encode_laws.proofs.LongestLemmas.{runs_joined}
use Rattle.sixel_encode_laws.proofs.StripLemmas.{lies}
use Rattle.sixel_encode_laws.proofs.StandLemmas.{Passed, Stands, known_select, passed_as, quiet_passed, ran_as}
use Rattle.sixel_encode_laws.proofs.StandLemmas.{ran_join}
use Rattle.sixel_encode_laws.proofs.StandLemmas.{ran_none, stands_as}
use Rattle.sixel_encode_laws.proofs.DrawnLemmas.{AreOwn, Draws, IsOwn, or_turn, runs_drawn}
use Rattle.sixel_encode_laws.proofs.OccurringLemmas.{band_used, own_listed}
use Rattle.sixel_encode.proofs.PartedLemmas.{IsUsed, Parted}
use Rattle.sixel_encode_laws.proofs.PixelLemmas.{is_in_band, lies_owns, owns}

-- ---- a register

own_pixel : (p : PictureValue) (band r x y : ℕ) → owns p band r x y ≡ true → IsOwn p r x y
own_pixel p band r x y h =
    let a = and_parts (is_in_band p band x y) (register_of p x y == r) h in
    let b = and_parts (nat_lt x p.width) (nat_lt y p.height && (y / 6 == band)) a.0 in
    let c = and_parts (nat_lt y p.height) (y / 6 == band) b.1 in
    record {
      inside_x = ltb-true x p.width b.0;
      inside_y = ltb-true y p.height c.0;
      own = eqb-true (register_of p x y) r a.1;
    }

-- from the left margin, the commands of a register paint its pixels in the band
register_passed : {registers : ℕ} {p : PictureValue} {before : List Event} {band : ℕ} {r : ℕ} {done : ℕ → ℕ → Bool}
    → Stands p before band done → column 0 before ≡ 0 → IsUsed registers p r
    → Passed registers p before (map Step (register_commands p band r)) band (λ x y. owns p band r x y || done x y)
unfolding register_commands breaks_register breaks_colour_value breaks_repeat_zero breaks_redefined
register_passed {registers} {p} {before} {band} {r} {done} s margin used =
    let rs = runs (band_columns p band r) in
    let same : (x y : ℕ) → lies 0 band (items_of rs) x y ≡ owns p band r x y =
    λ x y. ap (λ bs. lies 0 band bs x y) (runs_joined (band_columns p band r)) ∙ lies_owns p band r x y in
    let select : Passed registers p before (Step (Select r) ∷ []) band done =
    quiet_passed s refl refl refl refl (lt-leb registers r used.under) refl refl refl (λ q. refl) (omega arith) in
    let draws : Draws p (before ++ Step (Select r) ∷ []) band 0 r done = record {
      stands = select.after;
      at_column = column_push 0 before (Step (Select r)) ∙ rw margin refl;
      knows = known_select before r;
      coloured = used.coloured;
    } in
    let own : AreOwn p band 0 (items_of rs) r = λ x y h. own_pixel p band r x y (sym (same x y) ∙ h) in
    ran_join select (ran_as (runs_drawn rs draws own)
    (λ b d. stands_as d.stands refl (λ x y. ap (λ o. o || done x y) (same x y))))

-- ---- the registers of a band

others_passed : (rs : List ℕ) {registers : ℕ} {p : PictureValue} {before : List Event} {band : ℕ} {done : ℕ → ℕ → Bool}
    → Stands p before band done → AllByRecursion (IsUsed registers p) rs
    → Passed registers p before (map Step (flat_map (λ r. CarriageReturn ∷ register_commands p band r) rs)) band
    (λ x y. list_any (λ r. owns p band r x y) rs || done x y)
unfolding breaks_register breaks_colour_value breaks_repeat_zero breaks_redefined
others_passed [] s used = ran_none s
others_passed (r ∷ rs) {registers} {p} {before} {band} {done} s used =
    let return : Passed registers p before (Step CarriageReturn ∷ []) band done =
    quiet_passed s refl refl refl refl refl refl refl refl (λ q. refl) (omega arith) in
    let one = ran_join return (register_passed return.after (column_push 0 before (Step CarriageReturn)) used.0) in
    rw (map-append Step (register_commands p band r) (flat_map (λ r. CarriageReturn ∷ register_commands p band r) rs))
    (passed_as (ran_join one (others_passed rs one.after used.1)) refl
    (λ x y. or_turn (list_any (λ r. owns p band r x y) rs) (owns p band r x y) (done x y)))

registers_passed : (rs : List ℕ) {registers : ℕ} {p : PictureValue} {before : List Event} {band : ℕ}
    {done : ℕ → ℕ → Bool} → Stands p before band done → column 0 before ≡ 0 → AllByRecursion (IsUsed registers p) rs
    → Passed registers p before (map Step (join_by (register_commands p band) (CarriageReturn ∷ []) rs)) band
    (λ x y. list_any (λ r. owns p band r x y) rs || done x y)
registers_passed [] s margin used = ran_none s
registers_passed (r ∷ rs) {registers} {p} {before} {band} {done} s margin used =
    let one = register_passed s margin used.0 in
    rw (map-append Step (register_commands p band r) (flat_map (λ r. CarriageReturn ∷ register_commands p band r) rs))
    (passed_as (ran_join one (others_passed rs one.after used.1)) refl
    (λ x y. or_turn (list_any (λ r. owns p band r x y) rs) (owns p band r x y) (done x y)))

any_none : (rs : List ℕ) → list_any (λ r. false) rs ≡ false
any_none [] = refl
any_none (r ∷ rs) = any_none rs

-- the pixels of a band's registers together are those of the band
band_owns : {registers : ℕ} {p : PictureValue} (band x y : ℕ) → Parted registers p
    → list_any (λ r. owns p band r x y) (band_registers p band) ≡ is_in_band p band x y
band_owns {registers} {p} band x y f = split (is_in_band p band x y) here
  where
    here : is_in_band p band x y ≡ true → list_any (λ r. register_of p x y == r) (band_registers p band) ≡ true
    here h =
        let a = and_parts (nat_lt x p.width) (nat_lt y p.height && (y / 6 == band)) h in
        let b = and_parts (nat_lt y p.height) (y / 6 == band) a.1 in
        let line : y / 6 ≡ band = eqb-true (y / 6) band b.1 in
        let inside : y < p.height = ltb-true y p.height b.0 in
        let e : y ≡ 6 * band + y % 6 = omega arith in
        own_listed band x (y % 6) (λ r. register_of p x y == r) f (ltb-true x p.width a.0) (omega arith)
        (omega arith) (eq-eqb _ _ (ap (register_of p x) e))

    split : (t : Bool) → (t ≡ true → list_any (λ r. register_of p x y == r) (band_registers p band) ≡ true)
        → list_any (λ r. t && (register_of p x y == r)) (band_registers p band) ≡ t
    split true h = h refl
    split false h = any_none (band_registers p band)

-- ---- the bands

band_passed : {registers : ℕ} {p : PictureValue} {before : List Event} {band : ℕ} {done : ℕ → ℕ → Bool}
    → Parted registers p → Stands p before band done → column 0 before ≡ 0
    → Passed registers p before (map Step (band_commands p band)) band (λ x y. is_in_band p band x y || done x y)
unfolding band_commands
band_passed {registers} {p} {band} {done} f s margin =
    passed_as (registers_passed (band_registers p band) s margin (band_used band f)) refl
    (λ x y. ap (λ o. o || done x y) (band_owns band x y f))

-- the point is a pixel of one of the first `count` bands
abbrev pub is_above : PictureValue → ℕ → ℕ → ℕ → Bool
is_above p count x y = nat_lt x p.width && (nat_lt y p.height && nat_lt (y / 6) count)

above_more : (p : PictureValue) (band x y : ℕ)
    → (is_in_band p band x y || is_above p band x y) ≡ is_above p (band + 1) x y
above_more p band x y = step (nat_lt x p.width) (nat_lt y p.height) (y / 6)
  where
    step : (a b : Bool) (q : ℕ)
        → ((a && (b && (q == band))) || (a && (b && nat_lt q band))) ≡ (a && (b && nat_lt q (band + 1)))
    step true true q = grind (arith, nat_tests)
    step true false q = refl
    step false b q = refl

nexts_passed : (n : ℕ) {registers : ℕ} {p : PictureValue} {before : List Event} {band : ℕ} → Parted registers p
    → Stands p before band (is_above p (band + 1))
    → Passed registers p before (map Step (flat_map (λ l. NextLine ∷ band_commands p l) (range_with_len (band + 1) n)))
    (band + n) (is_above p (band + 1 + n))
unfolding breaks_register breaks_colour_value breaks_repeat_zero breaks_redefined
nexts_passed zero {p = p} {band} f s =
    passed_as (ran_none s) (omega arith)
    (λ x y. ap (λ n. is_above p n x y) (let e : band + 1 ≡ band + 1 + 0 = omega arith in e))
nexts_passed (suc n) {registers} {p} {before} {band} f s =
    let next : Passed registers p before (Step NextLine ∷ []) (band + 1) (is_above p (band + 1)) =
    quiet_passed s refl refl refl refl refl refl refl refl (λ q. refl) (omega arith) in
    let one = passed_as (ran_join next
    (band_passed f next.after (column_push 0 before (Step NextLine)))) refl (above_more p (band + 1)) in
    rw (map-append Step (band_commands p (band + 1))
    (flat_map (λ l. NextLine ∷ band_commands p l) (range_with_len (band + 1 + 1) n)))
    (passed_as (ran_join one (nexts_passed n f one.after)) (omega arith)
    (λ x y. ap (λ n. is_above p n x y) (let e : band + 1 + 1 + n ≡ band + 1 + suc n = omega arith in e)))

above_none : (p : PictureValue) (x y : ℕ) → false ≡ is_above p 0 x y
above_none p x y = step (nat_lt x p.width) (nat_lt y p.height)
  where
    step : (a b : Bool) → false ≡ (a && (b && nat_lt (y / 6) 0))
    step true true = grind (arith, nat_tests)
    step true false = refl
    step false b = refl

-- the first bands paint exactly their pixels
pub bands_passed : (n : ℕ) {registers : ℕ} {p : PictureValue} {before : List Event} → Parted registers p
    → Stands p before 0 (λ x y. false) → column 0 before ≡ 0
    → Passed registers p before (map Step (join_by (band_commands p) (NextLine ∷ []) (below n))) (n - 1) (is_above p n)
bands_passed zero {p = p} f s margin = passed_as (ran_none s) refl (above_none p)
bands_passed (suc n) {p = p} f s margin =
    let one = passed_as (band_passed f (stands_as s refl (above_none p)) margin) refl (above_more p 0) in
    rw (map-append Step (band_commands p 0) (flat_map (λ l. NextLine ∷ band_commands p l) (range_with_len (0 + 1) n)))
    (passed_as (ran_join one (nexts_passed n f one.after)) (omega arith)
    (λ x y. ap (λ n. is_above p n x y) (let e : 0 + 1 + n ≡ suc n = omega arith in e)))
