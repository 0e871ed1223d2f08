-- Giving pixels their colours.
use Rattle.std.proofs.Common.{◌≡◌, ◌∙◌, ◌<◌, ◌≤◌, ◌++◌, ◌+◌, ◌∷◌, [], ℕ, zero, suc, List, ap, arith, drop, get_or}
use Rattle.std.proofs.Common.{inl, inr, length, length-append, map, refl, set, subst, sym, take}
use Rattle.std.specs.Prelude.{IsSome}
use Rattle.std.proofs.lemmas.Bool.{cases_eq}
use Rattle.std.proofs.Math.Seq.{drop-length, take-length}
use Rattle.std.proofs.lemmas.List.{append-nil, get_or-set_other, get_or-set_same, get_or_default, length-map}
use Rattle.std.proofs.lemmas.List.{length-set, take-append-drop}
use Rattle.std.proofs.lemmas.List.Edits.{map_over_more}
use Rattle.sixel_model.specs.declared.colour.Parts.{Parts}
use Rattle.sixel_terminal.specs.declared.choices.Ground.{Ground}
use Rattle.sixel_terminal.specs.declared.choices.Ground.TheVariants.{Kept, Filled}
use Rattle.sixel_terminal.specs.declared.pixel.Ink.{Ink}
use Rattle.sixel_terminal.specs.declared.pixel.Ink.TheVariants.{Fixed, Bound}
use Rattle.sixel_terminal.specs.Canvases.{black}
use Rattle.sixel_terminal.specs.Pixels.{AreAlikeIn, AreBoundIn, IsBoundAt, register_in_ink}
use Rattle.sixel_terminal.specs.Screens.{IsFixed}
use Rattle.sixel_terminal.specs.Standing.{AreInksBelow, IsInkBelow, fixed_at, fixed_below, shown_in, shown_over}
use Rattle.sixel_terminal.specs.Steps.{ink_over}

abbrev fixed : List Parts → Ground → Ink → Ink
fixed colours under ink = Fixed (shown_over colours under ink)

fixed_long : (colours : List Parts) (under : Ground) (i : ℕ) (xs : List Ink)
    → length (fixed_below colours under i xs) ≡ length xs
fixed_long colours under i xs =
    let joined = length-append (map (fixed colours under) (take i xs)) (drop i xs) in
    let same = length-map (take i xs) (fixed colours under) in
    let parts = length-append (take i xs) (drop i xs) in
    let whole = ap length (take-append-drop i xs) in
    omega (arith, joined, same, parts, whole)

-- the same at an index that is the same
pub moved : (colours : List Parts) (under : Ground) (xs ys : List Ink) (n m : ℕ) → n ≡ m
    → ys ≡ fixed_below colours under n xs → ys ≡ fixed_below colours under m xs
moved colours under xs ys n m same are = are ∙ ap (λ k. fixed_below colours under k xs) same

-- one more has its colour
pub one_fixed : (colours : List Parts) (under : Ground) (xs ys zs : List Ink) (i n : ℕ) → i < length ys → n ≡ i + 1
    → ys ≡ fixed_below colours under i xs → zs ≡ set ys i (fixed_at colours under ys i)
    → zs ≡ fixed_below colours under n xs
one_fixed colours under xs ys zs i n lt next are is =
    let long = ap length are ∙ fixed_long colours under i xs in
    is
    ∙ map_over_more (fixed colours under) xs ys i (get_or ys i black) (omega (arith, lt, long)) are
    (get_or_default ys i black (get_or ys i black) lt)
    ∙ ap (λ k. fixed_below colours under k xs) (sym next)

pub long_one : (ys zs : List Ink) (i : ℕ) (ink : Ink) → zs ≡ set ys i ink → length zs ≡ length ys
long_one ys zs i ink is = ap length is ∙ length-set ys i ink

-- its ink needs no register
pub below_one : (n : ℕ) (c : Parts) (ys zs : List Ink) (i : ℕ) → AreInksBelow n ys → zs ≡ set ys i (Fixed c)
    → AreInksBelow n zs
below_one n c ys zs i below is = λ k lt.
    let within : k < length ys = omega (arith, lt, long_one ys zs i (Fixed c) is) in
    elim (cases_eq k i) [
      | inl same ↦
          let there : get_or zs k black ≡ Fixed c =
          ap (λ (l : List Ink). get_or l k black) is
          ∙ ap (λ n. get_or (set ys i (Fixed c)) n black) same
          ∙ get_or-set_same ys i (Fixed c) black (omega (arith, within, same)) in
          subst (λ (x : Ink). IsInkBelow n x) (sym there) tt
      | inr other ↦
          subst (λ (x : Ink). IsInkBelow n x)
          (sym (ap (λ (l : List Ink). get_or l k black) is ∙ get_or-set_other ys i k (Fixed c) black other))
          (below k within)
    ]

below_at : (n : ℕ) (colours : List Parts) (under : Ground) (xs : List Ink) (i k : ℕ) → k < length xs
    → IsInkBelow n (get_or xs k black) → IsInkBelow n (get_or (fixed_below colours under i xs) k black)
below_at n colours under [] i k lt below = absurd (omega arith)
below_at n colours under (x ∷ xs) zero k lt below = below
below_at n colours under (x ∷ xs) (suc i) zero lt below = tt
below_at n colours under (x ∷ xs) (suc i) (suc k) lt below =
    below_at n colours under xs i k (omega (arith, lt)) below

-- nor do those of pixels that have their colours
pub below_fixed : (n : ℕ) (colours : List Parts) (under : Ground) (xs ys : List Ink) (i : ℕ) → AreInksBelow n xs
    → ys ≡ fixed_below colours under i xs → AreInksBelow n ys
below_fixed n colours under xs ys i below are = λ k lt.
    let within : k < length xs = omega (arith, lt, ap length are, fixed_long colours under i xs) in
    subst (λ (l : List Ink). IsInkBelow n (get_or l k black)) (sym are)
    (below_at n colours under xs i k within (below k within))

-- four more have theirs
four_fixed : (colours : List Parts) (under : Ground) (xs old a b c d : List Ink) (i : ℕ) → i + 4 ≤ length old
    → old ≡ fixed_below colours under i xs → a ≡ set old i (fixed_at colours under old i)
    → b ≡ set a (i + 1) (fixed_at colours under a (i + 1)) → c ≡ set b (i + 2) (fixed_at colours under b (i + 2))
    → d ≡ set c (i + 3) (fixed_at colours under c (i + 3)) → d ≡ fixed_below colours under (i + 4) xs
four_fixed colours under xs old a b c d i room are first second third fourth =
    let long = ap length first ∙ length-set old i (fixed_at colours under old i) in
    let longer = ap length second ∙ length-set a (i + 1) (fixed_at colours under a (i + 1)) in
    let longest = ap length third ∙ length-set b (i + 2) (fixed_at colours under b (i + 2)) in
    let one = one_fixed colours under xs old a i (i + 1) (omega (arith, room)) refl are first in
    let two = one_fixed colours under xs a b (i + 1) (i + 2) (omega (arith, room, long)) (omega arith) one second in
    let three = one_fixed colours under xs b c (i + 2) (i + 3) (omega (arith, room, long, longer)) (omega arith) two
    third in
    one_fixed colours under xs c d (i + 3) (i + 4) (omega (arith, room, long, longer, longest)) (omega arith) three
    fourth

-- ---- four pixels of registers

-- a ground lies under a register
over_bound : (under : Ground) (ink : Ink) → IsSome (register_in_ink ink) → ink_over under ink ≡ ink
over_bound Kept ink is = refl
over_bound (Filled r) (Fixed c) is = cc
over_bound (Filled r) (Bound q) is = refl

-- writing one pixel leaves the next ones as they are
pub kept_one : (ys zs : List Ink) (i k : ℕ) (ink : Ink) → zs ≡ set ys i ink → i < k
    → get_or zs k black ≡ get_or ys k black
kept_one ys zs i k ink is lt =
    ap (λ (l : List Ink). get_or l k black) is
    ∙ get_or-set_other ys i k ink black (λ same. absurd (omega (arith, lt, same)))

pub bound_one : (ys zs : List Ink) (i k : ℕ) (ink : Ink) → zs ≡ set ys i ink → i < k → IsBoundAt ys k → IsBoundAt zs k
bound_one ys zs i k ink is lt bound =
    subst (λ (x : Ink). IsSome (register_in_ink x)) (sym (kept_one ys zs i k ink is lt)) bound

-- the colour of a register is the one over any ground
bound_at : (colours : List Parts) (under : Ground) (ys zs : List Ink) (i : ℕ) → IsBoundAt ys i
    → zs ≡ set ys i (Fixed (shown_in colours (get_or ys i black))) → zs ≡ set ys i (fixed_at colours under ys i)
bound_at colours under ys zs i bound is =
    is ∙ ap (λ ink. set ys i (Fixed (shown_in colours ink))) (sym (over_bound under (get_or ys i black) bound))

pub four_bound : (colours : List Parts) (under : Ground) (xs old a b c d : List Ink) (i : ℕ) → i + 4 ≤ length old
    → AreBoundIn old i (i + 4) → old ≡ fixed_below colours under i xs
    → a ≡ set old i (Fixed (shown_in colours (get_or old i black)))
    → b ≡ set a (i + 1) (Fixed (shown_in colours (get_or a (i + 1) black)))
    → c ≡ set b (i + 2) (Fixed (shown_in colours (get_or b (i + 2) black)))
    → d ≡ set c (i + 3) (Fixed (shown_in colours (get_or c (i + 3) black)))
    → d ≡ fixed_below colours under (i + 4) xs
four_bound colours under xs old a b c d i room bound are first second third fourth =
    let one = bound i (omega arith) (omega arith) in
    let two = bound_one old a i (i + 1) _ first (omega arith) (bound (i + 1) (omega arith) (omega arith)) in
    let three = bound_one a b (i + 1) (i + 2) _ second (omega arith)
    (bound_one old a i (i + 2) _ first (omega arith) (bound (i + 2) (omega arith) (omega arith))) in
    let four = bound_one b c (i + 2) (i + 3) _ third (omega arith)
    (bound_one a b (i + 1) (i + 3) _ second (omega arith)
    (bound_one old a i (i + 3) _ first (omega arith) (bound (i + 3) (omega arith) (omega arith)))) in
    four_fixed colours under xs old a b c d i room are (bound_at colours under old a i one first)
    (bound_at colours under a b (i + 1) two second) (bound_at colours under b c (i + 2) three third)
    (bound_at colours under c d (i + 3) four fourth)

-- ---- four pixels that are the same

below_ink : (n : ℕ) (ink : Ink) (ys zs : List Ink) (i : ℕ) → IsFixed ink → AreInksBelow n ys → zs ≡ set ys i ink
    → AreInksBelow n zs
below_ink n (Fixed c) ys zs i fixed below is = below_one n c ys zs i below is
below_ink n (Bound r) ys zs i fixed below is = absurd fixed

pub below_four : (n : ℕ) (ink : Ink) (old a b c d : List Ink) (i : ℕ) → IsFixed ink → AreInksBelow n old
    → a ≡ set old i ink → b ≡ set a (i + 1) ink → c ≡ set b (i + 2) ink → d ≡ set c (i + 3) ink → AreInksBelow n d
below_four n ink old a b c d i fixed below first second third fourth =
    below_ink n ink c d (i + 3) fixed
    (below_ink n ink b c (i + 2) fixed
    (below_ink n ink a b (i + 1) fixed (below_ink n ink old a i fixed below first) second) third) fourth

pub four_alike : (colours : List Parts) (under : Ground) (xs old a b c d : List Ink) (i : ℕ) (ink y : Ink)
    → i + 4 ≤ length old → AreAlikeIn old i (i + 4) ink → y ≡ fixed colours under ink
    → old ≡ fixed_below colours under i xs → a ≡ set old i y → b ≡ set a (i + 1) y → c ≡ set b (i + 2) y
    → d ≡ set c (i + 3) y → d ≡ fixed_below colours under (i + 4) xs
four_alike colours under xs old a b c d i ink y room alike is are first second third fourth =
    let there = λ (ys zs : List Ink) (k : ℕ) (now : get_or ys k black ≡ ink) (set_ : zs ≡ set ys k y).
    set_ ∙ ap (λ v. set ys k v) (is ∙ ap (fixed colours under) (sym now)) in
    let one = alike i (omega arith) (omega arith) in
    let two = kept_one old a i (i + 1) y first (omega arith) ∙ alike (i + 1) (omega arith) (omega arith) in
    let three = kept_one a b (i + 1) (i + 2) y second (omega arith) ∙ kept_one old a i (i + 2) y first (omega arith)
    ∙ alike (i + 2) (omega arith) (omega arith) in
    let four = kept_one b c (i + 2) (i + 3) y third (omega arith) ∙ kept_one a b (i + 1) (i + 3) y second (omega arith)
    ∙ kept_one old a i (i + 3) y first (omega arith) ∙ alike (i + 3) (omega arith) (omega arith) in
    four_fixed colours under xs old a b c d i room are (there old a i one first) (there a b (i + 1) two second)
    (there b c (i + 2) three third) (there c d (i + 3) four fourth)

-- pixels that are kept are still the same
pub alike_kept : (old new : List Ink) (from later end to : ℕ) (ink : Ink) → AreAlikeIn old from to ink → from ≤ later
    → end ≤ to → ((k : ℕ) → later ≤ k → get_or new k black ≡ get_or old k black) → AreAlikeIn new later end ink
alike_kept old new from later end to ink alike first last kept = λ i le lt.
    kept i le ∙ alike i (omega (arith, first, le)) (omega (arith, last, lt))

-- ---- over a ground

-- laying a ground under the inks, and then fixing them
pub over_first : (colours : List Parts) (under : Ground) (inks : List Ink)
    → map (fixed colours under) inks ≡ map (λ ink. Fixed (shown_in colours ink)) (map (ink_over under) inks)
over_first colours under [] = refl
over_first colours under (ink ∷ inks) =
    ap (λ (l : List Ink). fixed colours under ink ∷ l) (over_first colours under inks)

-- if an ink over a ground is of the first n registers, the ink is, too
pub below_over : (n : ℕ) (under : Ground) (ink : Ink) → IsInkBelow n (ink_over under ink) → IsInkBelow n ink
below_over n Kept ink below = below
below_over n (Filled r) (Fixed c) below = tt
below_over n (Filled r) (Bound q) below = below

-- ---- the end

-- all have their colours
pub all_fixed : (colours : List Parts) (under : Ground) (xs ys : List Ink) (i : ℕ) → i ≡ length xs
    → ys ≡ fixed_below colours under i xs → ys ≡ map (fixed colours under) xs
all_fixed colours under xs ys i end are =
    are
    ∙ ap (λ n. fixed_below colours under n xs) end
    ∙ ap (λ (l : List Ink). map (fixed colours under) (take (length xs) xs) ++ l) (drop-length xs)
    ∙ append-nil (map (fixed colours under) (take (length xs) xs))
    ∙ ap (map (fixed colours under)) (take-length xs)
