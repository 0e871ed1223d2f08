-- Why nothing is compared: what a refused size says.
use Rattle.std.proofs.Common.{◌≡◌, ◌==◌, ◌<◌, ◌||◌, ℕ, Bool, true, false, List, length, nat_lt}
use Rattle.std.proofs.Common.{refl, ap, subst, ◌∙◌, arith, Err, Ok}
use Rattle.std.specs.Prelude.{◌⊎◌, Result, if◌then◌else◌}
use Rattle.std.proofs.lemmas.Bool.Decides.{nat_tests}
use Rattle.sixel_grammar.specs.declared.command.Event.{Event}
use Rattle.sixel_grammar.specs.declared.command.Placed.{Placed}
use Rattle.sixel_grammar.specs.Document.{Document, events_of}
use Rattle.sixel_grammar.proofs.UniqueLemmas.{document_once}
use Rattle.sixel_model.specs.Pictures.{PictureValue, most_side}
use Rattle.sixel_model.specs.declared.colour.Parts.TheVariants.{Rgb}
use Rattle.sixel_ppm.specs.PpmReading.{distinct, picture_of}
use Rattle.sixel_mend.specs.declared.mending.MendFault.{MendFault}
use Rattle.sixel_mend.specs.declared.mending.MendFault.TheVariants.{Empty, TooLarge, TooManyColours}
use Rattle.sixel_mend.specs.declared.mending.Mending.{Mending}
use Rattle.sixel_mend.specs.Mended.{Mends, MendsEvents, mended, mended_colours}
use Rattle.sixel_mend.proofs.SizeLemmas.{one_size}
use Rattle.sixel_differ.specs.declared.fault.DifferFault as differ
use Rattle.sixel_differ.specs.Faults.{IsFaultBySize}

-- the answer of mending, by its three tests
abbrev answer : Bool → Bool → Bool → PictureValue → Result PictureValue MendFault
answer a b c p = if a then Err Empty else if b then Err TooLarge else if c then Err TooManyColours else Ok p

by_empty : (a b c : Bool) (p : PictureValue) → Err Empty ≡ answer a b c p → a ≡ true
by_empty true b c p e = refl
by_empty false true c p e = cc
by_empty false false true p e = cc
by_empty false false false p e = cc

by_large : (a b c : Bool) (p : PictureValue) → Err TooLarge ≡ answer a b c p → (a ≡ false) × (b ≡ true)
by_large true b c p e = cc
by_large false true c p e = (refl, refl)
by_large false false true p e = cc
by_large false false false p e = cc

by_colours : (a b c : Bool) (p : PictureValue) → Err TooManyColours ≡ answer a b c p → c ≡ true
by_colours true b c p e = cc
by_colours false true c p e = cc
by_colours false false true p e = refl
by_colours false false false p e = cc

abbrev is_empty : ℕ → ℕ → Bool
is_empty w h = (w == 0) || (h == 0)

abbrev is_large : ℕ → ℕ → Bool
is_large w h = nat_lt most_side w || nat_lt most_side h

empty_side : (w h : ℕ) → is_empty w h ≡ true → (w ≡ 0) ⊎ (h ≡ 0)
empty_side w h e = grind (arith, nat_tests)

some_sides : (w h : ℕ) → is_empty w h ≡ false → (0 < w) × (0 < h)
some_sides w h e = grind (arith, nat_tests)

large_side : (w h : ℕ) → is_large w h ≡ true → (most_side < w) ⊎ (most_side < h)
large_side w h e = grind (arith, nat_tests)

is_of_empty : (registers : ℕ) (m : Mending) (events : List Event) (w h : ℕ)
    → Err Empty ≡ mended registers m events w h → is_empty w h ≡ true
unfolding mended
is_of_empty registers m events w h e =
    by_empty (is_empty w h) (is_large w h) (nat_lt registers (length (distinct (mended_colours m events w h))))
    (picture_of registers w h (mended_colours m events w h)) e

is_of_large : (registers : ℕ) (m : Mending) (events : List Event) (w h : ℕ)
    → Err TooLarge ≡ mended registers m events w h → (is_empty w h ≡ false) × (is_large w h ≡ true)
unfolding mended
is_of_large registers m events w h e =
    by_large (is_empty w h) (is_large w h) (nat_lt registers (length (distinct (mended_colours m events w h))))
    (picture_of registers w h (mended_colours m events w h)) e

is_of_colours : (registers : ℕ) (m : Mending) (events : List Event) (w h : ℕ)
    → Err TooManyColours ≡ mended registers m events w h
    → nat_lt registers (length (distinct (mended_colours m events w h))) ≡ true
unfolding mended
is_of_colours registers m events w h e =
    by_colours (is_empty w h) (is_large w h) (nat_lt registers (length (distinct (mended_colours m events w h))))
    (picture_of registers w h (mended_colours m events w h)) e

-- ---- a refused size

pub empty_by_size : (m : Mending) (bytes : List ℕ) → Mends 0 m bytes (Err Empty)
    → IsFaultBySize m bytes differ.TheVariants.Empty
empty_by_size m bytes (placed, doc, (w, h, size, e)) =
    (placed, doc, (w, h, size, empty_side w h (is_of_empty 0 m (events_of placed) w h e)))

pub large_by_size : (m : Mending) (bytes : List ℕ) → Mends 0 m bytes (Err TooLarge)
    → IsFaultBySize m bytes differ.TheVariants.TooLarge
large_by_size m bytes (placed, doc, (w, h, size, e)) =
    let tests = is_of_large 0 m (events_of placed) w h e in
    let some = some_sides w h tests.0 in
    (placed, doc, (w, h, size, (some.0, some.1, large_side w h tests.1)))

-- ---- no size has too many colours

some_mending : Mending
some_mending = record { background = Rgb 0 0 0; showing = false; selects = false }

not_below_itself : (n : ℕ) → nat_lt n n ≡ true → ⊥
not_below_itself n e = grind (arith, nat_tests)

pub not_for_any_registers : (bytes : List ℕ)
    → ((registers : ℕ) (m : Mending) → Mends registers m bytes (Err TooManyColours)) → ⊥
not_for_any_registers bytes all = not_below_itself most (is_of_colours most some_mending (events_of d) w h there)
  where
    first : (d : List Placed) × Document d bytes × MendsEvents 0 some_mending (events_of d) (Err TooManyColours)
    first = all 0 some_mending

    d : List Placed
    d = first.0

    w : ℕ
    w = first.2.0

    h : ℕ
    h = first.2.1

    most : ℕ
    most = length (distinct (mended_colours some_mending (events_of d) w h))

    second : (d : List Placed) × Document d bytes × MendsEvents most some_mending (events_of d) (Err TooManyColours)
    second = all most some_mending

    again : MendsEvents most some_mending (events_of d) (Err TooManyColours)
    again = subst (λ (placed : List Placed). MendsEvents most some_mending (events_of placed) (Err TooManyColours))
        (document_once bytes second.0 d second.1 first.1) second.2

    same : (again.0 ≡ w) × (again.1 ≡ h)
    same = one_size some_mending (events_of d) again.0 again.1 w h again.2 first.2.2

    there : Err TooManyColours ≡ mended most some_mending (events_of d) w h
    there = again.3 ∙ ap (λ (n : ℕ). mended most some_mending (events_of d) n again.1) same.0
        ∙ ap (λ (n : ℕ). mended most some_mending (events_of d) w n) same.1
