-- A list has at most one verdict.
use Rattle.std.proofs.Common.{◌≡◌, ◌==◌, ◌<◌, ◌⊎◌, ℕ, nat_lt, inl, inr, Option, Some, List, take, sym, ap, subst}
use Rattle.std.proofs.Common.{◌∙◌, arith}
use Rattle.std.specs.Prelude.{IsSomeAnd, IsTrue, slice_get}
use Rattle.std.proofs.lemmas.Bool.{and_from, eq-eqb, lt-ltb, or_left, or_right}
use Rattle.sixel_grammar.specs.declared.command.Event.{Event}
use Rattle.sixel_grammar.specs.declared.command.Placed.{Placed}
use Rattle.sixel_grammar.specs.Document.{events_of}
use Rattle.sixel_model.specs.Positions.{HoldsAtPosition}
use Rattle.sixel_model.specs.Rules.{FallsOutside, IsFirstPoint, StaysBlank, is_before, number_of, raster_before}
use Rattle.sixel_model.proofs.RuleLemmas.{nowhere, same_rule}
use Rattle.sixel_model.specs.declared.rule.Rule.{Rule}
use Rattle.sixel_model.specs.declared.rule.Rule.TheVariants.{Outside, Uncovered}
use Rattle.sixel_judge.specs.declared.verdict.Finding.{Finding}
use Rattle.sixel_judge.specs.declared.verdict.Verdict.{Verdict}
use Rattle.sixel_judge.specs.declared.verdict.Verdict.TheVariants.{Portable, Broken}
use Rattle.sixel_judge.specs.Verdicts.{IsFinding, IsFirstPixel, IsPixel, IsVerdict, capped}
use Rattle.sixel_judge.proofs.OptionLemmas.{same_value}

-- ---- one pixel

-- from rows and columns: earlier in row order
comes_before : (u v x y : ℕ) → (v < y) ⊎ ((v ≡ y) × (u < x)) → IsTrue (is_before u v x y)
comes_before u v x y (inl above) = or_left (nat_lt v y) _ (lt-ltb v y above)
comes_before u v x y (inr beside) =
    or_right (nat_lt v y) _ (and_from (v == y) (nat_lt u x) (eq-eqb v y beside.0) (lt-ltb u x beside.1))

first_once : (P : ℕ → ℕ → Type 0) {x y u v : ℕ} → IsFirstPoint P x y → IsFirstPoint P u v → (x ≡ u) × (y ≡ v)
first_once P {x} {y} {u} {v} f g =
    let not_above : ¬ (v < y) = λ lt. f.none_before u v (comes_before u v x y (inl lt)) g.holds in
    let not_below : ¬ (y < v) = λ lt. g.none_before x y (comes_before x y u v (inl lt)) f.holds in
    let row : y ≡ v = omega (arith, not_above, not_below) in
    let not_left : ¬ (u < x) = λ lt. f.none_before u v (comes_before u v x y (inr (sym row, lt))) g.holds in
    let not_right : ¬ (x < u) = λ lt. g.none_before x y (comes_before x y u v (inr (row, lt))) f.holds in
    (omega (arith, not_left, not_right), row)

first_pixel_once : (P : ℕ → ℕ → Type 0) (p q : Option (ℕ × ℕ)) → IsFirstPixel P p → IsFirstPixel P q → p ≡ q
first_pixel_once P p q f g =
    let same = first_once P f.2 g.2 in
    f.3 ∙ ap (λ (x : ℕ). Some (capped x, capped f.1)) same.0
    ∙ ap (λ (y : ℕ). Some (capped g.0, capped y)) same.1 ∙ sym g.3

pixel_once : (r : Rule) (p q : Option (ℕ × ℕ)) (before : List Event) (e : Event) → IsPixel r p before e
    → IsPixel r q before e → p ≡ q
pixel_once Outside p q before e f g =
    first_pixel_once (λ x y. IsSomeAnd (raster_before before) (λ a. FallsOutside before e a x y)) p q f g
pixel_once Uncovered p q before e f g =
    first_pixel_once (λ x y. IsSomeAnd (raster_before before) (λ a. StaysBlank before a x y)) p q f g
pixel_once _ p q before e f g = f ∙ sym g

-- ---- one finding

-- two findings of the same rule at the same event have the same pixel
pub pixel_at : (r : Rule) (p q : Option (ℕ × ℕ)) (events : List Event) (i : ℕ) → HoldsAtPosition (IsPixel r p) events i
    → HoldsAtPosition (IsPixel r q) events i → p ≡ q
pixel_at r p q events i f g =
    let same : f.item ≡ g.item = same_value (slice_get events i) f.item g.item f.here g.here in
    pixel_once r p q (take i events) g.item (subst (IsPixel r p (take i events)) same f.holds) g.holds

make : Rule → ℕ → Option (ℕ × ℕ) → Finding
make r place pixel = record { rule = r; place = place; pixel = pixel }

found_once : {registers : ℕ} {placed : List Placed} {f g : Finding} {i : ℕ} → IsFinding registers placed f i
    → IsFinding registers placed g i → f ≡ g
unfolding make
found_once {placed} {f} {g} {i} a b =
    let n : ℕ = number_of f.rule in let m : ℕ = number_of g.rule in
    let not_less : ¬ (n < m) = λ lt. b.first.none_smaller f.rule lt a.first.broken in
    let not_more : ¬ (m < n) = λ lt. a.first.none_smaller g.rule lt b.first.broken in
    let rule : f.rule ≡ g.rule = same_rule f.rule g.rule (omega (arith, not_less, not_more)) in
    let place : f.place ≡ g.place = same_value _ f.place g.place a.place b.place in
    let pixel : f.pixel ≡ g.pixel =
    pixel_at g.rule f.pixel g.pixel (events_of placed) i
    (subst (λ (r : Rule). HoldsAtPosition (IsPixel r f.pixel) (events_of placed) i) rule a.pixel) b.pixel in
    let whole : make f.rule f.place f.pixel ≡ make g.rule g.place g.pixel = cc (rule, place, pixel) in
    whole

finding_once : {registers : ℕ} {placed : List Placed} {f g : Finding} {i j : ℕ} → IsFinding registers placed f i
    → IsFinding registers placed g j → f ≡ g
finding_once {registers} {placed} {f} {g} {i} {j} a b =
    let not_less : ¬ (i < j) = λ lt. b.first.none_earlier f.rule i lt a.first.broken in
    let not_more : ¬ (j < i) = λ lt. a.first.none_earlier g.rule j lt b.first.broken in
    let same : i ≡ j = omega (arith, not_less, not_more) in
    found_once (subst (IsFinding registers placed f) same a) b

-- ---- one verdict

pub verdict_once : (registers : ℕ) (placed : List Placed) (v w : Verdict) → IsVerdict registers placed v
    → IsVerdict registers placed w → v ≡ w
verdict_once registers placed (Portable p) (Portable q) a b = ap (λ r. Portable r) (a.1 ∙ sym b.1)
verdict_once registers placed (Portable p) (Broken g) a b =
    absurd (nowhere registers g.rule b.0 (events_of placed) a.0 (b.1).first.broken)
verdict_once registers placed (Broken f) (Portable q) a b =
    absurd (nowhere registers f.rule a.0 (events_of placed) b.0 (a.1).first.broken)
verdict_once registers placed (Broken f) (Broken g) a b = ap (λ h. Broken h) (finding_once a.1 b.1)
