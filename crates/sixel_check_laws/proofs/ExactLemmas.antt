-- In a document the coordinates of a finding are exact: none is large enough to be capped.
use Rattle.std.proofs.Common.{◌≡◌, ◌<◌, ◌≤◌, ◌+◌, ◌*◌, ◌==◌, lit≤, ℕ, suc, Bool, true, false, cond, Option, Some, List}
use Rattle.std.proofs.Common.{[], ◌∷◌, length, take, refl, ap, subst, ◌∙◌, arith}
use Rattle.std.specs.Prelude.{slice_get, sum_by}
use Rattle.std.specs.List.{AllByRecursion, fold, list_any}
use Rattle.std.specs.Option.{option_map_or}
use Rattle.std.proofs.lemmas.List.{length-take}
use Rattle.std.proofs.lemmas.List.Sums.{count_by-le-length}
use Rattle.sixel_grammar.specs.declared.command.Command.TheVariants.{Sixel, Repeat}
use Rattle.sixel_grammar.specs.declared.command.Event.{Event}
use Rattle.sixel_grammar.specs.declared.command.Event.TheVariants.{Step}
use Rattle.sixel_grammar.specs.declared.command.Placed.{Placed}
use Rattle.sixel_grammar.specs.Document.{Document, IsPiece, Piece, bytes_of, events_in, events_of, most_bytes}
use Rattle.sixel_grammar.specs.Document.{placed_from}
use Rattle.sixel_grammar.specs.Spelling.{Spells}
use Rattle.sixel_model.specs.Events.{columns_of, is_next_line, is_return}
use Rattle.sixel_model.specs.Geometry.{band, column, falls}
use Rattle.sixel_model.specs.Positions.{HoldsAtPosition, since}
use Rattle.sixel_model.specs.Rules.{FallsOutside, raster_before}
use Rattle.sixel_model.proofs.KnownLemmas.{each_before, each_there}
use Rattle.sixel_model.specs.declared.rule.Rule.{Rule}
use Rattle.sixel_model.specs.declared.rule.Rule.TheVariants.{Outside}
use Rattle.sixel_check_laws.specs.Differences.{CoordinatesAreExact}
use Rattle.sixel_judge.specs.Verdicts.{IsPixel, capped, greatest}
use Rattle.sixel_judge.proofs.DecideLemmas.{falls_left}
use Rattle.sixel_judge.proofs.DifferenceLemmas.{and_some}
use Rattle.sixel_survey.proofs.SurveyorLemmas.{few_events}

-- ---- an event of a document has at most 65,535 columns

cond_small : (b : Bool) (n : ℕ) → n ≤ 65535 → cond b 0 n ≤ 65535
cond_small true n h = omega arith
cond_small false n h = h

narrow : (e : Event) (text : List ℕ) → Spells e text → columns_of 0 e ≤ 65535
narrow (Step (Sixel bits)) text h = lit≤ tt
narrow (Step (Repeat count bits)) text h = cond_small (count == 0) count (h.1).small
narrow _ text h = omega arith

pieces_narrow : (ps : List Piece) → AllByRecursion IsPiece ps
    → AllByRecursion (λ e. columns_of 0 e ≤ 65535) (events_in ps)
pieces_narrow [] h = tt
pieces_narrow (p ∷ ps) h = (narrow p.event p.text h.0.spells, pieces_narrow ps h.1)

events_placed : (n : ℕ) (ps : List Piece) → events_of (placed_from n ps) ≡ events_in ps
events_placed n [] = refl
events_placed n (p ∷ ps) = ap (λ (es : List Event). p.event ∷ es) (events_placed (n + length (bytes_of p)) ps)

-- ---- columns and bands of such a list

since_each : {X : Type 0} (P : X → Type 0) (p : X → Bool) (xs : List X) → AllByRecursion P xs
    → AllByRecursion P (since p xs)
unfolding since
since_each P p [] h = tt
since_each P p (x ∷ xs) h = split (list_any p xs) (p x) (since_each P p xs h.1)
  where
    split : (a b : Bool) → AllByRecursion P (since p xs) → AllByRecursion P (cond a (since p xs) (cond b xs (x ∷ xs)))
    split true b rest = rest
    split false true rest = h.1
    split false false rest = h

since_short : {X : Type 0} (p : X → Bool) (xs : List X) → length (since p xs) ≤ length xs
unfolding since
since_short p [] = omega arith
since_short p (x ∷ xs) = split (list_any p xs) (p x) (since_short p xs)
  where
    split : (a b : Bool) → length (since p xs) ≤ length xs
        → length (cond a (since p xs) (cond b xs (x ∷ xs))) ≤ suc (length xs)
    split true b rest = omega (arith, rest)
    split false true rest = omega arith
    split false false rest = omega arith

fold_bound : {X : Type 0} (f : X → ℕ) (m n : ℕ) (xs : List X) → AllByRecursion (λ x. f x ≤ m) xs
    → fold (λ a x. a + f x) n xs ≤ n + length xs * m
fold_bound f m n [] h = omega arith
fold_bound f m n (x ∷ xs) h = let rest = fold_bound f m (n + f x) xs h.1 in grind (arith, rest, h.0)

sum_bound : {X : Type 0} (f : X → ℕ) (m : ℕ) (xs : List X) → AllByRecursion (λ x. f x ≤ m) xs
    → sum_by f xs ≤ length xs * m
sum_bound f m xs h = let whole = fold_bound f m 0 xs h in omega (arith, whole)

column_bound : (before : List Event) → AllByRecursion (λ e. columns_of 0 e ≤ 65535) before
    → column 0 before ≤ length before * 65535
unfolding column
column_bound before h =
    let sum = sum_bound (columns_of 0) 65535 (since is_return before) (since_each _ is_return before h) in
    let short = since_short is_return before in
    grind (arith, sum, short)

band_bound : (before : List Event) → band before ≤ length before
unfolding band
band_bound before = count_by-le-length is_next_line before

-- ---- the coordinates

prefix_short : {X : Type 0} (i : ℕ) (xs : List X) → length (take i xs) ≤ length xs
prefix_short i xs = let count = length-take i xs in omega (arith, count)

document_narrow : (placed : List Placed) (bytes : List ℕ) (d : Document placed bytes)
    → AllByRecursion (λ e. columns_of 0 e ≤ 65535) (events_of placed)
document_narrow placed bytes d =
    let same : events_of placed ≡ events_in d.pieces = ap events_of d.events_are ∙ events_placed 0 d.pieces in
    rw same (pieces_narrow d.pieces d.parses.each)

-- a point that an event of a document paints has coordinates far below the cap
near : (events : List Event) (i : ℕ) (e : Event) (x y : ℕ) → AllByRecursion (λ e. columns_of 0 e ≤ 65535) events
    → length events ≤ most_bytes → slice_get events i ≡ Some e → falls (take i events) e x y ≡ true
    → (x < greatest) × (y < greatest)
near events i e x y each few here fell =
    let left = falls_left (take i events) e x y fell in
    let columns = column_bound (take i events) (each_before (λ e. columns_of 0 e ≤ 65535) i events each) in
    let own : columns_of 0 e ≤ 65535 = each_there (λ e. columns_of 0 e ≤ 65535) i events e each here in
    let bands = band_bound (take i events) in
    let short = prefix_short i events in
    (omega (arith, left.0, columns, own, short, few), omega (arith, left.1, bands, short, few))

not_above : (n m : ℕ) → n ≡ capped m → m < greatest → n < greatest
not_above n m is lt = omega (arith, is, lt)

pixel_near : (events : List Event) (i x y : ℕ) → AllByRecursion (λ e. columns_of 0 e ≤ 65535) events
    → length events ≤ most_bytes → HoldsAtPosition (IsPixel Outside (Some (x, y))) events i
    → (x < greatest) × (y < greatest)
pixel_near events i x y each few at =
    let a = and_some (raster_before (take i events)) _ (at.holds.2).holds in
    let out : FallsOutside (take i events) at.item a.0 at.holds.0 at.holds.1 = a.2 in
    let close = near events i at.item at.holds.0 at.holds.1 each few at.here out.painted in
    let point : Some (x, y) ≡ Some (capped at.holds.0, capped at.holds.1) = at.holds.3 in (
      not_above x at.holds.0 (ap (λ (o : Option (ℕ × ℕ)). option_map_or (λ p. p.0) o 0) point) close.0,
      not_above y at.holds.1 (ap (λ (o : Option (ℕ × ℕ)). option_map_or (λ p. p.1) o 0) point) close.1,
    )

pub coordinates_are_exact : (registers : ℕ) → CoordinatesAreExact registers
coordinates_are_exact registers bytes placed f i x y d found is pixel =
    let at : HoldsAtPosition (IsPixel Outside f.pixel) (events_of placed) i =
    subst (λ (r : Rule). HoldsAtPosition (IsPixel r f.pixel) (events_of placed) i) is found.pixel in
    pixel_near (events_of placed) i x y (document_narrow placed bytes d) (few_events d) (rw pixel at at)
