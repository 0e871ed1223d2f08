-- In a document, the spaces with nothing but filler behind them are those behind the terminator.
use Rattle.std.proofs.Common.{◌≡◌, ◌∙◌, ◌==◌, ◌+◌, ◌-◌, ◌<◌, ◌≤◌, ◌++◌, ℕ, Bool, true, false, List, [], ◌∷◌, Option}
use Rattle.std.proofs.Common.{Some, None, ap, append_assoc, arith, inl, inr, length, refl, subst, sym}
use Rattle.std.specs.Prelude.{◌↔◌, IsTrue, slice_get, slice_index}
use Rattle.std.specs.List.{AllByRecursion, list_all}
use Rattle.std.specs.Option.{option_map_or}
use Rattle.std.proofs.lemmas.Bool.{and_parts, cases_lt, eqb-true}
use Rattle.std.proofs.lemmas.List.{append-nil, length-append}
use Rattle.sixel_grammar.specs.Bytes.{is_filler, terminator}
use Rattle.sixel_grammar.specs.Document.{AreFiller, IsPiece, Piece, bytes_of, joined, placed_from}
use Rattle.sixel_grammar.specs.declared.command.Event.{Event}
use Rattle.sixel_grammar.specs.declared.command.Event.TheVariants.{Finish}
use Rattle.sixel_grammar.specs.declared.command.Placed.{Placed}
use Rattle.sixel_grammar.specs.Spelling.{Spells}
use Rattle.sixel_omissions.specs.Omissions.{is_at}
use Rattle.sixel_omissions.proofs.BareLemmas.{get_right}
use Rattle.sixel_emulator_check.specs.Trailer.{is_space_after}
use Rattle.sixel_emulator_check.proofs.TrailerLemmas.{all_rest, and_false, is_rest, rest_not, space_left, space_right}
use Rattle.sixel_emulator_check_laws.specs.Trailer.{SpacesAreBehindTheTerminator}

-- ---- bytes, the last byte of a terminator, and filler

filler_all : (bytes : List ℕ) → AreFiller bytes → list_all is_filler bytes ≡ true
filler_all [] are = refl
filler_all (b ∷ bytes) are = rw are.0 (filler_all bytes are.1)

is_there : (o : Option ℕ) → option_map_or (λ (b : ℕ). b == 32) o false ≡ true → o ≡ Some 32
is_there None is = cc
is_there (Some b) is = ap (λ (n : ℕ). Some n) (eqb-true b 32 is)

-- the last one
last_index : (xs : List ℕ) (b : ℕ) → slice_index (xs ++ b ∷ []) (length xs) ≡ b
last_index [] b = refl
last_index (x ∷ xs) b = last_index xs b

-- no space up to it counts
none_to_last : (xs after : List ℕ) (b i : ℕ) → is_filler b ≡ false → i < length (xs ++ b ∷ [])
    → is_space_after ((xs ++ b ∷ []) ++ after) i ≡ false
none_to_last xs after b i other lt =
    let long = length-append xs (b ∷ []) in
    let last : is_filler (slice_index (xs ++ b ∷ []) (length xs)) ≡ false = rw (last_index xs b) other in
    let rest = rest_not (xs ++ b ∷ []) (length xs) i (omega (arith, long)) last (omega (arith, long, lt)) in
    space_left (xs ++ b ∷ []) after i lt
    ∙ rw (rest, and_false (is_at (λ c. c == 32) (xs ++ b ∷ []) i)) refl

-- one that counts is behind it
space_behind : (first after : List ℕ) (i : ℕ)
    → ((k : ℕ) → k < length first → is_space_after (first ++ after) k ≡ false)
    → is_space_after (first ++ after) i ≡ true → (length first ≤ i) × (slice_get (first ++ after) i ≡ Some 32)
space_behind first after i none is = elim (cases_lt i (length first)) [
  | inl lt ↦ (let no : is_space_after (first ++ after) i ≡ false = none i lt in cc)
  | inr le ↦
      let at : length first + (i - length first) ≡ i = omega (arith, le) in
      let here : is_space_after after (i - length first) ≡ true =
      sym (space_right first after (i - length first))
      ∙ subst (λ (k : ℕ). is_space_after (first ++ after) k ≡ true) (sym at) is in
      let space = and_parts (is_at (λ c. c == 32) after (i - length first)) (is_rest after (i - length first)) here in (
        le,
        subst (λ (k : ℕ). slice_get (first ++ after) k ≡ Some 32) at
            (get_right first after (i - length first) ∙ is_there (slice_get after (i - length first)) space.0),
      )
]

-- each space behind it counts
behind_counts : (first after : List ℕ) (i : ℕ) → AreFiller after → length first ≤ i
    → slice_get (first ++ after) i ≡ Some 32 → is_space_after (first ++ after) i ≡ true
behind_counts first after i are le is =
    let at : length first + (i - length first) ≡ i = omega (arith, le) in
    let here : slice_get after (i - length first) ≡ Some 32 =
    sym (get_right first after (i - length first))
    ∙ subst (λ (k : ℕ). slice_get (first ++ after) k ≡ Some 32) (sym at) is in
    subst (λ (k : ℕ). is_space_after (first ++ after) k ≡ true) at
    (space_right first after (i - length first)
    ∙ rw (here, all_rest after (i - length first) (filler_all after are)) refl)

behind_last : (xs after : List ℕ) (b i : ℕ) → is_filler b ≡ false → AreFiller after
    → (is_space_after ((xs ++ b ∷ []) ++ after) i ≡ true)
    ↔ ((length (xs ++ b ∷ []) ≤ i) × (slice_get ((xs ++ b ∷ []) ++ after) i ≡ Some 32))
behind_last xs after b i other are = (
  space_behind (xs ++ b ∷ []) after i (λ k lt. none_to_last xs after b k other lt),
  λ h. behind_counts (xs ++ b ∷ []) after i are h.0 h.1,
)

-- ---- the pieces of a document

-- they end with a terminator, which begins at this offset
record EndsWith (n : ℕ) (bytes : List ℕ) (place : ℕ) (eight : Bool) : Type 0 where
  front : List ℕ
  bytes_are : bytes ≡ front ++ terminator eight
  place_is : n + length front ≡ place

make : ℕ → Event → Placed
make place event = record { place = place; event = event }

last_piece : (n : ℕ) (p : Piece) (place : ℕ) (eight : Bool) → IsPiece p
    → make (n + length p.filler) p.event ≡ make place (Finish eight) → EndsWith n (bytes_of p ++ []) place eight
unfolding make
last_piece n p place eight is same =
    let event : p.event ≡ Finish eight = ap (λ (q : Placed). q.event) same in
    let spells : p.text ≡ terminator eight = subst (λ (e : Event). Spells e p.text) event is.spells in
    record {
      front = p.filler;
      bytes_are = append-nil (bytes_of p) ∙ ap (λ (t : List ℕ). p.filler ++ t) spells;
      place_is = ap (λ (q : Placed). q.place) same;
    }

ends_with : (n : ℕ) (ps : List Piece) (before : List Placed) (place : ℕ) (eight : Bool) → AllByRecursion IsPiece ps
    → placed_from n ps ≡ before ++ make place (Finish eight) ∷ [] → EndsWith n (joined ps) place eight
unfolding make
ends_with n [] [] place eight each same = cc
ends_with n [] (q ∷ before) place eight each same = cc
ends_with n (p ∷ []) [] place eight each same = last_piece n p place eight each.0 cc
ends_with n (p ∷ r ∷ ps) [] place eight each same = cc
ends_with n (p ∷ ps) (q ∷ before) place eight each same =
    let rest : placed_from (n + length (bytes_of p)) ps ≡ before ++ make place (Finish eight) ∷ [] = cc in
    let e = ends_with (n + length (bytes_of p)) ps before place eight each.1 rest in
    let long = length-append (bytes_of p) e.front in
    record {
      front = bytes_of p ++ e.front;
      bytes_are = ap (λ (t : List ℕ). bytes_of p ++ t) e.bytes_are
          ∙ sym (append_assoc (bytes_of p) e.front (terminator eight));
      place_is = omega (arith, long, e.place_is);
    }

-- ---- the law

of_terminator : (front after : List ℕ) (eight : Bool) (i : ℕ) → AreFiller after
    → (is_space_after ((front ++ terminator eight) ++ after) i ≡ true)
    ↔ ((length front + length (terminator eight) ≤ i)
    × (slice_get ((front ++ terminator eight) ++ after) i ≡ Some 32))
of_terminator front after true i are =
    let long : length (front ++ 156 ∷ []) ≡ length front + 1 = length-append front (156 ∷ []) in
    subst (λ (n : ℕ). (is_space_after ((front ++ 156 ∷ []) ++ after) i ≡ true)
    ↔ ((n ≤ i) × (slice_get ((front ++ 156 ∷ []) ++ after) i ≡ Some 32))) long
    (behind_last front after 156 i refl are)
of_terminator front after false i are =
    let parts : (front ++ 27 ∷ []) ++ 92 ∷ [] ≡ front ++ 27 ∷ 92 ∷ [] = append_assoc front (27 ∷ []) (92 ∷ []) in
    let long : length ((front ++ 27 ∷ []) ++ 92 ∷ []) ≡ length front + 2 =
    ap (λ (l : List ℕ). length l) parts ∙ length-append front (27 ∷ 92 ∷ []) in
    subst (λ (l : List ℕ). (is_space_after (l ++ after) i ≡ true)
    ↔ ((length front + 2 ≤ i) × (slice_get (l ++ after) i ≡ Some 32))) parts
    (subst (λ (n : ℕ). (is_space_after (((front ++ 27 ∷ []) ++ 92 ∷ []) ++ after) i ≡ true)
    ↔ ((n ≤ i) × (slice_get (((front ++ 27 ∷ []) ++ 92 ∷ []) ++ after) i ≡ Some 32))) long
    (behind_last (front ++ 27 ∷ []) after 92 i refl are))

pub spaces_are_behind : SpacesAreBehindTheTerminator
unfolding make
spaces_are_behind bytes before place eight document i =
    let p = document.parses in
    let e = ends_with 0 document.pieces before place eight p.each (sym document.events_are) in
    let is : bytes ≡ (e.front ++ terminator eight) ++ p.after =
    p.bytes_are ∙ ap (λ (l : List ℕ). l ++ p.after) e.bytes_are in
    let from : length e.front ≡ place = omega (arith, e.place_is) in
    subst (λ (l : List ℕ). (is_space_after l i ≡ true)
    ↔ ((place + length (terminator eight) ≤ i) × (slice_get l i ≡ Some 32))) (sym is)
    (subst (λ (n : ℕ). (is_space_after ((e.front ++ terminator eight) ++ p.after) i ≡ true)
    ↔ ((n + length (terminator eight) ≤ i)
    × (slice_get ((e.front ++ terminator eight) ++ p.after) i ≡ Some 32))) from
    (of_terminator e.front p.after eight i p.after_is))
