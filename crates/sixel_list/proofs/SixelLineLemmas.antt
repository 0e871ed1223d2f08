-- The line of a sixel, from the digits of its offset.
use Rattle.std.proofs.Common.{◌≡◌, ◌∙◌, ℕ, ◌+◌, ◌-◌, ◌*◌, ◌/◌, ◌%◌, ◌^◌, ◌<◌, ◌≤◌, List, [], ◌∷◌, ◌++◌, ap}
use Rattle.std.proofs.Common.{append_assoc, arith, drop, ap₂, inl, inr, length, refl, set, subst, suc, sym, take}
use Rattle.std.proofs.Math.ListN.{length-set}
use Rattle.std.proofs.Math.Seq.{take-suc-set}
use Rattle.std.specs.Prelude.{codes, decimal}
use Rattle.std.proofs.lemmas.Bool.{cases_lt}
use Rattle.std.proofs.lemmas.Fmt.{decimal_digit}
use Rattle.std.proofs.lemmas.List.{append-nil, drop-take, drop_at, length-take-le, take-take, take_at}
use Rattle.itoa.proofs.Decimal.{decimal_pair, decimal_two}
use Rattle.sixel_grammar.specs.declared.command.Command.TheVariants.{Sixel}
use Rattle.sixel_grammar.specs.declared.command.Event.TheVariants.{Step}
use Rattle.sixel_list.specs.SixelTexts.{HasTail, tail_of, two_digits}
use Rattle.sixel_report.specs.Texts.{command_parts, event_line, line, numbers, spaced}

-- digits that end at `end`, with more after them
pub digits_before : (start end : ℕ) (digits text rest : List ℕ) → start + length digits ≡ end
    → drop start text ≡ digits ++ rest → drop start (take end text) ≡ digits
digits_before start end digits text rest ends e =
    subst (λ n. drop start (take n text) ≡ digits) ends
    (drop-take start (length digits) text ∙ ap (take (length digits)) e ∙ take_at digits rest (length digits) refl)

-- the hundreds of the offset, its last two digits, and the rest of the line of a select
pub select-joined : (place register tens ones : ℕ) → 100 ≤ place → place < 2 ^ 64
    → tens ∷ ones ∷ [] ≡ two_digits (place % 100)
    → ((decimal (place / 100) ++ (tens ∷ ones ∷ 32 ∷ 115 ∷ 101 ∷ 108 ∷ 101 ∷ 99 ∷ 116 ∷ 32 ∷ []))
    ++ decimal register) ++ 10 ∷ []
    ≡ line (decimal place) (codes "select" ∷ numbers (register ∷ []))
select-joined place register tens ones long fits last =
    rw (decimal_pair place long fits, ← last, append-nil (decimal register)) (simp append_assoc)

repeat_parts : (count bits : ℕ) → spaced (codes "repeat" ∷ numbers (count ∷ bits ∷ [])) ++ 10 ∷ []
    ≡ 32 ∷ 114 ∷ 101 ∷ 112 ∷ 101 ∷ 97 ∷ 116 ∷ 32 ∷ (decimal count ++ 32 ∷ (decimal bits ++ 10 ∷ []))
repeat_parts count bits =
    ap (λ (t : List ℕ). 32 ∷ 114 ∷ 101 ∷ 112 ∷ 101 ∷ 97 ∷ 116 ∷ 32 ∷ ((decimal count ++ 32 ∷ t) ++ 10 ∷ []))
    (append-nil (decimal bits))
    ∙ ap (λ (t : List ℕ). 32 ∷ 114 ∷ 101 ∷ 112 ∷ 101 ∷ 97 ∷ 116 ∷ 32 ∷ t)
    (append_assoc (decimal count) (32 ∷ decimal bits) (10 ∷ []))

-- the same for a repeat
pub repeat-joined : (place count bits tens ones : ℕ) → 100 ≤ place → place < 2 ^ 64
    → tens ∷ ones ∷ [] ≡ two_digits (place % 100)
    → ((((decimal (place / 100) ++ (tens ∷ ones ∷ 32 ∷ 114 ∷ 101 ∷ 112 ∷ 101 ∷ 97 ∷ 116 ∷ 32 ∷ []))
    ++ decimal count) ++ 32 ∷ []) ++ decimal bits) ++ 10 ∷ []
    ≡ line (decimal place) (codes "repeat" ∷ numbers (count ∷ bits ∷ []))
repeat-joined place count bits tens ones long fits last =
    let hundreds = decimal (place / 100) in
    let rest : List ℕ = decimal count ++ 32 ∷ (decimal bits ++ 10 ∷ []) in
    let word : List ℕ = tens ∷ ones ∷ 32 ∷ 114 ∷ 101 ∷ 112 ∷ 101 ∷ 97 ∷ 116 ∷ 32 ∷ [] in
    let first : List ℕ = hundreds ++ word in
    let place_is : hundreds ++ tens ∷ ones ∷ [] ≡ decimal place =
    ap (λ (t : List ℕ). hundreds ++ t) last ∙ sym (decimal_pair place long fits) in
    append_assoc ((first ++ decimal count) ++ 32 ∷ []) (decimal bits) (10 ∷ [])
    ∙ append_assoc (first ++ decimal count) (32 ∷ []) (decimal bits ++ 10 ∷ [])
    ∙ append_assoc first (decimal count) (32 ∷ (decimal bits ++ 10 ∷ []))
    ∙ append_assoc hundreds word rest
    ∙ sym (append_assoc hundreds (tens ∷ ones ∷ []) (32 ∷ 114 ∷ 101 ∷ 112 ∷ 101 ∷ 97 ∷ 116 ∷ 32 ∷ rest))
    ∙ ap (λ (t : List ℕ). t ++ 32 ∷ 114 ∷ 101 ∷ 112 ∷ 101 ∷ 97 ∷ 116 ∷ 32 ∷ rest) place_is
    ∙ ap (λ (t : List ℕ). decimal place ++ t) (sym (repeat_parts count bits))
    ∙ sym (append_assoc (decimal place) (spaced (codes "repeat" ∷ numbers (count ∷ bits ∷ []))) (10 ∷ []))

-- a number of three digits
pub decimal_three : (n : ℕ) → 100 ≤ n → n < 1000 → decimal n ≡ (48 + n / 100) ∷ two_digits (n % 100)
decimal_three n long short = rw (decimal_pair n long (omega arith), decimal_digit (n / 100) (omega arith)) refl

-- two bytes, written one after the other
pub two-put : (at a b tens ones : ℕ) (text : List ℕ) → at + 2 ≤ length text → a ≡ tens → b ≡ ones
    → take (at + 2) (set (set text at a) (at + 1) b) ≡ take at text ++ tens ∷ ones ∷ []
two-put at a b tens ones text room upper lower =
    let one = set text at a in
    let last : at + 2 ≡ suc (at + 1) = omega arith in
    let first : at + 1 ≡ suc at = omega arith in
    ap (λ (n : ℕ). take n (set one (at + 1) b)) last
    ∙ take-suc-set one (at + 1) b (omega (arith, room, length-set {A = ℕ}))
    ∙ ap (λ (t : List ℕ). t ++ b ∷ [])
    (ap (λ (n : ℕ). take n one) first ∙ take-suc-set text at a (omega (arith, room)))
    ∙ append_assoc (take at text) (a ∷ []) (b ∷ [])
    ∙ ap₂ (λ (x y : ℕ). take at text ++ x ∷ y ∷ []) upper lower

-- ---- the line of a sixel

pub tail-one : (bits : ℕ) → bits < 10
    → tail_of bits ≡ 32 ∷ 115 ∷ 105 ∷ 120 ∷ 101 ∷ 108 ∷ 32 ∷ (48 + bits) ∷ 10 ∷ []
tail-one bits small = rw (decimal_digit bits small) refl

pub tail-two : (bits : ℕ) → 10 ≤ bits → bits < 100
    → tail_of bits ≡ 32 ∷ 115 ∷ 105 ∷ 120 ∷ 101 ∷ 108 ∷ 32 ∷ (48 + bits / 10) ∷ (48 + bits % 10) ∷ 10 ∷ []
tail-two bits large small = rw (decimal_two bits large small) refl

-- a text that begins alike has the tails before its end too
pub tail-kept : (text other : List ℕ) (bits end : ℕ) → 16 * bits + length (tail_of bits) ≤ end
    → take end other ≡ take end text → HasTail text bits → HasTail other bits
tail-kept text other bits end within same has =
    let n = 16 * bits + length (tail_of bits) in
    let begins : (k : ℕ) → k ≤ end → take k other ≡ take k text =
    λ k le. sym (take-take k end other le) ∙ ap (take k) same ∙ take-take k end text le in
    begins n within ∙ has ∙ ap (λ (t : List ℕ). t ++ tail_of bits) (sym (begins (16 * bits) (omega (arith, within))))

-- a tail that was written behind some bytes
pub before-tail : (text other tail : List ℕ) (at : ℕ) → at ≤ length text
    → take (at + length tail) other ≡ take at text ++ tail → take at other ≡ take at text
before-tail text other tail at within put =
    let long = length-take-le at text within in
    sym (take-take at (at + length tail) other (omega arith)) ∙ ap (take at) put
    ∙ ap (λ (n : ℕ). take n (take at text ++ tail)) (sym long) ∙ take_at (take at text) tail _ refl

-- the tail in a text, and what follows it
tail-taken : (text : List ℕ) (bits lanes : ℕ) → 16 * bits ≤ length text → length (tail_of bits) ≤ lanes
    → HasTail text bits → take (length (tail_of bits)) (take lanes (drop (16 * bits) text)) ≡ tail_of bits
tail-taken text bits lanes within wide has =
    let at = 16 * bits in
    let n = length (tail_of bits) in
    let long = length-take-le at text within in
    take-take n lanes (drop at text) wide ∙ sym (drop-take at n text) ∙ ap (drop at) has
    ∙ ap (λ (k : ℕ). drop k (take at text ++ tail_of bits)) (sym long) ∙ drop_at (take at text) (tail_of bits) _ refl

-- an offset's hundreds, its last two digits, and the tail
pub sixel-joined : (place bits tens ones : ℕ) (lines : List ℕ) → 100 ≤ place → place < 2 ^ 64
    → tens ∷ ones ∷ [] ≡ two_digits (place % 100)
    → ((lines ++ decimal (place / 100)) ++ (tens ∷ ones ∷ [])) ++ tail_of bits
    ≡ lines ++ event_line (record { place = place; event = Step (Sixel bits) })
sixel-joined place bits tens ones lines long fits last =
    let hundreds = decimal (place / 100) in
    let parts = spaced (command_parts (Sixel bits)) in
    ap (λ (t : List ℕ). t ++ tail_of bits)
    (append_assoc lines hundreds (tens ∷ ones ∷ [])
    ∙ ap (λ (t : List ℕ). lines ++ t)
    (ap (λ (t : List ℕ). hundreds ++ t) last ∙ sym (decimal_pair place long fits)))
    ∙ append_assoc lines (decimal place) (tail_of bits)
    ∙ ap (λ (t : List ℕ). lines ++ t) (sym (append_assoc (decimal place) parts (10 ∷ [])))

-- a tail was written behind some bytes
pub tail-put : (text other bytes : List ℕ) (bits : ℕ) → tail_of bits ≡ bytes → 16 * bits ≤ length text
    → take (16 * bits + length bytes) other ≡ take (16 * bits) text ++ bytes
    → (take (16 * bits) other ≡ take (16 * bits) text) × HasTail other bits
tail-put text other bytes bits is within put =
    let before = before-tail text other bytes (16 * bits) within put in (
      before,
      subst (λ (t : List ℕ). take (16 * bits + length t) other ≡ take (16 * bits) other ++ t) (sym is)
          (put ∙ ap (λ (t : List ℕ). t ++ bytes) (sym before)),
    )

pub tail-short : (bits : ℕ) → bits < 64 → length (tail_of bits) ≤ 10
tail-short bits few = elim (cases_lt bits 10) [
  | inl small ↦ omega (arith, ap length (tail-one bits small))
  | inr large ↦ omega (arith, ap length (tail-two bits large (omega (arith, few))))
]

-- the tail at the place `at`, written behind some bytes with the rest of its group
pub tail-there : (text new front : List ℕ) (n bits at count : ℕ) → bits < 64 → 16 * bits ≤ length text
    → HasTail text bits → count ≡ length (tail_of bits)
    → take (n + count) new ≡ front ++ take count (take (at + 32 - at) (drop at text)) → at ≡ 16 * bits
    → take (n + count) new ≡ front ++ tail_of bits
tail-there text new front n bits at count few within has long put there =
    let lanes = 16 * bits + 32 - 16 * bits in
    let wide : length (tail_of bits) ≤ lanes = omega (arith, tail-short bits few) in
    put
    ∙ ap (λ (a : ℕ). front ++ take count (take (a + 32 - a) (drop a text))) there
    ∙ ap (λ (t : List ℕ). front ++ t)
    (ap (λ (m : ℕ). take m (take lanes (drop (16 * bits) text))) long ∙ tail-taken text bits lanes within wide has)

-- one more tail was put, and those before it stayed
pub tails-more : (text other : List ℕ) (bits : ℕ) → bits < 64 → take (16 * bits) other ≡ take (16 * bits) text
    → HasTail other bits → ((k : ℕ) → k < bits → HasTail text k) → (k : ℕ) → k < bits + 1 → HasTail other k
tails-more text other bits few same has before k below = elim (cases_lt k bits) [
  | inl less ↦ tail-kept text other k (16 * bits) (omega (arith, less, tail-short k (omega (arith, less, few)))) same
      (before k less)
  | inr more ↦
      let last : bits ≡ k = omega (arith, below, more) in subst (HasTail other) last has
]

-- the digits that end at index 18, in a group from their start on
pub hundreds-taken : (text : List ℕ) (start lanes : ℕ) → start ≤ 18 → 18 ≤ lanes
    → take (18 - start) (take lanes (drop start text)) ≡ drop start (take 18 text)
hundreds-taken text start lanes le wide =
    let far : start + (18 - start) ≡ 18 = omega arith in
    take-take (18 - start) lanes (drop start text) (omega (arith, wide)) ∙ sym (drop-take start (18 - start) text)
    ∙ ap (λ (n : ℕ). drop start (take n text)) far
