-- Bytes behind the text of a line.
use Rattle.std.proofs.Common.{◌≡◌, ℕ, ◌+◌, ◌≤◌, Bool, true, List, [], ◌∷◌, ◌++◌, drop, length, replicate, take, sym, ap}
use Rattle.std.proofs.Common.{◌∙◌, arith}
use Rattle.std.specs.Prelude.{decimal, nat_le, if◌then◌else◌}
use Rattle.std.proofs.lemmas.Bool.{le-leb}
use Rattle.std.proofs.Math.Seq.{take-add, take-append-add}
use Rattle.std.proofs.lemmas.List.{length-take-le, take-append-drop, take-append-le, take-take}
use Rattle.std.proofs.lemmas.Simd.{length-chunk, put_chunk_is}
use lib.Lanes.{chunk, put_chunk}
use Rattle.sixel_grammar.specs.declared.command.Command.TheVariants.{Repeat, Sixel}
use Rattle.sixel_encode.specs.Canon.{commands_text}
use Rattle.sixel_encode.proofs.TextLemmas.{run_text, text-one}

-- the first bytes of a group
pub put_few : (at count : ℕ) (text bytes : List ℕ) → count ≤ 32 → 32 ≤ length bytes → at + 32 ≤ length text
    → take (at + count) (put_chunk at text (chunk 0 32 bytes)) ≡ take at text ++ take count bytes
put_few at count text bytes few whole room =
    let lanes = chunk 0 32 bytes in
    let long : length lanes ≡ 32 = length-chunk 0 32 bytes (omega arith) in
    let first : length (take at text) ≡ at = length-take-le at text (omega arith) in
    let rest = lanes ++ drop (length lanes) (drop at text) in
    ap (take (at + count)) (put_chunk_is at text lanes (omega arith))
    ∙ ap (λ (n : ℕ). take (n + count) (take at text ++ rest)) (sym first)
    ∙ take-append-add (take at text) rest count
    ∙ ap (λ (t : List ℕ). take at text ++ t)
    (take-append-le count lanes (drop (length lanes) (drop at text)) (omega arith) ∙ take-take count 32 bytes few)

-- the first of four bytes
pub first_of_four : (end count : ℕ) (old new bytes : List ℕ) → end ≤ length old → count ≤ 4
    → take (end + 4) new ≡ take end old ++ bytes → take (end + count) new ≡ take end old ++ take count bytes
first_of_four end count old new bytes room few is =
    let first : length (take end old) ≡ end = length-take-le end old room in
    sym (take-take (end + count) (end + 4) new (omega arith))
    ∙ ap (take (end + count)) is
    ∙ ap (λ (n : ℕ). take (n + count) (take end old ++ bytes)) (sym first)
    ∙ take-append-add (take end old) bytes count

-- the text of a repeat, by the digits of its count
pub run_spelled : (count bits : ℕ) (digits : List ℕ) → 4 ≤ count → decimal count ≡ digits
    → run_text count bits ≡ 33 ∷ digits ++ (63 + bits) ∷ []
run_spelled count bits digits enough is =
    let long : nat_le 4 count ≡ true = le-leb 4 count enough in
    ap (λ (t : Bool). commands_text (if t then Repeat count bits ∷ [] else replicate count (Sixel bits))) long
    ∙ text-one (Repeat count bits)
    ∙ ap (λ (ds : List ℕ). 33 ∷ ds ++ (63 + bits) ∷ []) is

-- ---- the parts of a text, one after another

-- the text up to the end of a part
pub part_next : (from to n : ℕ) (xs : List ℕ) → from + n ≡ to → take to xs ≡ take from xs ++ take n (drop from xs)
part_next from to n xs sum = ap (λ (m : ℕ). take m xs) (sym sum) ∙ take-add from n xs

-- the whole text
pub part_cut : (from to n : ℕ) (xs : List ℕ) → from + n ≡ to
    → xs ≡ (take from xs ++ take n (drop from xs)) ++ drop to xs
part_cut from to n xs sum =
    sym (take-append-drop to xs) ∙ ap (λ (t : List ℕ). t ++ drop to xs) (part_next from to n xs sum)
