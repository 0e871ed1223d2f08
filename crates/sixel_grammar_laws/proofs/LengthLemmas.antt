-- A fixed spelling is no longer than its bound.
use Rattle.std.proofs.Common.{◌≡◌, ℕ, ◌+◌, ◌^◌, ◌<◌, ◌≤◌, Bool, true, false, List, [], ◌∷◌, ◌++◌, length, decimal, refl}
use Rattle.std.proofs.Common.{arith, lit<, lit≤, length-append, lt_of_le_of_lt}
use Rattle.std.specs.Prelude.{nat_lt, if◌then◌else◌}
use Rattle.std.proofs.lemmas.Bool.{ltb-true}
use Rattle.std.proofs.lemmas.Fmt.{length-decimal-le}
use Rattle.sixel_grammar.specs.declared.command.Command.TheVariants.{Sixel, Repeat, Raster, Select, Define}
use Rattle.sixel_grammar.specs.declared.command.Command.TheVariants.{CarriageReturn, NextLine}
use Rattle.sixel_grammar.specs.declared.command.Event.{Event}
use Rattle.sixel_grammar.specs.declared.command.Event.TheVariants.{Start, Step, Finish}
use Rattle.sixel_grammar.specs.Bytes.{introducer, terminator}
use Rattle.sixel_grammar.specs.Spelling.{AreNumbers, IsEvent, fixed_fields, fixed_spelling}
use Rattle.sixel_grammar.specs.Lengths.{digit_count, fields_length, most_length}

by_digits : (l : ℕ) (a b c d : Bool)
    → (a ≡ true → l ≤ 1) → (b ≡ true → l ≤ 2) → (c ≡ true → l ≤ 3) → (d ≡ true → l ≤ 4) → l ≤ 5
    → l ≤ (if a then 1 else if b then 2 else if c then 3 else if d then 4 else 5)
by_digits l true b c d h1 h2 h3 h4 h5 = h1 refl
by_digits l false true c d h1 h2 h3 h4 h5 = h2 refl
by_digits l false false true d h1 h2 h3 h4 h5 = h3 refl
by_digits l false false false true h1 h2 h3 h4 h5 = h4 refl
by_digits l false false false false h1 h2 h3 h4 h5 = h5

pub decimal_within : (n : ℕ) → n ≤ 65535 → length (decimal n) ≤ digit_count n
decimal_within n h =
    let small : n < 2 ^ 64 = lt_of_le_of_lt h (lit< tt) in
    by_digits (length (decimal n)) (nat_lt n 10) (nat_lt n 100) (nat_lt n 1000) (nat_lt n 10000)
    (λ t. length-decimal-le 1 n (lit< tt) (ltb-true n 10 t) small)
    (λ t. length-decimal-le 2 n (lit< tt) (ltb-true n 100 t) small)
    (λ t. length-decimal-le 3 n (lit< tt) (ltb-true n 1000 t) small)
    (λ t. length-decimal-le 4 n (lit< tt) (ltb-true n 10000 t) small)
    (length-decimal-le 5 n (lit< tt) (lt_of_le_of_lt h (lit< tt)) small)

fields_within : (ns : List ℕ) → AreNumbers ns → length (fixed_fields ns) ≤ fields_length ns
fields_within [] h = omega arith
fields_within (n ∷ []) h = decimal_within n h.0
fields_within (n ∷ m ∷ ns) h =
    omega (
      arith,
      decimal_within n h.0,
      fields_within (m ∷ ns) h.1,
      length-append (decimal n)
          (59 ∷ fixed_fields (m ∷ ns)),
    )

introducer_within : (eight : Bool) → length (introducer eight) ≤ 2
introducer_within true = lit≤ tt
introducer_within false = lit≤ tt

terminator_within : (eight : Bool) → length (terminator eight) ≤ 2
terminator_within true = lit≤ tt
terminator_within false = lit≤ tt

pub spelling_within : (event : Event) → IsEvent event → length (fixed_spelling event) ≤ most_length event
spelling_within (Start eight parameters) is =
    omega (
      arith,
      introducer_within eight,
      fields_within parameters.items is.1,
      length-append (introducer eight ++ fixed_fields parameters.items) (113 ∷ []),
      length-append (introducer eight) (fixed_fields parameters.items),
    )
spelling_within (Step (Sixel bits)) is = lit≤ tt
spelling_within (Step (Repeat count bits)) is =
    omega (arith, decimal_within count is.0, length-append (decimal count) ((63 + bits) ∷ []))
spelling_within (Step (Raster pan pad width height)) is = omega
    (arith, fields_within (pan ∷ pad ∷ width ∷ height ∷ []) is)
spelling_within (Step (Select register)) is = omega (arith, decimal_within register is)
spelling_within (Step (Define register system x y z)) is = omega
    (arith, fields_within (register ∷ system ∷ x ∷ y ∷ z ∷ []) is)
spelling_within (Step CarriageReturn) is = lit≤ tt
spelling_within (Step NextLine) is = lit≤ tt
spelling_within (Finish eight) is = terminator_within eight
