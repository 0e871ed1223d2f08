-- What is printed for one character more, and for the text around one.
use Rattle.std.proofs.Common.{◌≡◌, ◌∙◌, ◌+◌, ◌<◌, ◌∷◌, ◌++◌, ℕ, [], List, ap, append-nil, drop, encode_utf8_all}
use Rattle.std.proofs.Common.{chars, flat_map, get_or, length, sym, take}
use Rattle.std.proofs.lemmas.Grind.{flat_map-append}
use Rattle.std.proofs.lemmas.List.{take-append-drop, take_more}
use Rattle.std.proofs.lemmas.Str.{encodes-append}
use Rattle.sixel_printing.specs.Printing.{printed, printed_char}

-- what is printed for the first characters, and for all that follow
two : (f : ℕ → List ℕ) (cs ds : List ℕ)
    → encode_utf8_all (flat_map f (cs ++ ds)) ≡ encode_utf8_all (flat_map f cs) ++ encode_utf8_all (flat_map f ds)
two f cs ds = ap encode_utf8_all (flat_map-append f cs ds) ∙ encodes-append (flat_map f cs) (flat_map f ds)

pub one_more : (f : ℕ → List ℕ) (cs : List ℕ) (c : ℕ)
    → encode_utf8_all (flat_map f (cs ++ c ∷ [])) ≡ encode_utf8_all (flat_map f cs) ++ encode_utf8_all (f c)
one_more f cs c =
    two f cs (c ∷ [])
    ∙ ap (λ (t : List ℕ). encode_utf8_all (flat_map f cs) ++ encode_utf8_all t) (append-nil (f c))

-- a list is its first elements, the next one, and the rest
around : (all xs : List ℕ) (c : ℕ) → xs ≡ take (length xs) all → length xs < length all
    → c ≡ get_or all (length xs) c → all ≡ (xs ++ c ∷ []) ++ drop (length xs + 1) all
around all xs c first short next =
    sym (take-append-drop (length xs + 1) all)
    ∙ ap (λ (t : List ℕ). t ++ drop (length xs + 1) all)
    (take_more all (length xs) c short
    ∙ ap (λ (t : List ℕ). t ++ get_or all (length xs) c ∷ []) (sym first)
    ∙ ap (λ (d : ℕ). xs ++ d ∷ []) (sym next))

-- a text is printed as its first characters are, the next one is, and the rest is
pub printed_around : (text xs : List ℕ) (c : ℕ) → xs ≡ take (length xs) (chars text)
    → length xs < length (chars text) → c ≡ get_or (chars text) (length xs) c
    → printed text ≡ (encode_utf8_all (flat_map printed_char xs) ++ encode_utf8_all (printed_char c))
    ++ encode_utf8_all (flat_map printed_char (drop (length xs + 1) (chars text)))
printed_around text xs c first short next =
    let rest = drop (length xs + 1) (chars text) in
    ap (λ (cs : List ℕ). encode_utf8_all (flat_map printed_char cs)) (around (chars text) xs c first short next)
    ∙ two printed_char (xs ++ c ∷ []) rest
    ∙ ap (λ (t : List ℕ). t ++ encode_utf8_all (flat_map printed_char rest)) (one_more printed_char xs c)
