-- Arguments as texts.
use Rattle.std.proofs.Common.{◌≡◌, ◌∙◌, ◌+◌, ◌++◌, ◌∷◌, [], ℕ, zero, suc, List, None, Option, Some, ap, ap₂, arith, map}
use Rattle.std.proofs.Common.{option_map, refl, slice_get, string_bytes, sym, take}
use Rattle.std.specs.Prelude.{Err, IfSome, String}
use Rattle.std.specs.Global.{Global}
use Rattle.std.specs.Str.Lossy.{utf8_lossy}
use Rattle.std.specs.declared.env.FillError.TheVariants.{NotPresent}
use Rattle.std.proofs.lemmas.List.{map-append}
use Rattle.sixel_report.specs.Texts.{Text}
use Rattle.sixel_words.specs.Arguments.{IsCopied}

-- there is no argument with this index, so there is no text
pub past_the_last : (given : Option (List Text)) (index : ℕ) (room : Text)
    → IfSome given (λ g. IsCopied g index (Err NotPresent) room)
    → IfSome given (λ g. None ≡ option_map utf8_lossy (slice_get g index))
past_the_last None index room none = tt
past_the_last (Some g) index room none = sym (ap (option_map utf8_lossy) none)

take_get : (g : List Text) (i : ℕ) (a : Text) → slice_get g i ≡ Some a → take (i + 1) g ≡ take i g ++ a ∷ []
take_get [] i a is = let bad : None ≡ Some a = is in cc
take_get (x ∷ g) zero a is = let same : x ≡ a = cc in ap (λ (y : Text). y ∷ []) same
take_get (x ∷ g) (suc i) a is =
    let more : suc i + 1 ≡ suc (i + 1) = omega arith in
    ap (λ (n : ℕ). take n (x ∷ g)) more ∙ ap (λ (ts : List Text). x ∷ ts) (take_get g i a is)

-- the argument that a text was made of
record IsMadeOf (argument : Option Text) (text : Text) : Type 0 where
  pub bytes : Text
  pub is : argument ≡ Some bytes
  pub made : text ≡ utf8_lossy bytes

made_of : (argument : Option Text) (text : Text) → Some text ≡ option_map utf8_lossy argument → IsMadeOf argument text
made_of None text is = let bad : Some text ≡ None = is in cc
made_of (Some bytes) text is = record { bytes = bytes; is = refl; made = cc }

-- one text more
pub one_more : (given : Option (List Text)) (texts all : List (String Global)) (text : String Global)
    (found : Option (String Global)) (i : ℕ) → IfSome given (λ g. map string_bytes texts ≡ map utf8_lossy (take i g))
    → IfSome given (λ g. option_map string_bytes found ≡ option_map utf8_lossy (slice_get g i)) → found ≡ Some text
    → all ≡ texts ++ text ∷ [] → IfSome given (λ g. map string_bytes all ≡ map utf8_lossy (take (i + 1) g))
one_more None texts all text found i before here is more = tt
one_more (Some g) texts all text found i before here is more =
    let a = made_of (slice_get g i) (string_bytes text) (ap (option_map string_bytes) (sym is) ∙ here) in
    ap (map string_bytes) more ∙ map-append string_bytes texts (text ∷ [])
    ∙ ap₂ (λ (ts : List Text) (t : Text). ts ++ t ∷ []) before a.made
    ∙ sym (map-append utf8_lossy (take i g) (a.bytes ∷ [])) ∙ ap (map utf8_lossy) (sym (take_get g i a.bytes a.is))
