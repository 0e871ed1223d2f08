-- Colours as the command line gives them.
use Rattle.std.proofs.Common.{◌≡◌, ◌≢◌, ◌∙◌, ◌∷◌, ◌++◌, ◌<◌, ◌≤◌, ℕ, zero, suc, [], None, Option, Some, ap}
use Rattle.std.proofs.Common.{append_assoc, arith, codes, get_or, inl, inr, length, refl, subst, sym}
use Rattle.std.specs.Borrow.{Bor}
use Rattle.std.specs.Prelude.{IfSome, MatchOption, unwrap_or}
use Rattle.std.specs.Char.{digit_value}
use Rattle.std.specs.Str.Parse.{AllDigits}
use Rattle.std.proofs.lemmas.Str.Pattern.{IsSplitOnceResult, split_after, split_parts}
use Rattle.sixel_model.specs.declared.colour.Parts.{Parts}
use Rattle.sixel_model.specs.declared.colour.Parts.TheVariants.{Rgb, Hls}
use Rattle.clap.specs.Walk.{Text}
use Rattle.sixel_words.specs.Words.{ArePercentages, AreSamples, AreShortSamples, IsColourText, IsPercentage}
use Rattle.sixel_words.specs.Words.{IsSample, basic_colour}

-- a digit is no comma
digits_without : (c : ℕ) → (digit_value c < 10 → ⊥) → (ds : Text) → AllDigits 10 ds → (i : ℕ) → i < length ds
    → get_or ds i 0 ≢ c
digits_without c comma [] are i short = let bad : ⊥ = omega (arith, short) in absurd bad
digits_without c comma (d ∷ ds) are zero short = λ is. comma (subst (λ (x : ℕ). digit_value x < 10) is are.0)
digits_without c comma (d ∷ ds) are (suc i) short = digits_without c comma ds are.1 i (omega (arith, short))

comma_no_digit : digit_value 44 < 10 → ⊥
comma_no_digit small = omega (arith, small)

-- ---- three percentages

three : (r g b : Text) → r ++ codes "," ++ g ++ codes "," ++ b ≡ r ++ 44 ∷ (g ++ 44 ∷ b)
three r g b =
    append_assoc ((r ++ codes ",") ++ g) (codes ",") b ∙ append_assoc (r ++ codes ",") g (44 ∷ b)
    ∙ append_assoc r (codes ",") (g ++ 44 ∷ b)

-- the text is cut behind the percentage that it begins with
cut_behind : (text first rest : Text) (n : ℕ) (r : Option (Bor Text × Bor Text)) → IsSplitOnceResult 44 text r
    → text ≡ first ++ 44 ∷ rest → IsPercentage first n
    → MatchOption r ⊥ (λ x. (x.0.now ≡ first) × (x.1.now ≡ rest))
cut_behind text first rest n r gives is percentage =
    split_after 44 text first rest r gives (omega arith) is
    (digits_without 44 comma_no_digit first percentage.numeral.1)

-- a text without a comma is no colour
pub no_comma : (text : Text) → IsSplitOnceResult 44 text None → (colour : Parts) → ArePercentages text colour → ⊥
no_comma text gives (Rgb red green blue) (r, g, b, is, one, two, last) =
    cut_behind text r (g ++ 44 ∷ b) red None gives (is ∙ three r g b) one
no_comma text gives (Hls hue lightness saturation) is = is

module _ (text : Text) (x : Bor Text × Bor Text) (first : IsSplitOnceResult 44 text (Some x)) where
  -- nor is one with a single comma
  pub one_comma : IsSplitOnceResult 44 x.1.now None → (colour : Parts) → ArePercentages text colour → ⊥
  one_comma second (Rgb red green blue) (r, g, b, is, one, two, last) =
      let cut = cut_behind text r (g ++ 44 ∷ b) red (Some x) first (is ∙ three r g b) one in
      cut_behind x.1.now g b green None second cut.1 two
  one_comma second (Hls hue lightness saturation) is = is

  module _ (y : Bor Text × Bor Text) (second : IsSplitOnceResult 44 x.1.now (Some y)) where
    -- nor one in which a part isn't a percentage
    pub no_parts : ((red green blue : ℕ) → IsPercentage x.0.now red → IsPercentage y.0.now green
        → IsPercentage y.1.now blue → ⊥) → (colour : Parts) → ArePercentages text colour → ⊥
    no_parts none (Rgb red green blue) (r, g, b, is, one, two, last) =
        let cut = cut_behind text r (g ++ 44 ∷ b) red (Some x) first (is ∙ three r g b) one in
        let again = cut_behind x.1.now g b green (Some y) second cut.1 two in
        none red green blue (subst (λ (t : Text). IsPercentage t red) (sym cut.0) one)
        (subst (λ (t : Text). IsPercentage t green) (sym again.0) two)
        (subst (λ (t : Text). IsPercentage t blue) (sym again.1) last)
    no_parts none (Hls hue lightness saturation) is = is

    -- three percentages are a colour
    pub parts_are_colour : (red green blue : ℕ) → IsPercentage x.0.now red → IsPercentage y.0.now green
        → IsPercentage y.1.now blue → ArePercentages text (Rgb red green blue)
    parts_are_colour red green blue one two last =
        let cut = split_parts 44 text (Some x) first (omega arith) in
        let again = split_parts 44 x.1.now (Some y) second (omega arith) in (
          x.0.now,
          y.0.now,
          y.1.now,
          cut.0 ∙ ap (λ (t : Text). x.0.now ++ 44 ∷ t) again.0 ∙ sym (three x.0.now y.0.now y.1.now),
          one,
          two,
          last,
        )

-- ---- options

pub some_weaker : {X : Type 0} (P Q : X → Type 0) (o : Option X) → ((x : X) → P x → Q x) → IfSome o P → IfSome o Q
some_weaker P Q None is h = tt
some_weaker P Q (Some x) is h = is x h

pub same_text : (o : Option Text) (a b : Text) → o ≡ Some a → o ≡ Some b → a ≡ b
same_text o a b e f = ap (λ (k : Option Text). unwrap_or k []) (sym e ∙ f)

-- ---- samples

pub no_some : {X : Type 0} (o : Option X) → ((x : X) → o ≡ Some x → ⊥) → o ≡ None
no_some None other = refl
no_some (Some x) other = absurd (other x refl)

-- a text that is none of the four is no colour
pub neither : (text : Text) (colour : Parts) → (basic_colour text ≡ None) → (AreSamples text colour → ⊥)
    → (AreShortSamples text colour → ⊥) → (ArePercentages text colour → ⊥) → IsColourText text colour → ⊥
neither text colour unnamed samples short percentages (inl are) = percentages are
neither text colour unnamed samples short percentages (inr (inl are)) = samples are
neither text colour unnamed samples short percentages (inr (inr (inl are))) = short are
neither text colour unnamed samples short percentages (inr (inr (inr is))) =
    let bad : None ≡ Some colour = sym unnamed ∙ is in cc

-- the digits of the three samples, and the samples
abbrev pub HaveDigits : Text → Type 0
HaveDigits bytes = (red : ℕ) × (green : ℕ) × (blue : ℕ) × (length bytes ≡ 7) × (get_or bytes 0 0 ≡ 35)
    × IsSample (get_or bytes 1 0 ∷ get_or bytes 2 0 ∷ []) red
    × IsSample (get_or bytes 3 0 ∷ get_or bytes 4 0 ∷ []) green
    × IsSample (get_or bytes 5 0 ∷ get_or bytes 6 0 ∷ []) blue

two_bytes : (t : Text) → length t ≡ 2 → t ≡ get_or t 0 0 ∷ get_or t 1 0 ∷ []
two_bytes [] two = let bad : ⊥ = omega (arith, two) in absurd bad
two_bytes (a ∷ []) two = let bad : ⊥ = omega (arith, two) in absurd bad
two_bytes (a ∷ b ∷ []) two = refl
two_bytes (a ∷ b ∷ c ∷ t) two = let bad : ⊥ = omega (arith, two) in absurd bad

three_digits : (r g b : Text) (x y z : ℕ) → IsSample r x → IsSample g y → IsSample b z
    → HaveDigits (35 ∷ (r ++ g ++ b))
three_digits r g b x y z one two last =
    let r' = get_or r 0 0 ∷ get_or r 1 0 ∷ [] in
    let g' = get_or g 0 0 ∷ get_or g 1 0 ∷ [] in
    let b' = get_or b 0 0 ∷ get_or b 1 0 ∷ [] in
    let r'' = two_bytes r one.two in
    let g'' = two_bytes g two.two in
    let b'' = two_bytes b last.two in
    let same : 35 ∷ (r ++ g ++ b) ≡ 35 ∷ (r' ++ g' ++ b') =
    ap (λ (t : Text). 35 ∷ (t ++ g ++ b)) r'' ∙ ap (λ (t : Text). 35 ∷ (r' ++ t ++ b)) g''
    ∙ ap (λ (t : Text). 35 ∷ (r' ++ g' ++ t)) b'' in
    subst HaveDigits (sym same) (
      x,
      y,
      z,
      refl,
      refl,
      subst (λ (t : Text). IsSample t x) r'' one,
      subst (λ (t : Text). IsSample t y) g'' two,
      subst (λ (t : Text). IsSample t z) b'' last,
    )

pub digits_in : (bytes text : Text) (colour : Parts) → bytes ≡ text → AreSamples text colour → HaveDigits bytes
digits_in bytes text colour same (r, g, b, x, y, z, is, one, two, last, value) =
    subst HaveDigits (sym (same ∙ is)) (three_digits r g b x y z one two last)

-- seven bytes, of which the first is a `#`
pub seven_bytes : (t : Text) → 7 ≤ length t → length t < 8 → get_or t 0 0 ≡ 35
    → t ≡ 35 ∷ get_or t 1 0 ∷ get_or t 2 0 ∷ get_or t 3 0 ∷ get_or t 4 0 ∷ get_or t 5 0 ∷ get_or t 6 0 ∷ []
seven_bytes [] long short hash = let bad : ⊥ = omega (arith, long) in absurd bad
seven_bytes (a ∷ []) long short hash = let bad : ⊥ = omega (arith, long) in absurd bad
seven_bytes (a ∷ b ∷ []) long short hash = let bad : ⊥ = omega (arith, long) in absurd bad
seven_bytes (a ∷ b ∷ c ∷ []) long short hash = let bad : ⊥ = omega (arith, long) in absurd bad
seven_bytes (a ∷ b ∷ c ∷ d ∷ []) long short hash = let bad : ⊥ = omega (arith, long) in absurd bad
seven_bytes (a ∷ b ∷ c ∷ d ∷ e ∷ []) long short hash = let bad : ⊥ = omega (arith, long) in absurd bad
seven_bytes (a ∷ b ∷ c ∷ d ∷ e ∷ f ∷ []) long short hash = let bad : ⊥ = omega (arith, long) in absurd bad
seven_bytes (a ∷ b ∷ c ∷ d ∷ e ∷ f ∷ g ∷ []) long short hash =
    ap (λ (x : ℕ). x ∷ b ∷ c ∷ d ∷ e ∷ f ∷ g ∷ []) hash
seven_bytes (a ∷ b ∷ c ∷ d ∷ e ∷ f ∷ g ∷ h ∷ t) long short hash =
    let bad : ⊥ = omega (arith, short) in absurd bad

-- four bytes, of which the first is a `#`
pub four_bytes : (t : Text) → 4 ≤ length t → length t < 5 → get_or t 0 0 ≡ 35
    → t ≡ 35 ∷ get_or t 1 0 ∷ get_or t 2 0 ∷ get_or t 3 0 ∷ []
four_bytes [] long short hash = let bad : ⊥ = omega (arith, long) in absurd bad
four_bytes (a ∷ []) long short hash = let bad : ⊥ = omega (arith, long) in absurd bad
four_bytes (a ∷ b ∷ []) long short hash = let bad : ⊥ = omega (arith, long) in absurd bad
four_bytes (a ∷ b ∷ c ∷ []) long short hash = let bad : ⊥ = omega (arith, long) in absurd bad
four_bytes (a ∷ b ∷ c ∷ d ∷ []) long short hash = ap (λ (x : ℕ). x ∷ b ∷ c ∷ d ∷ []) hash
four_bytes (a ∷ b ∷ c ∷ d ∷ e ∷ t) long short hash = let bad : ⊥ = omega (arith, short) in absurd bad

-- samples, and the short form, of bytes that are the text
pub samples_of : (bytes text : Text) (colour : Parts) → text ≡ bytes → AreSamples bytes colour → AreSamples text colour
samples_of bytes text colour same are = subst (λ (t : Text). AreSamples t colour) (sym same) are

pub short_digits : (text : Text) (a b c : ℕ) (colour : Parts) → text ≡ 35 ∷ a ∷ b ∷ c ∷ [] → AreShortSamples text colour
    → AreSamples (35 ∷ a ∷ a ∷ b ∷ b ∷ c ∷ c ∷ []) colour
short_digits text a b c colour same (r, g, d, is, are) =
    let one : 35 ∷ a ∷ b ∷ c ∷ [] ≡ 35 ∷ r ∷ g ∷ d ∷ [] = sym same ∙ is in
    let first : a ≡ r = ap (λ (t : Text). get_or t 1 0) one in
    let second : b ≡ g = ap (λ (t : Text). get_or t 2 0) one in
    let third : c ≡ d = ap (λ (t : Text). get_or t 3 0) one in
    rw (first, second, third) are
