-- The numbers of inks.
use Rattle.std.proofs.Common.{◌≡◌, ◌+◌, ◌*◌, ◌/◌, ◌%◌, ◌<◌, ◌≤◌, ◌∙◌, ℕ, zero, suc, refl, sym, ap, arith}
use Rattle.std.proofs.Common.{[], ◌∷◌, false, nat_lt}
use Rattle.std.proofs.lemmas.Bool.{lt-ltb}
use Rattle.std.specs.Int.{to_le_bytes, w32}
use Rattle.sixel_model.specs.declared.colour.Parts.TheVariants.{Rgb, Hls}
use Rattle.sixel_terminal.specs.declared.pixel.Ink.{Ink}
use Rattle.sixel_terminal.specs.declared.pixel.Ink.TheVariants.{Fixed, Bound}
use Rattle.sixel_terminal.specs.Pixels.{IsInk, IsInkCode, bytes_of, code_of, ink_of, ink_of_bytes, is_rgb_ink}
use Rattle.sixel_terminal.specs.Pixels.{packed}

-- the bytes of a number are those that it was packed of
unpacked : (a b c highest : ℕ) → a < 256 → b < 256 → c < 256
    → ink_of (packed a b c highest) ≡ ink_of_bytes a b c highest
unfolding ink_of
unpacked a b c highest first second third =
    let n = packed a b c highest in
    let one : n % 256 ≡ a = omega (arith, first) in
    let two : n / 256 % 256 ≡ b = omega (arith, first, second) in
    let three : n / 65536 % 256 ≡ c = omega (arith, first, second, third) in
    let four : n / 16777216 ≡ highest = omega (arith, first, second, third) in
    rw (one, two, three, four) refl

hue_back : (a b c rest : ℕ) → rest ≤ 1 → ink_of_bytes a b c (1 + rest) ≡ Fixed (Hls (a + 256 * rest) b c)
hue_back a b c zero few = refl
hue_back a b c (suc zero) few = refl
hue_back a b c (suc (suc n)) few = absurd (omega (arith, few))

-- an ink is that of its number
pub ink_back : (ink : Ink) → IsInk ink → ink_of (code_of ink) ≡ ink
ink_back (Fixed (Rgb red green blue)) is =
    unpacked red green blue 0 (omega (arith, is.0)) (omega (arith, is.1)) (omega (arith, is.2))
ink_back (Fixed (Hls hue lightness saturation)) is =
    let rest : hue / 256 ≤ 1 = omega (arith, is.0) in
    let whole : hue % 256 + 256 * (hue / 256) ≡ hue = omega arith in
    unpacked (hue % 256) lightness saturation (1 + hue / 256) (omega arith) (omega (arith, is.1))
    (omega (arith, is.2))
    ∙ hue_back (hue % 256) lightness saturation (hue / 256) rest
    ∙ ap (λ n. Fixed (Hls n lightness saturation)) whole
ink_back (Bound register) is =
    let whole : register % 256 + 256 * (register / 256) ≡ register = omega arith in
    unpacked (register % 256) (register / 256) 0 3 (omega arith) (omega (arith, is)) (omega arith)
    ∙ ap (λ n. Bound n) whole

-- the number of an ink is one
pub is_code : (ink : Ink) (code : ℕ) → IsInk ink → code ≡ code_of ink → IsInkCode code
is_code ink code is same =
    let back : ink_of code ≡ ink = ap ink_of same ∙ ink_back ink is in
    record { same = same ∙ ap code_of (sym back); ink = rw back is }

four : (code a b c highest : ℕ) → code ≡ packed a b c highest → a < 256 → b < 256 → c < 256 → highest < 256
    → to_le_bytes w32 code ≡ a ∷ b ∷ c ∷ highest ∷ []
four code a b c highest same first second third last =
    let one : code % 256 ≡ a = omega (arith, same, first) in
    let two : code / 256 % 256 ≡ b = omega (arith, same, first, second) in
    let three : code / 65536 % 256 ≡ c = omega (arith, same, first, second, third) in
    let four : code / 16777216 % 256 ≡ highest = omega (arith, same, first, second, third, last) in
    rw (one, two, three, four) refl

not_below : (n m : ℕ) → m ≤ n → nat_lt n m ≡ false
not_below n m le = grind (arith, le)

-- the bytes of an ink, from its number
pub bytes_back : (ink : Ink) (code : ℕ) → IsInk ink → code ≡ code_of ink → to_le_bytes w32 code ≡ bytes_of ink
bytes_back (Fixed (Rgb red green blue)) code is same =
    four code red green blue 0 same (omega (arith, is.0)) (omega (arith, is.1)) (omega (arith, is.2)) (omega arith)
bytes_back (Fixed (Hls hue lightness saturation)) code is same =
    four code (hue % 256) lightness saturation (1 + hue / 256) same (omega arith) (omega (arith, is.1))
    (omega (arith, is.2)) (omega (arith, is.0))
bytes_back (Bound register) code is same =
    four code (register % 256) (register / 256) 0 3 same (omega arith) (omega (arith, is)) (omega arith) (omega arith)

-- the numbers of RGB colours are the least
pub small_is_rgb : (ink : Ink) (code : ℕ) → IsInk ink → code ≡ code_of ink → nat_lt code 16777216 ≡ is_rgb_ink ink
small_is_rgb (Fixed (Rgb red green blue)) code is same =
    lt-ltb code 16777216 (omega (arith, is.0, is.1, is.2, same))
small_is_rgb (Fixed (Hls hue lightness saturation)) code is same =
    not_below code 16777216 (omega (arith, same))
small_is_rgb (Bound register) code is same = not_below code 16777216 (omega (arith, same))
