-- Each picture file is read.
use Rattle.std.proofs.Common.{◌≡◌, ◌≢◌, ◌==◌, ◌+◌, ◌-◌, ◌*◌, ◌<◌, ◌≤◌, ℕ, zero, suc, Bool, true, false, ◌&&◌, nat_le}
use Rattle.std.proofs.Common.{nat_lt, Result, Ok, List, [], ◌∷◌, ◌++◌, length, refl, sym, ap, ap₂, subst, ◌∙◌}
use Rattle.std.proofs.Common.{append_assoc, arith, inl, inr, length-append}
use Rattle.std.specs.Char.{digit_value}
use Rattle.std.specs.Int.{IsInRange}
use Rattle.std.specs.List.{AllByRecursion, concat}
use Rattle.std.specs.Str.Parse.{AllDigits, digits_value, digits_value_after}
use Rattle.std.proofs.Math.Nat.{le_trans}
use Rattle.std.proofs.lemmas.Bool.{ne_eqb}
use Rattle.std.proofs.lemmas.Bool.Decides.{nat_tests}
use Rattle.std.proofs.lemmas.List.{append-nil}
use Rattle.std.proofs.lemmas.Str.{digit_value_digit}
use Rattle.std.proofs.lemmas.Str.Parse.{digit_from_value}
use Rattle.sixel_grammar.specs.Bytes.{is_digit}
use Rattle.sixel_model.specs.Pictures.{PictureValue, most_side}
use Rattle.sixel_ppm_laws.specs.PpmFiles.{IsFiller, IsFillerPiece, IsHeader, IsNumberText, IsPictureFile}
use Rattle.sixel_ppm_laws.specs.PpmFiles.{colours_of_samples}
use Rattle.sixel_ppm.specs.PpmReading.{◌>>=◌, Head, after_digits, after_filler, begins_filler, colour_of, distinct}
use Rattle.sixel_ppm.specs.PpmReading.{filled_number, head_of, height_on, is_space, judged, maxval_on, most_header}
use Rattle.sixel_ppm.specs.PpmReading.{number, picture_after, picture_of, pixels, ppm_read, wanted, width_on}
use Rattle.sixel_model.specs.declared.colour.Parts.{Parts}
use Rattle.sixel_ppm.specs.declared.ppm.PpmFault.{PpmFault}
use Rattle.sixel_ppm.specs.declared.ppm.PpmReason.{PpmReason}
use Rattle.sixel_ppm.specs.declared.ppm.PpmReason.TheVariants as reason
use Rattle.sixel_ppm.specs.declared.ppm.PpmReason.TheVariants.{Size}
use Rattle.sixel_ppm.proofs.PpmSampleLemmas.{below_limit, distinct_grows, passes}

-- ---- single bytes

wanted_read : (test : ℕ → Bool) (at b : ℕ) (rest : List ℕ) → at < 65536 → test b ≡ true
    → wanted test at (b ∷ rest) ≡ Ok (at + 1, rest)
wanted_read test at b rest lt passed =
    let within : nat_lt at most_header ≡ true = below_limit at 65536 lt in
    rw (within, passed) refl

-- a digit isn't whitespace
pub digit_no_space : (b : ℕ) → is_digit b ≡ true → is_space b ≡ false
digit_no_space b d = grind (arith, nat_tests)

pub digit_no_comment : (b : ℕ) → is_digit b ≡ true → (b == 35) ≡ false
digit_no_comment b d = grind (arith, nat_tests)

-- a byte that begins filler isn't a digit
pub filler_no_digit : (b : ℕ) → begins_filler b ≡ true → is_digit b ≡ false
filler_no_digit b f = grind (arith, nat_tests)

pub space_begins : (b : ℕ) → is_space b ≡ true → begins_filler b ≡ true
space_begins b s = rw s refl

-- ---- filler

space_passed : (at b : ℕ) (rest : List ℕ) → at < 65536 → is_space b ≡ true
    → after_filler false at (b ∷ rest) ≡ after_filler false (at + 1) rest
space_passed at b rest lt s =
    let within : nat_lt at most_header ≡ true = below_limit at 65536 lt in
    rw (within, s) refl

comment_begun : (at : ℕ) (rest : List ℕ) → at < 65536
    → after_filler false at (35 ∷ rest) ≡ after_filler true (at + 1) rest
comment_begun at rest lt =
    let within : nat_lt at most_header ≡ true = below_limit at 65536 lt in
    rw within refl

comment_passed : (text : List ℕ) (at end : ℕ) (rest : List ℕ) → AllByRecursion (λ b. b ≢ 10) text
    → end ≡ at + length text + 1
    → end ≤ 65536 → after_filler true at (text ++ 10 ∷ rest) ≡ after_filler false end rest
comment_passed [] at end rest all e le =
    let within : nat_lt at most_header ≡ true = below_limit at 65536 (omega (arith, e)) in
    rw within (ap (λ (k : ℕ). after_filler false k rest) (omega (arith, e)))
comment_passed (b ∷ text) at end rest all e le =
    let within : nat_lt at most_header ≡ true = below_limit at 65536 (omega (arith, e)) in
    let other : (b == 10) ≡ false = ne_eqb b 10 all.0 in
    rw (within, other) (comment_passed text (at + 1) end rest all.1 (omega (arith, e)) le)

piece_passed : (piece : List ℕ) (at end : ℕ) (rest : List ℕ) → IsFillerPiece piece → end ≡ at + length piece
    → end ≤ 65536
    → after_filler false at (piece ++ rest) ≡ after_filler false end rest
piece_passed piece at end rest (inl w) e le =
    let long = ap (λ (t : List ℕ). length t) w.1 in
    ap (λ (t : List ℕ). after_filler false at (t ++ rest)) w.1
    ∙ space_passed at w.0 rest (omega (arith, e, long)) w.2
    ∙ ap (λ (k : ℕ). after_filler false k rest) (omega (arith, e, long))
piece_passed piece at end rest (inr c) e le =
    let long : length piece ≡ suc (length c.0 + 1) =
    ap (λ (t : List ℕ). length t) c.1 ∙ ap suc (length-append c.0 (10 ∷ [])) in
    ap (λ (t : List ℕ). after_filler false at (t ++ rest)) c.1
    ∙ ap (λ (t : List ℕ). after_filler false at (35 ∷ t)) (append_assoc c.0 (10 ∷ []) rest)
    ∙ comment_begun at (c.0 ++ 10 ∷ rest) (omega (arith, e, long))
    ∙ comment_passed c.0 (at + 1) end rest c.2 (omega (arith, e, long)) le

filler_passed : (pieces : List (List ℕ)) (at end : ℕ) (rest : List ℕ) → AllByRecursion IsFillerPiece pieces
    → end ≡ at + length (concat pieces)
    → end ≤ 65536 → after_filler false at (concat pieces ++ rest) ≡ after_filler false end rest
filler_passed [] at end rest all e le = ap (λ (k : ℕ). after_filler false k rest) (omega (arith, e))
filler_passed (p ∷ ps) at end rest all e le =
    let long = length-append p (concat ps) in
    ap (after_filler false at) (append_assoc p (concat ps) rest)
    ∙ piece_passed p at (at + length p) (concat ps ++ rest) all.0 refl (omega (arith, e, long))
    ∙ filler_passed ps (at + length p) end rest all.1 (omega (arith, e, long)) le

-- a digit ends the filler
filler_stops : (at d : ℕ) (rest : List ℕ) → at < 65536 → is_digit d ≡ true
    → after_filler false at (d ∷ rest) ≡ (at, d ∷ rest)
filler_stops at d rest lt digit =
    let within : nat_lt at most_header ≡ true = below_limit at 65536 lt in
    let s = digit_no_space d digit in
    let h = digit_no_comment d digit in
    rw (within, s, h) refl

-- bytes that begin with a byte of filler
abbrev Begins : List ℕ → Type 0
Begins bytes = (b : ℕ) × (tail : List ℕ) × (bytes ≡ b ∷ tail) × (begins_filler b ≡ true)

piece_begins : (piece more : List ℕ) → IsFillerPiece piece → Begins (piece ++ more)
piece_begins piece more (inl w) = (w.0, more, ap (λ (t : List ℕ). t ++ more) w.1, space_begins w.0 w.2)
piece_begins piece more (inr c) = (35, (c.0 ++ 10 ∷ []) ++ more, ap (λ (t : List ℕ). t ++ more) c.1, refl)

pieces_begin : (pieces : List (List ℕ)) → 0 < length pieces → AllByRecursion IsFillerPiece pieces
    → Begins (concat pieces)
pieces_begin [] some all = absurd (omega arith)
pieces_begin (p ∷ ps) some all = piece_begins p (concat ps) all.0

filler_begins : (filler : List ℕ) → IsFiller filler → Begins filler
filler_begins filler f = subst Begins (sym f.bytes_are) (pieces_begin f.pieces f.some f.each)

-- ---- numbers

pub digit_is : (c : ℕ) → digit_value c < 10 → is_digit c ≡ true
digit_is c lt =
    let r = digit_from_value c lt in
    let low : 48 ≤ c = r.0 in
    let high : c ≤ 57 = r.1 in
    ap₂ (λ (a b : Bool). a && b) (passes 48 c low) (passes c 57 high)

pub digit_adds : (c value : ℕ) → digit_value c < 10 → 10 * value + (c - 48) ≡ value * 10 + digit_value c
digit_adds c value lt =
    let more = digit_value_digit c (digit_from_value c lt) in
    let same : c - 48 ≡ digit_value c = omega (arith, more) in
    let turned : 10 * value + (c - 48) ≡ value * 10 + (c - 48) = omega arith in
    turned ∙ ap (λ (k : ℕ). value * 10 + k) same

digits_passed : (text : List ℕ) (value at end : ℕ) (rest : List ℕ) → AllDigits 10 text → end ≡ at + length text
    → end ≤ 65536
    → after_digits value at (text ++ rest) ≡ after_digits (digits_value_after 10 value text) end rest
digits_passed [] value at end rest all e le = ap (λ (k : ℕ). after_digits value k rest) (omega (arith, e))
digits_passed (c ∷ text) value at end rest all e le =
    let within : nat_lt at most_header ≡ true = below_limit at 65536 (omega (arith, e)) in
    let digit = digit_is c all.0 in
    rw (within, digit)
    (digits_passed text (10 * value + (c - 48)) (at + 1) end rest all.1 (omega (arith, e)) le
    ∙ ap (λ (v : ℕ). after_digits (digits_value_after 10 v text) end rest) (digit_adds c value all.0))

digits_stop : (value at b : ℕ) (rest : List ℕ) → at < 65536 → is_digit b ≡ false
    → after_digits value at (b ∷ rest) ≡ (value, at, b ∷ rest)
digits_stop value at b rest lt other =
    let within : nat_lt at most_header ≡ true = below_limit at 65536 lt in
    rw (within, other) refl

judged_read : (ends : ℕ → Bool) (why : PpmReason) (most first n at b : ℕ) (rest : List ℕ) → IsInRange 1 most n
    → at < 65536 → ends b ≡ true
    → judged ends why most first (n, at, b ∷ rest) ≡ Ok (n, at, b ∷ rest)
judged_read ends why most first n at b rest range lt ended =
    let within : nat_lt at most_header ≡ true = below_limit at 65536 lt in
    let low : nat_le 1 n ≡ true = passes 1 n range.0 in
    let high : nat_le n most ≡ true = passes n most range.1 in
    rw (within, ended, low, high) refl

-- a number, and the byte that ends it
number_read : (ends : ℕ → Bool) (why : PpmReason) (most n at place b : ℕ) (text rest : List ℕ) → IsNumberText n text
    → IsInRange 1 most n → ends b ≡ true → is_digit b ≡ false → place ≡ at + length text → place < 65536
    → number ends why most at (text ++ b ∷ rest) ≡ Ok (n, place, b ∷ rest)
number_read ends why most n at place b [] rest is range ended other e lt =
    let some : 0 < 0 = is.digits.0 in absurd (omega arith)
number_read ends why most n at place b (d ∷ text) rest is range ended other e lt =
    let digit = digit_is d is.digits.1.0 in
    let begun = wanted_read is_digit at d (text ++ b ∷ rest) (omega (arith, e)) digit in
    let read : after_digits 0 at (d ∷ text ++ b ∷ rest) ≡ (n, place, b ∷ rest) =
    digits_passed (d ∷ text) 0 at place (b ∷ rest) is.digits.1 e (omega arith)
    ∙ digits_stop (digits_value 10 (d ∷ text)) place b rest lt other
    ∙ ap (λ (v : ℕ). (v, place, b ∷ rest)) is.value in
    ap (λ (r : Result (ℕ × List ℕ) PpmFault).
    r >>= (λ digit. judged ends why most at (after_digits 0 at (d ∷ text ++ b ∷ rest)))) begun
    ∙ ap (judged ends why most at) read
    ∙ judged_read ends why most at n place b rest range lt ended

-- filler, a number, and the byte that ends the number
filled_before : (ends : ℕ → Bool) (why : PpmReason) (most n at place b : ℕ) (filler text rest : List ℕ)
    → IsFiller filler → IsNumberText n text → IsInRange 1 most n → ends b ≡ true → is_digit b ≡ false
    → place ≡ at + length filler + length text → place < 65536
    → filled_number ends why most at (filler ++ (text ++ b ∷ rest)) ≡ Ok (n, place, b ∷ rest)
filled_before ends why most n at place b filler [] rest f is range ended other e lt =
    let some : 0 < 0 = is.digits.0 in absurd (omega arith)
filled_before ends why most n at place b filler (d ∷ text) rest f is range ended other e lt =
    let begins = filler_begins filler f in
    let after = d ∷ text ++ b ∷ rest in
    let begun : wanted begins_filler at (filler ++ after) ≡ Ok (at + 1, begins.1 ++ after) =
    ap (λ (t : List ℕ). wanted begins_filler at (t ++ after)) begins.2
    ∙ wanted_read begins_filler at begins.0 (begins.1 ++ after) (omega (arith, e)) begins.3 in
    let passed : after_filler false at (filler ++ after) ≡ (at + length filler, after) =
    ap (λ (t : List ℕ). after_filler false at (t ++ after)) f.bytes_are
    ∙ filler_passed f.pieces at (at + length filler) after f.each
    (ap (λ (t : List ℕ). at + length t) f.bytes_are) (omega (arith, e))
    ∙ filler_stops (at + length filler) d (text ++ b ∷ rest) (omega (arith, e)) (digit_is d is.digits.1.0) in
    ap (λ (r : Result (ℕ × List ℕ) PpmFault).
    r >>= (λ begun. number ends why most (after_filler false at (filler ++ after)).0
    (after_filler false at (filler ++ after)).1)) begun
    ∙ ap (λ (r : ℕ × List ℕ). number ends why most r.0 r.1) passed
    ∙ number_read ends why most n (at + length filler) place b (d ∷ text) rest is range ended other e lt

filled_read : (ends : ℕ → Bool) (why : PpmReason) (most n at place b : ℕ) (filler text after rest : List ℕ)
    → after ≡ b ∷ rest → IsFiller filler → IsNumberText n text → IsInRange 1 most n → ends b ≡ true
    → is_digit b ≡ false → place ≡ at + length filler + length text → place < 65536
    → filled_number ends why most at (filler ++ (text ++ after)) ≡ Ok (n, place, after)
filled_read ends why most n at place b filler text after rest is f number range ended other e lt =
    subst (λ (t : List ℕ). filled_number ends why most at (filler ++ (text ++ t)) ≡ Ok (n, place, t)) (sym is)
    (filled_before ends why most n at place b filler text rest f number range ended other e lt)

-- ---- the header

-- the offset after filler and a number
abbrev past : ℕ → List ℕ → List ℕ → ℕ
past at filler text = at + length filler + length text

maxval_read : (width height maxval at b : ℕ) (filler text rest : List ℕ) → IsFiller filler → IsNumberText maxval text
    → IsInRange 1 255 maxval → is_space b ≡ true → past at filler text < 65536
    → maxval_on width height at (filler ++ (text ++ b ∷ rest))
    ≡ Ok (record {
      width = width;
      height = height;
      maxval = maxval;
      place = past at filler text + 1;
      samples = rest;
    })
maxval_read width height maxval at b filler text rest f is range space lt =
    let read = filled_before is_space reason.Maxval 255 maxval at (past at filler text) b filler text rest f is range
    space (filler_no_digit b (space_begins b space)) refl lt in
    let ended = wanted_read is_space (past at filler text) b rest lt space in
    rw read (rw ended refl)

height_read : (width height at place b : ℕ) (filler text after rest : List ℕ) → after ≡ b ∷ rest
    → begins_filler b ≡ true → IsFiller filler → IsNumberText height text → IsInRange 1 most_side height
    → place ≡ past at filler text → place < 65536
    → height_on width at (filler ++ (text ++ after)) ≡ maxval_on width height place after
height_read width height at place b filler text after rest is begins f number range e lt =
    let read = filled_read begins_filler Size most_side height at place b filler text after rest is f number range
    begins
    (filler_no_digit b begins) e lt in
    rw read refl

width_read : (width at place b : ℕ) (filler text after rest : List ℕ) → after ≡ b ∷ rest
    → begins_filler b ≡ true → IsFiller filler → IsNumberText width text → IsInRange 1 most_side width
    → place ≡ past at filler text → place < 65536
    → width_on at (filler ++ (text ++ after)) ≡ height_on width place after
width_read width at place b filler text after rest is begins f number range e lt =
    let read = filled_read begins_filler Size most_side width at place b filler text after rest is f number range begins
    (filler_no_digit b begins) e lt in
    rw read refl

-- the parts of a header and the rest, grouped to the right
pub grouped : (a b c d e f g rest : List ℕ)
    → (a ++ b ++ c ++ d ++ e ++ f ++ g) ++ rest ≡ a ++ (b ++ (c ++ (d ++ (e ++ (f ++ (g ++ rest))))))
grouped a b c d e f g rest = simp append_assoc

-- what a header says, with the samples after it
abbrev head_after : {width height maxval : ℕ} {header : List ℕ} → IsHeader width height maxval header → List ℕ → Head
head_after {width} {height} {maxval} h samples = record {
  width = width;
  height = height;
  maxval = maxval;
  place = past (past (past 2 h.before_width h.width_text) h.before_height h.height_text) h.before_maxval h.maxval_text
      + 1;
  samples = samples;
}

header_read : (width height maxval : ℕ) (header samples : List ℕ) → (h : IsHeader width height maxval header)
    → head_of (header ++ samples) ≡ Ok (head_after h samples)
header_read width height maxval header samples h =
    let last = h.end ∷ samples in
    let third = h.before_maxval ++ (h.maxval_text ++ last) in
    let second = h.before_height ++ (h.height_text ++ third) in
    let first = h.before_width ++ (h.width_text ++ second) in
    let place₁ = past 2 h.before_width h.width_text in
    let place₂ = past place₁ h.before_height h.height_text in
    let joined : header ++ samples ≡ 80 ∷ 54 ∷ first =
    ap (λ (t : List ℕ). t ++ samples) h.bytes_are
    ∙ ap (λ (t : List ℕ). 80 ∷ 54 ∷ t) (grouped h.before_width h.width_text h.before_height h.height_text
    h.before_maxval h.maxval_text (h.end ∷ []) samples) in
    let long : length header + length samples ≡ suc (suc (length first)) =
    sym (length-append header samples) ∙ ap (λ (t : List ℕ). length t) joined in
    let long₁ = length-append h.before_width (h.width_text ++ second) in
    let long₂ = length-append h.width_text second in
    let long₃ = length-append h.before_height (h.height_text ++ third) in
    let long₄ = length-append h.height_text third in
    let long₅ = length-append h.before_maxval (h.maxval_text ++ last) in
    let long₆ = length-append h.maxval_text last in
    let within : past place₂ h.before_maxval h.maxval_text < 65536 =
    omega (arith, long, long₁, long₂, long₃, long₄, long₅, long₆, h.short) in
    let begins₂ = filler_begins h.before_height h.second_filler in
    let begins₃ = filler_begins h.before_maxval h.third_filler in
    ap head_of joined
    ∙ width_read width 2 place₁ begins₂.0 h.before_width h.width_text second
    (begins₂.1 ++ (h.height_text ++ third))
    (ap (λ (t : List ℕ). t ++ (h.height_text ++ third)) begins₂.2) begins₂.3 h.first_filler h.width_is h.wide refl
    (omega (arith, within))
    ∙ height_read width height place₁ place₂ begins₃.0 h.before_height h.height_text third
    (begins₃.1 ++ (h.maxval_text ++ last))
    (ap (λ (t : List ℕ). t ++ (h.maxval_text ++ last)) begins₃.2) begins₃.3 h.second_filler h.height_is h.high refl
    (omega (arith, within))
    ∙ maxval_read width height maxval place₂ h.end h.before_maxval h.maxval_text samples h.third_filler h.maxval_is
    h.scaled h.end_is within

-- ---- the samples

pixel_taken : (registers maxval n at r g b : ℕ) (colours : List Parts) (rest : List ℕ) → r ≤ maxval → g ≤ maxval
    → b ≤ maxval
    → length (distinct (colours ++ colour_of maxval r g b ∷ [])) ≤ registers
    → pixels registers maxval (suc n) colours at (r ∷ g ∷ b ∷ rest)
    ≡ pixels registers maxval n (colours ++ colour_of maxval r g b ∷ []) (at + 3) rest
pixel_taken registers maxval n at r g b colours rest red green blue few =
    let e₁ = passes r maxval red in
    let e₂ = passes g maxval green in
    let e₃ = passes b maxval blue in
    let e₄ : nat_le (length (distinct (colours ++ colour_of maxval r g b ∷ []))) registers ≡ true =
    passes _ registers few in
    simp (e₁, e₂, e₃, e₄)

pixels_read : (registers maxval n at : ℕ) (colours : List Parts) (samples : List ℕ) → length samples ≡ 3 * n
    → AllByRecursion (λ v. v ≤ maxval) samples
    → length (distinct (colours ++ colours_of_samples maxval samples)) ≤ registers
    → pixels registers maxval n colours at samples ≡ Ok (colours ++ colours_of_samples maxval samples)
pixels_read registers maxval zero at colours [] whole within few = ap Ok (sym (append-nil colours))
pixels_read registers maxval zero at colours (r ∷ rest) whole within few = absurd (omega (arith, whole))
pixels_read registers maxval (suc n) at colours [] whole within few = absurd (omega (arith, whole))
pixels_read registers maxval (suc n) at colours (r ∷ []) whole within few = absurd (omega (arith, whole))
pixels_read registers maxval (suc n) at colours (r ∷ g ∷ []) whole within few = absurd (omega (arith, whole))
pixels_read registers maxval (suc n) at colours (r ∷ g ∷ b ∷ rest) whole within few =
    let c = colour_of maxval r g b in
    let more = colours_of_samples maxval rest in
    let joined = append_assoc colours (c ∷ []) more in
    let fewer : length (distinct ((colours ++ c ∷ []) ++ more)) ≤ registers =
    subst (λ (t : List Parts). length (distinct t) ≤ registers) (sym joined) few in
    pixel_taken registers maxval n at r g b colours rest within.0 within.1.0 within.1.1.0
    (le_trans (distinct_grows (colours ++ c ∷ []) more) fewer)
    ∙ pixels_read registers maxval n (at + 3) (colours ++ c ∷ []) rest (omega (arith, whole)) within.1.1.1 fewer
    ∙ ap Ok joined

-- ---- the whole

pub file_read : (registers : ℕ) (picture : PictureValue) (bytes : List ℕ) → IsPictureFile registers picture bytes
    → ppm_read registers bytes ≡ Ok picture
file_read registers picture bytes f =
    let h = head_after f.header_is f.samples in
    ap (ppm_read registers) f.bytes_are
    ∙ ap (λ (r : Result Head PpmFault). r >>= picture_after registers)
    (header_read f.width f.height f.maxval f.header f.samples f.header_is)
    ∙ ap (λ (r : Result (List Parts) PpmFault). r >>= (λ colours. Ok (picture_of registers f.width f.height colours)))
    (pixels_read registers f.maxval (f.width * f.height) h.place [] f.samples f.whole f.within f.few)
    ∙ ap Ok (sym f.picture_is)
