-- What the bytes to come make of a header, step by step.
use Rattle.std.proofs.Common.{◌≡◌, ◌==◌, ◌+◌, ◌-◌, ◌*◌, ◌<◌, ◌≤◌, ℕ, Bool, true, false, ◌&&◌, nat_lt, Result, Ok, Err}
use Rattle.std.proofs.Common.{List, [], ◌∷◌, refl, arith}
use Rattle.std.specs.Prelude.{IfOk, if◌then◌else◌}
use Rattle.std.proofs.lemmas.Bool.Decides.{nat_tests}
use Rattle.sixel_grammar.specs.Bytes.{is_digit}
use Rattle.sixel_model.specs.Pictures.{is_side, most_side}
use Rattle.sixel_ppm.specs.PpmReading.{◌>>=◌, Head, after_digits, after_filler, at_fault, begins_filler}
use Rattle.sixel_ppm.specs.PpmReading.{filled_number, head_of, height_on, is_space, judged, maxval_on, most_header}
use Rattle.sixel_ppm.specs.PpmReading.{wanted}
use Rattle.sixel_ppm.specs.PpmHeader.{after_field, digits_on, ended, ends, fault_of, grown, header_after}
use Rattle.sixel_ppm.specs.PpmHeader.{header_in, header_on, in_filler, is_within, most_of, refused, step, step_in}
use Rattle.sixel_ppm.specs.declared.ppm.PpmFault.{PpmFault}
use Rattle.sixel_ppm.specs.declared.ppm.PpmReason.{PpmReason}
use Rattle.sixel_ppm.specs.declared.ppm.PpmReason.TheVariants as reason
use Rattle.sixel_ppm.specs.declared.ppm.PpmReason.TheVariants.{Header, Short, Size}
use Rattle.sixel_ppm.specs.declared.ppm.header.Field.{Field}
use Rattle.sixel_ppm.specs.declared.ppm.header.Field.TheVariants.{Width, Height, Maxval}
use Rattle.sixel_ppm.specs.declared.ppm.header.Part.{Part}
use Rattle.sixel_ppm.specs.declared.ppm.header.Part.TheVariants.{Letter, Version, AfterVersion, Filler, Comment}
use Rattle.sixel_ppm.specs.declared.ppm.header.Part.TheVariants.{Digits}
use Rattle.sixel_ppm.specs.declared.ppm.header.Next.{Next}
use Rattle.sixel_ppm.specs.declared.ppm.header.Next.TheVariants.{More, Whole, Refused}
use Rattle.sixel_ppm.specs.declared.ppm.header.Progress.{Progress}

abbrev InHeader : Progress → Type 0
InHeader p = nat_lt p.place most_header ≡ true

-- a byte past the limit is refused
past_limit : (part : Part) (p : Progress) (b : ℕ) (rest : List ℕ) → nat_lt p.place most_header ≡ false
    → header_in part p (b ∷ rest) ≡ header_after (refused p) rest
past_limit Letter p b rest i = rw i refl
past_limit Version p b rest i = rw i refl
past_limit AfterVersion p b rest i = rw i refl
past_limit (Filler field) p b rest i = rw (i, i) refl
past_limit (Comment field) p b rest i = rw (i, i) refl
past_limit (Digits field) p b rest i = rw (i, i) refl

abbrev Reads : Part → Progress → ℕ → List ℕ → Type 0
Reads part p b rest = header_in part p (b ∷ rest) ≡ header_after (step_in part p b) rest

letter_read : (p : Progress) (b : ℕ) (rest : List ℕ) (v : Bool) → InHeader p → (b == 80) ≡ v → Reads Letter p b rest
letter_read p b rest true i e = rw (i, e) refl
letter_read p b rest false i e = rw (i, e) refl

version_read : (p : Progress) (b : ℕ) (rest : List ℕ) (v : Bool) → InHeader p → (b == 54) ≡ v → Reads Version p b rest
version_read p b rest true i e = rw (i, e) refl
version_read p b rest false i e = rw (i, e) refl

-- the first byte of filler
begun_read : (p : Progress) (b : ℕ) (rest : List ℕ) (u v : Bool) → InHeader p → is_space b ≡ u → (b == 35) ≡ v
    → header_in AfterVersion p (b ∷ rest) ≡ header_after (in_filler p Width b) rest
begun_read p b rest true v i s h = rw (i, s) refl
begun_read p b rest false true i s h = rw (i, s, h) refl
begun_read p b rest false false i s h = rw (i, s, h) refl

filler_read : (field : Field) (p : Progress) (b : ℕ) (rest : List ℕ) (u v : Bool) → InHeader p → is_digit b ≡ false
    → is_space b ≡ u
    → (b == 35) ≡ v → Reads (Filler field) p b rest
filler_read Width p b rest true v i d s h = rw (i, d, s) refl
filler_read Height p b rest true v i d s h = rw (i, d, s) refl
filler_read Maxval p b rest true v i d s h = rw (i, d, s) refl
filler_read Width p b rest false true i d s h = rw (i, d, s, h) refl
filler_read Height p b rest false true i d s h = rw (i, d, s, h) refl
filler_read Maxval p b rest false true i d s h = rw (i, d, s, h) refl
filler_read Width p b rest false false i d s h = simp (i, d, s, h)
filler_read Height p b rest false false i d s h = simp (i, d, s, h)
filler_read Maxval p b rest false false i d s h = simp (i, d, s, h)

first_digit_read : (field : Field) (p : Progress) (b : ℕ) (rest : List ℕ) → InHeader p → is_digit b ≡ true
    → is_space b ≡ false
    → (b == 35) ≡ false → Reads (Filler field) p b rest
first_digit_read Width p b rest i d s h = simp (i, s, h, d)
first_digit_read Height p b rest i d s h = simp (i, s, h, d)
first_digit_read Maxval p b rest i d s h = simp (i, s, h, d)

comment_read : (field : Field) (p : Progress) (b : ℕ) (rest : List ℕ) (v : Bool) → InHeader p → (b == 10) ≡ v
    → Reads (Comment field) p b rest
comment_read Width p b rest true i e = rw (i, e) refl
comment_read Height p b rest true i e = rw (i, e) refl
comment_read Maxval p b rest true i e = rw (i, e) refl
comment_read Width p b rest false i e = rw (i, e) refl
comment_read Height p b rest false i e = rw (i, e) refl
comment_read Maxval p b rest false i e = rw (i, e) refl

-- the filler before the height, and before the maximum
height_begun : (p : Progress) (b : ℕ) (rest : List ℕ) (u v : Bool) → InHeader p → is_space b ≡ u → (b == 35) ≡ v
    → height_on p.width p.place (b ∷ rest) ≡ header_after (in_filler p Height b) rest
height_begun p b rest true v i s h = simp (i, s)
height_begun p b rest false true i s h = simp (i, s, h)
height_begun p b rest false false i s h = simp (i, s, h)

maxval_begun : (p : Progress) (b : ℕ) (rest : List ℕ) (u v : Bool) → InHeader p → is_space b ≡ u → (b == 35) ≡ v
    → maxval_on p.width p.height p.place (b ∷ rest) ≡ header_after (in_filler p Maxval b) rest
maxval_begun p b rest true v i s h = simp (i, s)
maxval_begun p b rest false true i s h = simp (i, s, h)
maxval_begun p b rest false false i s h = simp (i, s, h)

-- ---- numbers

above : (v most : ℕ) → most < v → is_within v most ≡ false
above v most lt = grind (arith, nat_tests)

most_is_small : (field : Field) → most_of field ≤ most_side
most_is_small Width = omega arith
most_is_small Height = omega arith
most_is_small Maxval = omega arith

judged_alike : (field : Field) (p : Progress) (x : Result (ℕ × List ℕ) PpmFault) (n m : ℕ × ℕ × List ℕ)
    → is_within n.0 (most_of field) ≡ false → is_within m.0 (most_of field) ≡ false
    → ((x >>= (λ end. if is_within n.0 (most_of field) then Ok n else at_fault (fault_of field) p.first)) >>=
    after_field field p)
    ≡ ((x >>= (λ end. if is_within m.0 (most_of field) then Ok m else at_fault (fault_of field) p.first)) >>=
    after_field field p)
judged_alike field p (Ok end) n m e f = rw (e, f) refl
judged_alike field p (Err fault) n m e f = refl

-- two values above all limits give the same result, whatever digits follow
large_alike : (field : Field) (p : Progress) (v w at : ℕ) (rest : List ℕ) → most_side < v → most_side < w
    → digits_on field p (after_digits v at rest) ≡ digits_on field p (after_digits w at rest)
large_alike field p v w at [] a b =
    judged_alike field p (wanted (ends field) at []) (v, at, []) (w, at, [])
    (above v (most_of field) (omega (arith, most_is_small field)))
    (above w (most_of field) (omega (arith, most_is_small field)))
large_alike field p v w at (d ∷ rest) a b =
    elim (nat_lt at most_header && is_digit d)
    as (λ t. digits_on field p (if t then after_digits (10 * v + (d - 48)) (at + 1) rest else (v, at, d ∷ rest))
    ≡ digits_on field p (if t then after_digits (10 * w + (d - 48)) (at + 1) rest else (w, at, d ∷ rest))) [
      | true ↦ large_alike field p (10 * v + (d - 48)) (10 * w + (d - 48)) (at + 1) rest (omega arith) (omega arith)
      | false ↦ judged_alike field p (wanted (ends field) at (d ∷ rest)) (v, at, d ∷ rest) (w, at, d ∷ rest)
          (above v (most_of field) (omega (arith, most_is_small field)))
          (above w (most_of field) (omega (arith, most_is_small field)))
    ]

-- a value and the one stored for it give the same result
grown_alike : (field : Field) (p : Progress) (v b at : ℕ) (rest : List ℕ) (t : Bool) → nat_lt most_side v ≡ t
    → digits_on field p (after_digits (10 * v + (b - 48)) at rest)
    ≡ digits_on field p (after_digits (grown v b) at rest)
grown_alike field p v b at rest true t =
    let lt : most_side < v = grind (arith, nat_tests) in
    rw t (large_alike field p (10 * v + (b - 48)) v at rest (omega arith) lt)
grown_alike field p v b at rest false t = rw t refl

digit_read : (field : Field) (p : Progress) (b : ℕ) (rest : List ℕ) → InHeader p → is_digit b ≡ true
    → Reads (Digits field) p b rest
digit_read Width p b rest i d = simp (i, d)
    (grown_alike Width p p.value b (p.place + 1) rest (nat_lt most_side p.value) refl)
digit_read Height p b rest i d = simp (i, d)
    (grown_alike Height p p.value b (p.place + 1) rest (nat_lt most_side p.value) refl)
digit_read Maxval p b rest i d = simp (i, d)
    (grown_alike Maxval p p.value b (p.place + 1) rest (nat_lt most_side p.value) refl)

-- a byte that isn't allowed after the last digit
unended_read : (field : Field) (p : Progress) (b : ℕ) (rest : List ℕ) → InHeader p → is_digit b ≡ false
    → ends field b ≡ false
    → Reads (Digits field) p b rest
unended_read Width p b rest i d e = simp (i, d, e)
unended_read Height p b rest i d e = simp (i, d, e)
unended_read Maxval p b rest i d e = simp (i, d, e)

-- the byte after the last digit
ended_read : (field : Field) (p : Progress) (b : ℕ) (rest : List ℕ) (u : Bool) → InHeader p → is_digit b ≡ false
    → ends field b ≡ true
    → is_within p.value (most_of field) ≡ u → Reads (Digits field) p b rest
ended_read Width p b rest false i d e w = simp (i, d, e, w)
ended_read Height p b rest false i d e w = simp (i, d, e, w)
ended_read Maxval p b rest false i d e w = simp (i, d, e, w)
ended_read Width p b rest true i d e w =
    simp (i, d, e, w) (simp (i, e) at
    (height_begun (record p { width = p.value }) b rest (is_space b) (b == 35) i refl refl))
ended_read Height p b rest true i d e w =
    simp (i, d, e, w) (simp (i, e) at
    (maxval_begun (record p { height = p.value }) b rest (is_space b) (b == 35) i refl refl))
ended_read Maxval p b rest true i d e w = simp (i, d, e, w)

digits_read : (field : Field) (p : Progress) (b : ℕ) (rest : List ℕ) (u v : Bool) → InHeader p → is_digit b ≡ u
    → ends field b ≡ v
    → Reads (Digits field) p b rest
digits_read field p b rest true v i d e = digit_read field p b rest i d
digits_read field p b rest false false i d e = unended_read field p b rest i d e
digits_read field p b rest false true i d e = ended_read field p b rest (is_within p.value (most_of field)) i d e refl

-- ---- any byte

filler_or_digit : (field : Field) (p : Progress) (b : ℕ) (rest : List ℕ) (u : Bool) → InHeader p → is_digit b ≡ u
    → Reads (Filler field) p b rest
filler_or_digit field p b rest true i d =
    let s : is_space b ≡ false = grind (arith, nat_tests) in
    let h : (b == 35) ≡ false = grind (arith, nat_tests) in
    first_digit_read field p b rest i d s h
filler_or_digit field p b rest false i d = filler_read field p b rest (is_space b) (b == 35) i d refl refl

read_in : (part : Part) (p : Progress) (b : ℕ) (rest : List ℕ) → InHeader p → Reads part p b rest
read_in Letter p b rest i = letter_read p b rest (b == 80) i refl
read_in Version p b rest i = version_read p b rest (b == 54) i refl
read_in AfterVersion p b rest i = begun_read p b rest (is_space b) (b == 35) i refl refl
read_in (Filler field) p b rest i = filler_or_digit field p b rest (is_digit b) i refl
read_in (Comment field) p b rest i = comment_read field p b rest (b == 10) i refl
read_in (Digits field) p b rest i = digits_read field p b rest (is_digit b) (ends field b) i refl refl

read_by : (p : Progress) (b : ℕ) (rest : List ℕ) (u : Bool) → nat_lt p.place most_header ≡ u
    → header_on p (b ∷ rest) ≡ header_after (step p b) rest
read_by p b rest true i = simp i (read_in p.part p b rest i)
read_by p b rest false i = simp i (past_limit p.part p b rest i)

-- reading a byte and the rest is a step and then reading the rest
pub header_read : (p : Progress) (b : ℕ) (rest : List ℕ) → header_on p (b ∷ rest) ≡ header_after (step p b) rest
header_read p b rest = read_by p b rest (nat_lt p.place most_header) refl

-- ---- the offsets of a header

-- a step that continues the header moves by one byte
abbrev pub MovesByOne : Progress → Next → Type 0
MovesByOne p (More q) = q.place ≡ p.place + 1
MovesByOne p (Whole header) = Unit {0}
MovesByOne p (Refused reason place) = Unit {0}

one_of : (p : Progress) (t : Bool) (x y : Next) → MovesByOne p x → MovesByOne p y → MovesByOne p (if t then x else y)
one_of p true x y h k = h
one_of p false x y h k = k

filler_moves : (p : Progress) (field : Field) (b : ℕ) → MovesByOne p (in_filler p field b)
filler_moves p field b = one_of p (is_space b) _ _ refl (one_of p (b == 35) _ _ refl tt)

ended_moves : (p : Progress) (field : Field) (b : ℕ) → MovesByOne p (ended p field b)
ended_moves p Width b = one_of p (is_within p.value most_side) _ _
    (filler_moves (record p { width = p.value }) Height b) tt
ended_moves p Height b = one_of p (is_within p.value most_side) _ _
    (filler_moves (record p { height = p.value }) Maxval b) tt
ended_moves p Maxval b = one_of p (is_within p.value 255) _ _ tt tt

moves_in : (part : Part) (p : Progress) (b : ℕ) → MovesByOne p (step_in part p b)
moves_in Letter p b = one_of p (b == 80) _ _ refl tt
moves_in Version p b = one_of p (b == 54) _ _ refl tt
moves_in AfterVersion p b = filler_moves p Width b
moves_in (Filler field) p b = one_of p (is_digit b) _ _ refl (filler_moves p field b)
moves_in (Comment field) p b = one_of p (b == 10) _ _ refl refl
moves_in (Digits field) p b = one_of p (is_digit b) _ _ refl (one_of p (ends field b) _ _ (ended_moves p field b) tt)

-- a step that continues the header moves by one byte, within the limit
abbrev pub MovesWithin : Progress → Next → Type 0
MovesWithin p (More q) = (q.place ≡ p.place + 1) × (q.place ≤ 65536)
MovesWithin p (Whole header) = Unit {0}
MovesWithin p (Refused reason place) = Unit {0}

within_by : (p : Progress) (x : Next) → p.place < 65536 → MovesByOne p x → MovesWithin p x
within_by p (More q) lt h = (h, omega arith)
within_by p (Whole header) lt h = tt
within_by p (Refused reason place) lt h = tt

step_by : (p : Progress) (b : ℕ) (t : Bool) → nat_lt p.place most_header ≡ t
    → MovesWithin p (if t then step_in p.part p b else refused p)
step_by p b true e = within_by p (step_in p.part p b) (grind (arith, nat_tests)) (moves_in p.part p b)
step_by p b false e = tt

pub step_moves : (p : Progress) (b : ℕ) → MovesWithin p (step p b)
step_moves p b = step_by p b (nat_lt p.place most_header) refl

-- ---- the ranges of a header

pub if_then : {A B : Type 0} (x : Result A PpmFault) (f : A → Result B PpmFault) (P : A → Type 0) (Q : B → Type 0)
    → IfOk x P
    → ((a : A) → P a → IfOk (f a) Q) → IfOk (x >>= f) Q
if_then (Ok a) f P Q p g = g a p
if_then (Err fault) f P Q p g = tt

abbrev StandsWithin : ℕ × List ℕ → Type 0
StandsWithin r = r.0 ≤ 65536

wanted_within : (passes : ℕ → Bool) (at : ℕ) (rest : List ℕ) → IfOk (wanted passes at rest) StandsWithin
wanted_within passes at [] = tt
wanted_within passes at (b ∷ rest) =
    elim (nat_lt at most_header) as (λ t. nat_lt at most_header ≡ t
    → IfOk (if t && passes b then Ok (at + 1, rest) else at_fault Header at) StandsWithin) [
      | true ↦ (λ e. elim (passes b) as (λ u. IfOk (if u then Ok (at + 1, rest) else at_fault Header at) StandsWithin)
          [ true ↦ (let lt : at < 65536 = grind (arith, nat_tests) in omega arith) | false ↦ tt ])
      | false ↦ (λ e. tt)
    ] refl

abbrev WithinMost : ℕ → ℕ × ℕ × List ℕ → Type 0
WithinMost most n = is_within n.0 most ≡ true

judged_within : (ends : ℕ → Bool) (reason : PpmReason) (most first : ℕ) (n : ℕ × ℕ × List ℕ)
    → IfOk (judged ends reason most first n) (WithinMost most)
judged_within ends reason most first n =
    if_then (wanted ends n.1 n.2) _ StandsWithin (WithinMost most) (wanted_within ends n.1 n.2)
    (λ end h. elim (is_within n.0 most) as (λ t. is_within n.0 most ≡ t
    → IfOk (if t then Ok n else at_fault reason first) (WithinMost most))
    [ true ↦ (λ e. e) | false ↦ (λ e. tt) ] refl)

filled_within : (ends : ℕ → Bool) (reason : PpmReason) (most at : ℕ) (rest : List ℕ)
    → IfOk (filled_number ends reason most at rest) (WithinMost most)
filled_within ends reason most at rest =
    if_then (wanted begins_filler at rest) _ StandsWithin (WithinMost most) (wanted_within begins_filler at rest)
    (λ begun h. if_then (wanted is_digit (after_filler false at rest).0 (after_filler false at rest).1) _
    StandsWithin (WithinMost most)
    (wanted_within is_digit (after_filler false at rest).0 (after_filler false at rest).1)
    (λ digit k. judged_within ends reason most (after_filler false at rest).0
    (after_digits 0 (after_filler false at rest).0 (after_filler false at rest).1)))

-- the header's numbers are in range, and it ends within its limit
pub record IsInRange (h : Head) : Type 0 where
  pub wide : is_side h.width ≡ true
  pub high : is_side h.height ≡ true
  pub scaled : is_within h.maxval 255 ≡ true
  pub within : h.place ≤ 65536

pub head_in_range : (bytes : List ℕ) → IfOk (head_of bytes) IsInRange
head_in_range bytes =
    if_then (wanted (λ b. b == 80) 0 bytes) _ StandsWithin IsInRange (wanted_within (λ b. b == 80) 0 bytes) (λ letter h.
    if_then (wanted (λ b. b == 54) letter.0 letter.1) _ StandsWithin IsInRange
    (wanted_within (λ b. b == 54) letter.0 letter.1) (λ digit h.
    if_then (filled_number begins_filler Size most_side digit.0 digit.1) _ (WithinMost most_side) IsInRange
    (filled_within begins_filler Size most_side digit.0 digit.1) (λ width w.
    if_then (filled_number begins_filler Size most_side width.1 width.2) _ (WithinMost most_side) IsInRange
    (filled_within begins_filler Size most_side width.1 width.2) (λ height k.
    if_then (filled_number is_space reason.Maxval 255 height.1 height.2) _ (WithinMost 255) IsInRange
    (filled_within is_space reason.Maxval 255 height.1 height.2) (λ maxval m.
    if_then (wanted is_space maxval.1 maxval.2) _ StandsWithin IsInRange (wanted_within is_space maxval.1 maxval.2)
    (λ end e.
    record { wide = w; high = k; scaled = m; within = e }))))))
