-- Which inputs are empty: those whose end is refused at offset 0.
use Rattle.std.proofs.Common.{◌≡◌, ◌==◌, ◌&&◌, ◌||◌, ◌+◌, ◌-◌, ◌*◌, ◌<◌, ◌≤◌, ℕ, suc, zero, Bool, true, false, List, []}
use Rattle.std.proofs.Common.{◌∷◌, ◌++◌, length, nat_le, nat_lt, refl, subst, arith, inl, inr, ap, sym, ◌∙◌, eqb-true}
use Rattle.std.proofs.Common.{not}
use Rattle.std.specs.Prelude.{◌↔◌, if◌then◌else◌, slice_get, take, Result, Ok, Err, IfErr}
use Rattle.std.proofs.lemmas.Bool.{and_from, and_parts, cond_both}
use Rattle.std.proofs.lemmas.Bool.Decides.{nat_tests}
use Rattle.sixel_grammar.specs.Bytes.{is_body, is_digit, separator}
use Rattle.sixel_grammar.specs.Document.{most_bytes}
use Rattle.sixel_grammar.specs.Faults.{Form, NothingYet, Introducing, Parameters, LastSeparator, NoCommand}
use Rattle.sixel_grammar.specs.Faults.{RepeatNumber, RasterFields, ColourFields, Terminating, Ended, IsFaultOf}
use Rattle.sixel_grammar.specs.Faults.{IsRefused, IsTooLong, Stops, refusal}
use Rattle.sixel_grammar.specs.declared.fault.Fault.{Fault}
use Rattle.sixel_grammar.specs.declared.fault.Reason.{Reason}
use Rattle.sixel_grammar.specs.declared.fault.Reason.TheVariants.{BadByte, BadRepeat, FieldCount, NotSixel}
use Rattle.sixel_grammar.specs.declared.fault.Reason.TheVariants.{NumberTooLarge}
use Rattle.sixel_model.specs.declared.colour.Parts.{Parts}
use Rattle.sixel_ppm.specs.PpmReading.{◌>>=◌, Head, after_digits, after_filler, at_fault, begins_filler, colour_of}
use Rattle.sixel_ppm.specs.PpmReading.{coloured, distinct, filled_number, head_of, is_space, judged, most_header}
use Rattle.sixel_ppm.specs.PpmReading.{pixels, ppm_read, sample, wanted}
use Rattle.sixel_ppm.specs.declared.ppm.PpmFault.{PpmFault}
use Rattle.sixel_ppm.specs.declared.ppm.PpmFault.TheVariants.{Format}
use Rattle.sixel_ppm.specs.declared.ppm.PpmReason.{PpmReason}
use Rattle.sixel_ppm.specs.declared.ppm.PpmReason.TheVariants as ppm
use Rattle.sixel_model.specs.Pictures.{PictureValue, most_side}
use Rattle.sixel_report.specs.declared.fault.RunFault.TheVariants.{Grammar, Ppm}
use Rattle.sixel_messages.specs.Formats.{is_early_end, is_of_empty}

-- ---- sixel text

one_of : (t : Bool) (x y : Reason) → is_early_end x ≡ false → is_early_end y ≡ false
    → is_early_end (if t then x else y) ≡ false
one_of true x y p q = p
one_of false x y p q = q

-- no byte is refused as the end of the input
byte_is_no_end : (form : Form) (b : ℕ) → is_early_end (refusal form b) ≡ false
byte_is_no_end NothingYet b = refl
byte_is_no_end Introducing b = refl
byte_is_no_end (Parameters eight ns n) b = one_of (is_digit b) NumberTooLarge NotSixel refl refl
byte_is_no_end (LastSeparator eight ns) b = one_of (is_digit b || (b == separator)) FieldCount NotSixel refl refl
byte_is_no_end NoCommand b = refl
byte_is_no_end (RepeatNumber n) b = one_of (is_digit b) NumberTooLarge BadRepeat refl refl
byte_is_no_end (RasterFields ns n) b =
    one_of (is_digit b) NumberTooLarge (if b == separator then FieldCount else BadByte) refl
    (one_of (b == separator) FieldCount BadByte refl refl)
byte_is_no_end (ColourFields ns n) b =
    one_of (is_digit b) NumberTooLarge (if (b == separator) || is_body b then FieldCount else BadByte) refl
    (one_of ((b == separator) || is_body b) FieldCount BadByte refl refl)
byte_is_no_end Terminating b = refl
byte_is_no_end Ended b = refl

none_of : (bytes : List ℕ) (fault : Fault)
    → Stops (take fault.place bytes) (slice_get bytes fault.place) fault.reason
    → is_early_end fault.reason ≡ true → fault.place ≡ 0 → bytes ≡ []
none_of [] fault stops early at = refl
none_of (b ∷ more) fault stops early at =
    let here : Stops (take 0 (b ∷ more)) (slice_get (b ∷ more) 0) fault.reason =
    subst (λ n. Stops (take n (b ∷ more)) (slice_get (b ∷ more) n) fault.reason) at stops in
    let no : false ≡ true = sym (byte_is_no_end here.0 b) ∙ sym (ap is_early_end here.4) ∙ early in cc

no_place : (fault : Fault) → IsRefused [] fault → fault.place ≡ 0
no_place fault r = let within : fault.place ≤ 0 = r.longest.within in omega arith

all_of : (fault : Fault) → IsRefused [] fault → is_of_empty (Grammar fault) ≡ true
all_of fault r =
    let at = no_place fault r in
    let here : Stops (take 0 []) (slice_get [] 0) fault.reason =
    subst (λ n. Stops (take n []) (slice_get [] n) fault.reason) at r.refuses in
    and_from (is_early_end fault.reason) (fault.place == 0) (ap is_early_end here.1) (ap (λ n. n == 0) at)

refused_empty : (bytes : List ℕ) (fault : Fault) → IsRefused bytes fault
    → is_of_empty (Grammar fault) ≡ true ↔ bytes ≡ []
refused_empty bytes fault r = (
  (λ is. let parts = and_parts (is_early_end fault.reason) (fault.place == 0) is in
      none_of bytes fault r.refuses parts.0 (eqb-true fault.place 0 parts.1)),
  (λ none. all_of fault (subst (λ b. IsRefused b fault) none r)),
)

long_empty : (bytes : List ℕ) (fault : Fault) → IsTooLong bytes fault
    → is_of_empty (Grammar fault) ≡ true ↔ bytes ≡ []
long_empty bytes fault t = (
  (λ is. let no : false ≡ true = subst (λ f. is_of_empty (Grammar f) ≡ true) t.fault_is is in cc),
  (λ none. let no : most_bytes < 0 = subst (λ (b : List ℕ). most_bytes < length b) none t.long in
      absurd (omega arith)),
)

pub empty_text : (bytes : List ℕ) (fault : Fault) → IsFaultOf bytes fault
    → is_of_empty (Grammar fault) ≡ true ↔ bytes ≡ []
empty_text bytes fault (inl t) = long_empty bytes fault t
empty_text bytes fault (inr r) = refused_empty bytes fault r

-- ---- picture files

-- the fault isn't that of an empty input
abbrev IsLater : PpmFault → Type 0
IsLater (Format reason place) = is_of_empty (Ppm reason place) ≡ false
IsLater _ = Unit {0}

-- what was read is so, or it has a later fault
abbrev Reads : {A : Type 0} → (A → Type 0) → Result A PpmFault → Type 0
Reads P (Ok a) = P a
Reads P (Err fault) = IsLater fault

both : {A B : Type 0} (x : Result A PpmFault) (f : A → Result B PpmFault) (P : A → Type 0) (Q : B → Type 0)
    → Reads P x → ((a : A) → P a → Reads Q (f a)) → Reads Q (x >>= f)
both (Ok a) f P Q h g = g a h
both (Err fault) f P Q h g = h

not_zero : (n : ℕ) → 0 < n → (n == 0) ≡ false
not_zero n lt = grind (arith, nat_tests)

later : (reason : PpmReason) (place : ℕ) → 0 < place → IsLater (Format reason place)
later ppm.Short place lt = not_zero place lt
later _ place lt = refl

abbrev Goes : ℕ × List ℕ → Type 0
Goes n = 0 < n.0

abbrev Counts : ℕ × ℕ × List ℕ → Type 0
Counts n = 0 < n.1

abbrev Any : {A : Type 0} → A → Type 0
Any a = Unit {0}

wanted_later : (passes : ℕ → Bool) (at : ℕ) (rest : List ℕ) → 0 < at → Reads Goes (wanted passes at rest)
wanted_later passes at [] lt = later ppm.Short at lt
wanted_later passes at (b ∷ rest) lt =
    cond_both (nat_lt at most_header && passes b) (Ok (at + 1, rest)) (at_fault ppm.Header at) (Reads Goes)
    (λ _. omega arith) (λ _. later ppm.Header at lt)

filler_later : (comment : Bool) (at : ℕ) (bytes : List ℕ) → 0 < at → Goes (after_filler comment at bytes)
filler_later comment at [] lt = lt
filler_later false at (b ∷ rest) lt =
    cond_both (nat_lt at most_header && is_space b) (after_filler false (at + 1) rest)
    (if nat_lt at most_header && (b == 35) then after_filler true (at + 1) rest else (at, b ∷ rest)) Goes
    (λ _. filler_later false (at + 1) rest (omega arith))
    (λ _. cond_both (nat_lt at most_header && (b == 35)) (after_filler true (at + 1) rest) (at, b ∷ rest) Goes
    (λ _. filler_later true (at + 1) rest (omega arith)) (λ _. lt))
filler_later true at (b ∷ rest) lt =
    cond_both (nat_lt at most_header) (after_filler (not (b == 10)) (at + 1) rest) (at, b ∷ rest) Goes
    (λ _. filler_later (not (b == 10)) (at + 1) rest (omega arith)) (λ _. lt)

digits_later : (value at : ℕ) (bytes : List ℕ) → 0 < at → Counts (after_digits value at bytes)
digits_later value at [] lt = lt
digits_later value at (b ∷ rest) lt =
    cond_both (nat_lt at most_header && is_digit b) (after_digits (10 * value + (b - 48)) (at + 1) rest)
    (value, at, b ∷ rest) Counts (λ _. digits_later (10 * value + (b - 48)) (at + 1) rest (omega arith)) (λ _. lt)

judged_later : (ends : ℕ → Bool) (reason : PpmReason) (most first : ℕ) (n : ℕ × ℕ × List ℕ) → 0 < first → Counts n
    → Reads Counts (judged ends reason most first n)
judged_later ends reason most first n lt counts =
    both (wanted ends n.1 n.2) _ Goes Counts (wanted_later ends n.1 n.2 counts)
    (λ end h. cond_both (nat_le 1 n.0 && nat_le n.0 most) (Ok n) (at_fault reason first) (Reads Counts)
    (λ _. counts) (λ _. later reason first lt))

filled_later : (ends : ℕ → Bool) (reason : PpmReason) (most at : ℕ) (rest : List ℕ) → 0 < at
    → Reads Counts (filled_number ends reason most at rest)
filled_later ends reason most at rest lt =
    let f = after_filler false at rest in
    let g = filler_later false at rest lt in
    both (wanted begins_filler at rest) _ Goes Counts (wanted_later begins_filler at rest lt)
    (λ begun h. both (wanted is_digit f.0 f.1) _ Goes Counts (wanted_later is_digit f.0 f.1 g)
    (λ digit k. judged_later ends reason most f.0 (after_digits 0 f.0 f.1) g (digits_later 0 f.0 f.1 g)))

abbrev Begins : Head → Type 0
Begins h = 0 < h.place

-- a first byte that isn't that of a header is no end
letter_later : (b : ℕ) (rest : List ℕ) → Reads Goes (wanted (λ c. c == 80) 0 (b ∷ rest))
letter_later b rest =
    cond_both (nat_lt 0 most_header && (b == 80)) (Ok (0 + 1, rest)) (at_fault ppm.Header 0) (Reads Goes)
    (λ _. omega arith) (λ _. refl)

head_later : (b : ℕ) (rest : List ℕ) → Reads Begins (head_of (b ∷ rest))
head_later b rest =
    both (wanted (λ c. c == 80) 0 (b ∷ rest)) _ Goes Begins (letter_later b rest) (λ letter h.
    both (wanted (λ c. c == 54) letter.0 letter.1) _ Goes Begins
    (wanted_later (λ c. c == 54) letter.0 letter.1 h) (λ digit h.
    both (filled_number begins_filler ppm.Size most_side digit.0 digit.1) _ Counts Begins
    (filled_later begins_filler ppm.Size most_side digit.0 digit.1 h) (λ width h.
    both (filled_number begins_filler ppm.Size most_side width.1 width.2) _ Counts Begins
    (filled_later begins_filler ppm.Size most_side width.1 width.2 h) (λ height h.
    both (filled_number is_space ppm.Maxval 255 height.1 height.2) _ Counts Begins
    (filled_later is_space ppm.Maxval 255 height.1 height.2 h) (λ maxval h.
    both (wanted is_space maxval.1 maxval.2) _ Goes Begins
    (wanted_later is_space maxval.1 maxval.2 h) (λ end e. e))))))

sample_later : (maxval at : ℕ) (rest : List ℕ) → 0 < at → Reads Any (sample maxval at rest)
sample_later maxval at [] lt = later ppm.Short at lt
sample_later maxval at (v ∷ rest) lt =
    cond_both (nat_le v maxval) (Ok (v, rest)) (at_fault ppm.Sample at) (Reads Any)
    (λ _. tt) (λ _. later ppm.Sample at lt)

coloured_later : (registers at : ℕ) (colours : List Parts) (colour : Parts) → 0 < at
    → Reads Any (coloured registers at colours colour)
coloured_later registers at colours colour lt =
    cond_both (nat_le (length (distinct (colours ++ colour ∷ []))) registers) (Ok (colours ++ colour ∷ []))
    (at_fault ppm.TooManyColours at) (Reads Any) (λ _. tt) (λ _. later ppm.TooManyColours at lt)

pixels_later : (registers maxval n at : ℕ) (colours : List Parts) (rest : List ℕ) → 0 < at
    → Reads Any (pixels registers maxval n colours at rest)
pixels_later registers maxval zero at colours [] lt = tt
pixels_later registers maxval zero at colours (b ∷ rest) lt = later ppm.Trailing at lt
pixels_later registers maxval (suc n) at colours rest lt =
    both (sample maxval at rest) _ Any Any (sample_later maxval at rest lt) (λ red _.
    both (sample maxval (at + 1) red.1) _ Any Any (sample_later maxval (at + 1) red.1 (omega arith)) (λ green _.
    both (sample maxval (at + 2) green.1) _ Any Any (sample_later maxval (at + 2) green.1 (omega arith)) (λ blue _.
    both (coloured registers at colours (colour_of maxval red.0 green.0 blue.0)) _ Any Any
    (coloured_later registers at colours (colour_of maxval red.0 green.0 blue.0) lt) (λ more _.
    pixels_later registers maxval n (at + 3) more blue.1 (omega arith)))))

read_later : (registers b : ℕ) (rest : List ℕ) → Reads Any (ppm_read registers (b ∷ rest))
read_later registers b rest =
    both (head_of (b ∷ rest)) _ Begins Any (head_later b rest) (λ h lt.
    both (pixels registers h.maxval (h.width * h.height) [] h.place h.samples) _ Any Any
    (pixels_later registers h.maxval (h.width * h.height) h.place [] h.samples lt) (λ colours _. tt))

-- the fault is that of an empty input
abbrev IsFirst : PpmFault → Type 0
IsFirst (Format reason place) = is_of_empty (Ppm reason place) ≡ true
IsFirst _ = Unit {0}

pub empty_picture : (registers : ℕ) (bytes : List ℕ) (reason : PpmReason) (place : ℕ)
    → ppm_read registers bytes ≡ at_fault reason place
    → is_of_empty (Ppm reason place) ≡ true ↔ bytes ≡ []
empty_picture registers [] reason place e = (
  (λ is. refl),
  (λ none. subst (λ (r : Result PictureValue PpmFault). IfErr r IsFirst) e refl),
)
empty_picture registers (b ∷ rest) reason place e = (
  (λ is. let no : IsLater (Format reason place) =
      subst (λ (r : Result PictureValue PpmFault). Reads Any r) e (read_later registers b rest) in
      let wrong : false ≡ true = sym no ∙ is in cc),
  (λ none. cc),
)
