-- The strings of a stream.
use Rattle.std.proofs.Common.{◌≡◌, ◌∙◌, ℕ, zero, suc, ◌+◌, ◌<◌, ◌≤◌, Bool, List, [], ◌∷◌, ◌++◌, length, drop}
use Rattle.std.proofs.Common.{inl, inr, refl, sym, ap, ap₂, subst, append_assoc, arith}
use Rattle.std.proofs.lemmas.List.{append-nil, append_cancel_left, drop_at, length-append}
use Rattle.sixel_scan.specs.Prefixes.{Resumes}
use Rattle.sixel_scan.specs.Strings.{AreStrings, AreStringsFrom, HasNoOpening, IsNext, IsString, Opens, OpensAt}
use Rattle.sixel_scan.specs.Strings.{StringAt}
use Rattle.sixel_scan.proofs.EndLemmas.{end_once, ending_of}
use Rattle.sixel_scan.proofs.ListLemmas.{no_less}
use Rattle.sixel_scan.proofs.OpeningLemmas.{nothing_opens, opening_once, opening_or_none, opening_some}

-- ---- past a byte at which no opening begins

none_past : (eight : Bool) (b : ℕ) (bytes : List ℕ) (n : ℕ) → (Opens eight (b ∷ bytes) → ⊥)
    → HasNoOpening eight bytes → OpensAt eight (b ∷ bytes) n → ⊥
none_past eight b bytes zero none h o = none o
none_past eight b bytes (suc n) none h o = h n o

least_past : (eight : Bool) (b : ℕ) (text bytes : List ℕ) (n : ℕ) → (Opens eight (b ∷ bytes) → ⊥)
    → ((m : ℕ) → m < length text → OpensAt eight bytes m → ⊥) → n < length (b ∷ text) → OpensAt eight (b ∷ bytes) n → ⊥
least_past eight b text bytes zero none h lt o = none o
least_past eight b text bytes (suc n) none h lt o = h n (omega arith) o

next_past : (eight : Bool) (offset b : ℕ) (s : StringAt) (bytes rest : List ℕ) → (Opens eight (b ∷ bytes) → ⊥)
    → IsNext eight (offset + 1) s bytes rest → IsNext eight offset s (b ∷ bytes) rest
next_past eight offset b s bytes rest none k = record {
  text = b ∷ k.text;
  bytes_are = ap (λ (t : List ℕ). b ∷ t) k.bytes_are;
  place = omega (arith, k.place);
  string = k.string;
  least = λ n lt o. least_past eight b k.text bytes n none k.least lt o;
}

pub pass : (eight : Bool) (offset b : ℕ) (bytes : List ℕ) (strings : List StringAt) → (Opens eight (b ∷ bytes) → ⊥)
    → AreStringsFrom eight (offset + 1) strings bytes → AreStringsFrom eight offset strings (b ∷ bytes)
pass eight offset b bytes [] none h = λ n o. none_past eight b bytes n none h o
pass eight offset b bytes (s ∷ more) none h = (h.0, next_past eight offset b s bytes h.0 none h.1, h.2)

-- ---- a string at the beginning

pub begin_with : {eight : Bool} (offset : ℕ) {string rest : List ℕ} (more : List StringAt) → IsString eight string rest
    → AreStringsFrom eight (offset + length string) more rest
    → AreStringsFrom eight offset (record { place = offset; bytes = string } ∷ more) (string ++ rest)
begin_with offset {string} {rest} more is h = (
  rest,
  record {
    text = [];
    bytes_are = refl;
    place = omega arith;
    string = is;
    least = λ n lt o. absurd (omega (arith, lt));
  },
  h,
)

-- ---- each stream has strings

some_length : (xs : List ℕ) → (xs ≡ [] → ⊥) → 0 < length xs
some_length [] some = absurd (some refl)
some_length (x ∷ xs) some = omega arith

pub none_in_nothing : (eight : Bool) (n : ℕ) → OpensAt eight [] n → ⊥
none_in_nothing eight zero o = nothing_opens eight o
none_in_nothing eight (suc n) o = nothing_opens eight o

split_string : (bytes opening rest body left : List ℕ) → bytes ≡ opening ++ rest → rest ≡ body ++ left
    → (opening ++ body) ++ left ≡ bytes
split_string bytes opening rest body left e f =
    append_assoc opening body left ∙ ap (λ (t : List ℕ). opening ++ t) (sym f) ∙ sym e

rest_shorter : (b fuel : ℕ) (bytes opening rest body left : List ℕ) → b ∷ bytes ≡ opening ++ rest
    → rest ≡ body ++ left → (opening ≡ [] → ⊥) → length (b ∷ bytes) ≤ suc fuel → length left ≤ fuel
rest_shorter b fuel bytes opening rest body left e f some le =
    let whole : length (b ∷ bytes) ≡ length opening + length rest = ap length e ∙ length-append opening rest in
    let parts : length rest ≡ length body + length left = ap length f ∙ length-append body left in
    omega (arith, whole, parts, some_length opening some, le)

strings_within : (eight : Bool) (fuel offset : ℕ) (bytes : List ℕ) → length bytes ≤ fuel
    → (strings : List StringAt) × AreStringsFrom eight offset strings bytes
strings_within eight fuel offset [] le = ([], none_in_nothing eight)
strings_within eight zero offset (b ∷ bytes) le = absurd (omega (arith, le))
strings_within eight (suc fuel) offset (b ∷ bytes) le = elim (opening_or_none eight b bytes) [
  | inl o ↦
      let e = ending_of eight o.1 in
      let string = o.0 ++ e.body in
      let tail = strings_within eight fuel (offset + length string) e.rest
      (rest_shorter b fuel bytes o.0 o.1 e.body e.rest o.3 e.bytes_are (opening_some o.2) le) in (
        record { place = offset; bytes = string } ∷ tail.0,
        subst (AreStringsFrom eight offset (record { place = offset; bytes = string } ∷ tail.0))
            (split_string (b ∷ bytes) o.0 o.1 e.body e.rest o.3 e.bytes_are)
            (begin_with offset tail.0
            (record { opening = o.0; body = e.body; opens = o.2; ends = e.ends; bytes_are = refl }) tail.1),
      )
  | inr none ↦
      let tail = strings_within eight fuel (offset + 1) bytes (omega (arith, le)) in
      (tail.0, pass eight offset b bytes tail.0 none tail.1)
]

pub strings_from : (eight : Bool) (offset : ℕ) (bytes : List ℕ)
    → (strings : List StringAt) × AreStringsFrom eight offset strings bytes
strings_from eight offset bytes = strings_within eight (length bytes) offset bytes (omega arith)

pub some_strings : (eight : Bool) (bytes : List ℕ) → (strings : List StringAt) × AreStrings eight strings bytes
some_strings eight bytes = strings_from eight 0 bytes

-- ---- no stream has two lists of strings

next_split : {eight : Bool} {offset : ℕ} {s : StringAt} {bytes rest : List ℕ} (k : IsNext eight offset s bytes rest)
    → bytes ≡ k.text ++ (s.bytes ++ rest)
next_split {s} {rest} k = k.bytes_are ∙ append_assoc k.text s.bytes rest

next_drop : {eight : Bool} {offset : ℕ} {s : StringAt} {bytes rest : List ℕ} (k : IsNext eight offset s bytes rest)
    → drop (length k.text) bytes ≡ s.bytes ++ rest
next_drop {s} {rest} k =
    ap (drop (length k.text)) (next_split k) ∙ drop_at k.text (s.bytes ++ rest) (length k.text) refl

string_split : {eight : Bool} {bytes rest : List ℕ} (s : IsString eight bytes rest)
    → bytes ++ rest ≡ s.opening ++ (s.body ++ rest)
string_split {rest} s = ap (λ (t : List ℕ). t ++ rest) s.bytes_are ∙ append_assoc s.opening s.body rest

next_opens : {eight : Bool} {offset : ℕ} {s : StringAt} {bytes rest : List ℕ} (k : IsNext eight offset s bytes rest)
    → OpensAt eight bytes (length k.text)
next_opens {rest} k = (
  k.string.opening,
  k.string.body ++ rest,
  k.string.opens,
  next_drop k ∙ string_split k.string,
)

string_once : {eight : Bool} {a b c d : List ℕ} → IsString eight a b → IsString eight c d → a ++ b ≡ c ++ d
    → (a ≡ c) × (b ≡ d)
string_once {a} {b} {c} {d} p q e =
    let parts : p.opening ++ (p.body ++ b) ≡ q.opening ++ (q.body ++ d) =
    sym (string_split p) ∙ e ∙ string_split q in
    let opening : p.opening ≡ q.opening =
    opening_once (p.body ++ b) (q.body ++ d) p.opens q.opens parts in
    let after : p.body ++ b ≡ q.body ++ d =
    append_cancel_left q.opening (p.body ++ b) (q.body ++ d)
    (sym (ap (λ (t : List ℕ). t ++ (p.body ++ b)) opening) ∙ parts) in
    let body : p.body ≡ q.body = end_once p.ends q.ends after in
    let same : a ≡ c =
    p.bytes_are ∙ ap₂ (λ (x y : List ℕ). x ++ y) opening body ∙ sym q.bytes_are in
    (same, append_cancel_left c b d (sym (ap (λ (t : List ℕ). t ++ b) same) ∙ e))

same_texts : {eight : Bool} {offset : ℕ} {s t : StringAt} {bytes a b : List ℕ} (k : IsNext eight offset s bytes a)
    (l : IsNext eight offset t bytes b) → length k.text ≡ length l.text
same_texts k l =
    no_less (length k.text) (length l.text) (λ lt. l.least (length k.text) lt (next_opens k))
    (λ lt. k.least (length l.text) lt (next_opens l))

next_once : {eight : Bool} {offset : ℕ} {s t : StringAt} {bytes a b : List ℕ} → IsNext eight offset s bytes a
    → IsNext eight offset t bytes b → (s ≡ t) × (a ≡ b)
next_once {s} {t} {bytes} {a} {b} k l =
    let long = same_texts k l in
    let after : s.bytes ++ a ≡ t.bytes ++ b =
    sym (next_drop k) ∙ ap (λ (n : ℕ). drop n bytes) long ∙ next_drop l in
    let same = string_once k.string l.string after in
    let place : s.place ≡ t.place = omega (arith, k.place, l.place, long) in
    (ap₂ (λ (n : ℕ) (x : List ℕ). let r : StringAt = record { place = n; bytes = x } in r) place same.0, same.1)

pub strings_once : (eight : Bool) (offset : ℕ) (first second : List StringAt) (bytes : List ℕ)
    → AreStringsFrom eight offset first bytes → AreStringsFrom eight offset second bytes → first ≡ second
strings_once eight offset [] [] bytes p q = refl
strings_once eight offset [] (t ∷ others) bytes p q = absurd (p (length q.1.text) (next_opens q.1))
strings_once eight offset (s ∷ more) [] bytes p q = absurd (q (length p.1.text) (next_opens p.1))
strings_once eight offset (s ∷ more) (t ∷ others) bytes p q =
    let same = next_once p.1 q.1 in
    let after : AreStringsFrom eight (t.place + length t.bytes) more q.0 =
    subst (λ (r : List ℕ). AreStringsFrom eight (t.place + length t.bytes) more r) same.1
    (subst (λ (x : StringAt). AreStringsFrom eight (x.place + length x.bytes) more p.0) same.0 p.2) in
    ap₂ (λ (x : StringAt) (xs : List StringAt). x ∷ xs) same.0
    (strings_once eight (t.place + length t.bytes) more others q.0 after q.2)

pub one_list : (eight : Bool) (first second : List StringAt) (bytes : List ℕ) → AreStrings eight first bytes
    → AreStrings eight second bytes → first ≡ second
one_list eight first second bytes p q = strings_once eight 0 first second bytes p q

-- ---- a scan that goes on

pub resumes_more : (eight : Bool) (told : List StringAt) (bytes : List ℕ) (offset : ℕ) (held piece : List ℕ)
    → Resumes eight told bytes offset held → Resumes eight told (bytes ++ piece) offset (held ++ piece)
resumes_more eight told bytes offset held piece r =
    λ found more h.
    subst (AreStringsFrom eight 0 (told ++ found)) (sym (append_assoc bytes piece more))
    (r found (piece ++ more) (subst (AreStringsFrom eight offset found) (append_assoc held piece more) h))

pub resumes_past : (eight : Bool) (told : List StringAt) (bytes : List ℕ) (offset b : ℕ) (held : List ℕ)
    → ((more : List ℕ) → Opens eight (b ∷ (held ++ more)) → ⊥) → Resumes eight told bytes offset (b ∷ held)
    → Resumes eight told bytes (offset + 1) held
resumes_past eight told bytes offset b held none r =
    λ found more h. r found more (pass eight offset b (held ++ more) found (none more) h)

-- past a string
pub resumes_after : (eight : Bool) (told : List StringAt) (bytes : List ℕ) (offset : ℕ) (string held : List ℕ)
    → ((more : List ℕ) → IsString eight string (held ++ more)) → Resumes eight told bytes offset (string ++ held)
    → Resumes eight (told ++ record { place = offset; bytes = string } ∷ []) bytes (offset + length string) held
resumes_after eight told bytes offset string held is r =
    λ found more h. subst (λ (t : List StringAt). AreStringsFrom eight 0 t (bytes ++ more))
    (sym (append_assoc told (record { place = offset; bytes = string } ∷ []) found))
    (r (record { place = offset; bytes = string } ∷ found) more
    (subst (AreStringsFrom eight offset (record { place = offset; bytes = string } ∷ found))
    (sym (append_assoc string held more)) (begin_with offset found (is more) h)))

-- at the end of the stream
pub resumes_to_end : (eight : Bool) (told found : List StringAt) (bytes : List ℕ) (offset : ℕ) (held : List ℕ)
    → Resumes eight told bytes offset held → AreStringsFrom eight offset found held
    → AreStrings eight (told ++ found) bytes
resumes_to_end eight told found bytes offset held r h =
    subst (AreStrings eight (told ++ found)) (append-nil bytes)
    (r found [] (subst (AreStringsFrom eight offset found) (sym (append-nil held)) h))
