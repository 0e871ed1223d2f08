-- What a scan knows of the bytes before a string.
use Rattle.std.proofs.Common.{◌≡◌, ◌≢◌, ◌∙◌, ◌↔◌, ℕ, ◌+◌, ◌-◌, ◌≤◌, ◌⊎◌, inl, inr, Bool, true, false, Some}
use Rattle.std.proofs.Common.{None, List, [], ◌∷◌, ◌++◌, length, take, ◌==◌}
use Rattle.std.proofs.Common.{refl, sym, ap, subst, append_assoc, arith}
use Rattle.std.proofs.lemmas.Bool.{cond-true, cond-false}
use Rattle.std.proofs.lemmas.List.{append-nil, drop_at, length-append, same_from_push, take-append-le, take_at}
use Rattle.sixel_scan.specs.declared.answer.Scanned.{Scanned}
use Rattle.sixel_scan.specs.declared.opening.Opening.{Opening}
use Rattle.sixel_scan.specs.declared.opening.Opening.TheVariants.{Nothing, Escape, Letter, Control, Introduced}
use Rattle.sixel_scan.specs.declared.scanner.Scanner.{Scanner}
use Rattle.sixel_scan.specs.declared.scanner.Stage.{Stage}
use Rattle.sixel_scan.specs.declared.scanner.Stage.TheVariants.{Text, Escaped}
use Rattle.sixel_scan.specs.Marking.{EndAs, IsPlain, Knows, KnowsAt, KnowsWith}
use Rattle.sixel_scan.specs.Openings.{Follows, after_parameters, wraps}
use Rattle.sixel_scan.specs.Scanning.{AreInside, NoneBegins}
use Rattle.sixel_scan.specs.Strings.{EndsWith, OpensAt, is_parameter}
use Rattle.sixel_scan.specs.Wrapping.{AreMarked, IsMarked, IsWrapped}
use Rattle.sixel_scan.proofs.OpeningLemmas.{bool_cases}

-- ---- how bytes end

same_last : (bytes first : List ℕ) (b c : ℕ) → bytes ++ b ∷ [] ≡ first ++ c ∷ [] → (bytes ≡ first) × (b ≡ c)
same_last bytes first b c e = same_from_push bytes first b c e

-- ESC P at the end is an ESC before a P
letter_last : (bytes first : List ℕ) (b : ℕ) → bytes ++ b ∷ [] ≡ first ++ 27 ∷ 80 ∷ []
    → EndsWith bytes (27 ∷ []) × (b ≡ 80)
letter_last bytes first b e =
    let same = same_last bytes (first ++ 27 ∷ []) b 80 (e ∙ sym (append_assoc first (27 ∷ []) (80 ∷ []))) in
    ((first, same.0), same.1)

-- with a byte that makes no ESC P, and is no ESC
pub plain_next : (bytes : List ℕ) (b : ℕ) → b ≢ 27 → (EndsWith bytes (27 ∷ []) → b ≢ 80) → IsPlain (bytes ++ b ∷ [])
plain_next bytes b no_escape no_letter w = elim w [
  | inl e ↦ no_escape (same_last bytes e.0 b 27 e.1).1
  | inr p ↦ let l = letter_last bytes p.0 b p.1 in no_letter l.0 l.1
]

pub plain_more : (bytes : List ℕ) (b : ℕ) → IsPlain bytes → b ≢ 27 → IsPlain (bytes ++ b ∷ [])
plain_more bytes b plain no_escape = plain_next bytes b no_escape (λ e. absurd (plain (inl e)))

-- no bytes
nil_not : (first : List ℕ) (b : ℕ) (more : List ℕ) → [] ≡ first ++ b ∷ more → ⊥
nil_not [] b more e = cc
nil_not (x ∷ first) b more e = cc

pub plain_none : IsPlain []
plain_none w = elim w [
  | inl e ↦ nil_not e.0 27 [] e.1
  | inr p ↦ nil_not p.0 27 (80 ∷ []) p.1
]

-- bytes in which no string ends
pub plain_inside : (eight : Bool) (bytes run : List ℕ) → IsPlain bytes → AreInside eight run
    → IsPlain (bytes ++ run)
plain_inside eight bytes [] plain inside = subst IsPlain (sym (append-nil bytes)) plain
plain_inside eight bytes (b ∷ run) plain inside =
    subst IsPlain (append_assoc bytes (b ∷ []) run)
    (plain_inside eight (bytes ++ b ∷ []) run (plain_more bytes b plain inside.0.no_escape) inside.1)

-- the last of some bytes
pub last_or_none : (run : List ℕ) → (run ≡ []) ⊎ ((first : List ℕ) × (b : ℕ) × (run ≡ first ++ b ∷ []))
last_or_none [] = inl refl
last_or_none (x ∷ run) = elim (last_or_none run) [
  | inl none ↦ inr ([], x, ap (λ (t : List ℕ). x ∷ t) none)
  | inr some ↦ inr (x ∷ some.0, some.1, ap (λ (t : List ℕ). x ∷ t) some.2)
]

-- an ESC, with which an opening begins if P and `q` follow
escape_opens : (eight : Bool) (first : List ℕ) → OpensAt eight (first ++ 27 ∷ 80 ∷ 113 ∷ []) (length first)
escape_opens eight first = (
  27 ∷ 80 ∷ 113 ∷ [],
  [],
  record {
    by_eight = false;
    allowed = λ on. let wrong : false ≡ true = on in absurd (cc);
    parameters = [];
    parameters_are = tt;
    opening_is = refl;
  },
  drop_at first (27 ∷ 80 ∷ 113 ∷ []) (length first) refl,
)

-- text in which no opening begins doesn't end with ESC
no_last_escape : {eight : Bool} (run first : List ℕ) → NoneBegins eight run → run ≡ first ++ 27 ∷ [] → ⊥
no_last_escape {eight} run first none is =
    none (length first) (80 ∷ 113 ∷ []) (omega (arith, ap length is, length-append first (27 ∷ [])))
    (subst (λ (t : List ℕ). OpensAt eight t (length first))
    (sym (append_assoc first (27 ∷ []) (80 ∷ 113 ∷ []))
    ∙ ap (λ (t : List ℕ). t ++ 80 ∷ 113 ∷ []) (sym is))
    (escape_opens eight first))

-- nor with ESC P
no_last_letter : {eight : Bool} (run first : List ℕ) → NoneBegins eight run → run ≡ first ++ 27 ∷ 80 ∷ [] → ⊥
no_last_letter {eight} run first none is =
    none (length first) (113 ∷ []) (omega (arith, ap length is, length-append first (27 ∷ 80 ∷ [])))
    (subst (λ (t : List ℕ). OpensAt eight t (length first))
    (sym (append_assoc first (27 ∷ 80 ∷ []) (113 ∷ []))
    ∙ ap (λ (t : List ℕ). t ++ 113 ∷ []) (sym is))
    (escape_opens eight first))

-- the bytes before the last of the text don't end with ESC, if P follows
escape_before : {eight : Bool} (bytes : List ℕ) {run : List ℕ} (first : List ℕ) (b : ℕ) → IsPlain bytes → NoneBegins eight run
    → run ≡ first ++ b ∷ [] → EndsWith (bytes ++ first) (27 ∷ []) → b ≢ 80
escape_before {eight} bytes {run} first b plain none is ends letter = elim (last_or_none first) [
  | inl empty ↦
      plain (inl (
        ends.0,
        sym (append-nil bytes) ∙ ap (λ (t : List ℕ). bytes ++ t) (sym empty) ∙ ends.1,
      ))
  | inr last ↦
      let escape_last =
      same_last (bytes ++ last.0) ends.0 last.1 27
      (append_assoc bytes last.0 (last.1 ∷ []) ∙ ap (λ (t : List ℕ). bytes ++ t) (sym last.2) ∙ ends.1) in
      no_last_letter run last.0 none
      (is ∙ ap (λ (t : List ℕ). t ++ b ∷ []) last.2 ∙ append_assoc last.0 (last.1 ∷ []) (b ∷ [])
      ∙ ap (λ (x : ℕ). last.0 ++ x ∷ b ∷ []) escape_last.1 ∙ ap (λ (x : ℕ). last.0 ++ 27 ∷ x ∷ []) letter)
]

-- text in which no opening begins
pub plain_text : {eight : Bool} (bytes run : List ℕ) → IsPlain bytes → NoneBegins eight run
    → IsPlain (bytes ++ run)
plain_text {eight} bytes run plain none = elim (last_or_none run) [
  | inl empty ↦ subst IsPlain (sym (ap (λ (t : List ℕ). bytes ++ t) empty ∙ append-nil bytes)) plain
  | inr last ↦
      subst IsPlain
      (append_assoc bytes last.0 (last.1 ∷ []) ∙ ap (λ (t : List ℕ). bytes ++ t) (sym last.2))
      (plain_next (bytes ++ last.0) last.1
      (λ e. no_last_escape run last.0 none (last.2 ∙ ap (λ (x : ℕ). last.0 ++ x ∷ []) e))
      (escape_before bytes last.0 last.1 plain none last.2))
]

-- ---- with one more byte

-- bytes that end as an opening says don't end with ESC, unless it is one
ends_otherwise : (opening : Opening) (bytes : List ℕ) → EndAs (Text opening) bytes → EndsWith bytes (27 ∷ [])
    → opening ≡ Escape
ends_otherwise Nothing bytes ends e = absurd (ends (inl e))
ends_otherwise Escape bytes ends e = refl
ends_otherwise Letter bytes ends e =
    let same = same_last (ends.0 ++ 27 ∷ []) e.0 80 27
    (append_assoc ends.0 (27 ∷ []) (80 ∷ []) ∙ sym ends.1 ∙ e.1) in
    absurd (let wrong : (let n : ℕ = 80 in n) ≡ 27 = same.1 in omega (arith, wrong))
ends_otherwise Control bytes ends e = absurd (ends (inl e))
ends_otherwise Introduced bytes ends e = absurd (ends (inl e))

pub follows_plain : (opening : Opening) (bytes : List ℕ) (b : ℕ) → EndAs (Text opening) bytes
    → (b ≢ 27) × (opening ≡ Escape → b ≢ 80) → IsPlain (bytes ++ b ∷ [])
follows_plain opening bytes b ends other =
    plain_next bytes b other.0 (λ e. other.1 (ends_otherwise opening bytes ends e))

ends_letter : (opening : Opening) (bytes : List ℕ) (b : ℕ) → EndAs (Text opening) bytes → opening ≡ Escape → b ≡ 80
    → EndsWith (bytes ++ b ∷ []) (27 ∷ 80 ∷ [])
ends_letter opening bytes b ends is letter =
    let e = subst (λ (o : Opening). EndAs (Text o) bytes) is ends in (
      e.0,
      ap (λ (t : List ℕ). t ++ b ∷ []) e.1 ∙ append_assoc e.0 (27 ∷ []) (b ∷ [])
          ∙ ap (λ (x : ℕ). e.0 ++ 27 ∷ x ∷ []) letter,
    )

ends_next : (opening next : Opening) (bytes : List ℕ) (b : ℕ) → EndAs (Text opening) bytes
    → Follows opening b (Some next) → EndAs (Text next) (bytes ++ b ∷ [])
ends_next opening Nothing bytes b ends f = follows_plain opening bytes b ends f
ends_next opening Escape bytes b ends f = (bytes, ap (λ (x : ℕ). bytes ++ x ∷ []) f)
ends_next opening Letter bytes b ends f = ends_letter opening bytes b ends f.0 f.1
ends_next opening Control bytes b ends f = follows_plain opening bytes b ends f
ends_next opening Introduced bytes b ends f = follows_plain opening bytes b ends f

-- ---- what the scan knows

-- with more bytes, what stands before the string is the same
same_before : {wrapped : Bool} {opened : ℕ} (bytes more : List ℕ) → opened ≤ length bytes
    → (wrapped ≡ true) ↔ IsWrapped (take opened bytes) → (wrapped ≡ true) ↔ IsWrapped (take opened (bytes ++ more))
same_before {wrapped} {opened} bytes more within marked =
    subst (λ (t : List ℕ). (wrapped ≡ true) ↔ IsWrapped t) (sym (take-append-le opened bytes more within)) marked

pub knows_more : {stage : Stage} {read opened : ℕ} {wrapped : Bool} {bytes : List ℕ} (now : Stage) (more : List ℕ)
    → EndAs now (bytes ++ more) → KnowsWith stage read opened wrapped bytes
    → KnowsWith now (read + length more) opened wrapped (bytes ++ more)
knows_more {bytes} now more ends k = record {
  read_is = omega (arith, k.read_is, length-append bytes more);
  within = omega (arith, k.within, length-append bytes more);
  ends = ends;
  marked = same_before bytes more k.within k.marked;
}

pub knows_byte : {stage : Stage} {read opened : ℕ} {wrapped : Bool} {bytes : List ℕ} (now : Stage) (b : ℕ)
    → EndAs now (bytes ++ b ∷ []) → KnowsWith stage read opened wrapped bytes
    → KnowsWith now (read + 1) opened wrapped (bytes ++ b ∷ [])
knows_byte now b ends k = knows_more now (b ∷ []) ends k

-- the stage is known
pub knows_at : (s : Scanner) {stage : Stage} {bytes : List ℕ} → s.stage ≡ stage → Knows s bytes → KnowsAt s stage bytes
knows_at s {bytes} is k = subst (λ (t : Stage). KnowsAt s t bytes) is k

-- a byte that begins nothing
pub holds_on : {opening : Opening} {read opened : ℕ} {wrapped : Bool} {bytes : List ℕ} (next : Opening) (b : ℕ)
    → Follows opening b (Some next) → KnowsWith (Text opening) read opened wrapped bytes
    → KnowsWith (Text next) (read + 1) opened wrapped (bytes ++ b ∷ [])
holds_on {opening} {bytes} next b f k = knows_byte (Text next) b (ends_next opening next bytes b k.ends f) k

wraps_so : (opening : Opening) (bytes : List ℕ) → EndAs (Text opening) bytes → (wraps opening ≡ true) ↔ IsWrapped bytes
wraps_so Nothing bytes ends = (λ on. absurd (let wrong : false ≡ true = on in cc), λ w. absurd (ends w))
wraps_so Escape bytes ends = (λ on. inl ends, λ w. refl)
wraps_so Letter bytes ends = (λ on. inr ends, λ w. refl)
wraps_so Control bytes ends = (λ on. absurd (let wrong : false ≡ true = on in cc), λ w. absurd (ends w))
wraps_so Introduced bytes ends = (λ on. absurd (let wrong : false ≡ true = on in cc), λ w. absurd (ends w))

-- a byte that may begin an opening
pub holds_anew : {opening : Opening} {read opened : ℕ} {wrapped : Bool} {bytes : List ℕ} (next : Opening) (b : ℕ)
    → Follows opening b (Some next) → KnowsWith (Text opening) read opened wrapped bytes
    → KnowsWith (Text next) (read + 1) read (wraps opening) (bytes ++ b ∷ [])
holds_anew {opening} {read} {bytes} next b f k = record {
  read_is = omega (arith, k.read_is, length-append bytes (b ∷ []));
  within = omega (arith, k.read_is, length-append bytes (b ∷ []));
  ends = ends_next opening next bytes b k.ends f;
  marked = subst (λ (t : List ℕ). (wraps opening ≡ true) ↔ IsWrapped t)
      (sym (take_at bytes (b ∷ []) read (sym k.read_is))) (wraps_so opening bytes k.ends);
}

-- the string ended before its last ESC, which may begin an opening
pub knows_escape : {read opened : ℕ} {wrapped : Bool} {bytes : List ℕ} (k : KnowsWith Escaped read opened wrapped bytes)
    → KnowsWith (Text Escape) read (read - 1) false bytes
knows_escape {read} {bytes} k =
    let string = k.ends.0 in
    let one : length bytes ≡ length string + 1 =
    omega (arith, ap length k.ends.1, length-append string (27 ∷ [])) in
    let at : length string ≡ read - 1 = omega (arith, one, k.read_is) in
    record {
      read_is = k.read_is;
      within = omega (arith, k.read_is);
      ends = (string, k.ends.1);
      marked = subst (λ (t : List ℕ). (false ≡ true) ↔ IsWrapped t)
          (sym (ap (take (read - 1)) k.ends.1 ∙ take_at string (27 ∷ []) (read - 1) at))
          (λ on. absurd (cc), λ w. absurd (k.ends.2 w));
    }

-- after the byte that follows an ESC in a string
pub plain_terminated : {read opened : ℕ} {wrapped : Bool} {bytes : List ℕ} (b : ℕ) → b ≡ 92
    → KnowsWith Escaped read opened wrapped bytes → IsPlain (bytes ++ b ∷ [])
plain_terminated {bytes} b is k =
    plain_next bytes b (λ e. absurd (omega (arith, is, e))) (λ ends e. absurd (omega (arith, is, e)))

pub new_knows : KnowsWith (Text Nothing) 0 0 false []
new_knows = record {
  read_is = refl;
  within = omega arith;
  ends = plain_none;
  marked = (λ on. absurd (let wrong : false ≡ true = on in cc), λ w. absurd (plain_none w));
}

-- ---- what the next byte makes of an opening

pub follows_final : {opening : Opening} (b : ℕ) → (b ≢ 27) × (opening ≡ Escape → b ≢ 80)
    → Follows opening b (after_parameters b)
follows_final {opening} b other = elim (bool_cases (is_parameter b)) [
  | inl on ↦ subst (Follows opening b) (sym (cond-true (is_parameter b) (Some Introduced) _ on)) other
  | inr off ↦
      subst (Follows opening b) (sym (cond-false (is_parameter b) (Some Introduced) _ off))
      (elim (bool_cases (b == 113)) [
        | inl q ↦ subst (Follows opening b) (sym (cond-true (b == 113) None (Some Nothing) q)) other
        | inr other_byte ↦ subst (Follows opening b) (sym (cond-false (b == 113) None (Some Nothing) other_byte)) other
      ])
]

-- ---- reports

pub marked_report : {stage : Stage} {read opened : ℕ} {wrapped : Bool} {bytes : List ℕ} (scanned : Scanned)
    → scanned.place ≡ opened → scanned.wrapped ≡ wrapped → KnowsWith stage read opened wrapped bytes
    → IsMarked bytes scanned
marked_report {bytes} scanned place says k = record {
  within = omega (arith, place, k.within);
  marked = rw (place, says) k.marked;
}

pub marked_more : (bytes more : List ℕ) (reports : List Scanned) → AreMarked bytes reports
    → AreMarked (bytes ++ more) reports
marked_more bytes more [] are = tt
marked_more bytes more (r ∷ reports) are = (
  record {
    within = omega (arith, are.0.within, length-append bytes more);
    marked = same_before bytes more are.0.within are.0.marked;
  },
  marked_more bytes more reports are.1,
)
