-- Openings.
use Rattle.std.proofs.Common.{◌≡◌, ◌≢◌, ◌∙◌, ℕ, ◌⊎◌, inl, inr, Bool, true, false, IsTrue, List, [], ◌∷◌, ◌++◌}
use Rattle.std.proofs.Common.{refl, sym, ap, subst, append_assoc, arith}
use Rattle.std.proofs.lemmas.Bool.{cases_eq}
use Rattle.std.proofs.lemmas.Bool.Decides.{nat_tests}
use Rattle.sixel_grammar.specs.Bytes.{introducer}
use Rattle.sixel_scan.specs.Scanning.{BeginsNone}
use Rattle.sixel_scan.specs.Strings.{AreParameters, IsOpening, Opens, is_parameter}
use Rattle.sixel_scan.proofs.ListLemmas.{heads_differ}

-- ---- digits and `;`, and then `q`

pub record HasFinal (bytes : List ℕ) : Type 0 where
  pub parameters : List ℕ
  pub parameters_are : AreParameters parameters
  pub rest : List ℕ
  pub bytes_are : bytes ≡ parameters ++ 113 ∷ rest

pub final_not_parameter : (b : ℕ) → is_parameter b ≡ true → b ≢ 113
final_not_parameter b is e = grind (arith, nat_tests)

final_less_by : (p : ℕ) (bytes parameters rest : List ℕ) → p ≢ 113 → AreParameters parameters
    → p ∷ bytes ≡ parameters ++ 113 ∷ rest → HasFinal bytes
final_less_by p bytes [] rest ne are e = absurd (ne (cc))
final_less_by p bytes (q ∷ parameters) rest ne are e =
    record { parameters = parameters; parameters_are = are.1; rest = rest; bytes_are = cc }

final_less : (p : ℕ) (bytes : List ℕ) → p ≢ 113 → HasFinal (p ∷ bytes) → HasFinal bytes
final_less p bytes ne h = final_less_by p bytes h.parameters h.rest ne h.parameters_are h.bytes_are

-- past digits and `;`
pub final_past : (parameters bytes : List ℕ) → AreParameters parameters → HasFinal (parameters ++ bytes)
    → HasFinal bytes
final_past [] bytes are h = h
final_past (p ∷ parameters) bytes are h =
    final_past parameters bytes are.1 (final_less p (parameters ++ bytes) (final_not_parameter p are.0) h)

nothing_final : (parameters rest : List ℕ) → [] ≡ parameters ++ 113 ∷ rest → ⊥
nothing_final [] rest e = cc
nothing_final (p ∷ parameters) rest e = cc

pub no_final : HasFinal [] → ⊥
no_final h = nothing_final h.parameters h.rest h.bytes_are

other_final : (b : ℕ) (bytes parameters rest : List ℕ) → is_parameter b ≡ false → b ≢ 113 → AreParameters parameters
    → b ∷ bytes ≡ parameters ++ 113 ∷ rest → ⊥
other_final b bytes [] rest off ne are e = ne (cc)
other_final b bytes (p ∷ parameters) rest off ne are e =
    let same : b ≡ p = cc in
    let both : true ≡ false = sym are.0 ∙ ap is_parameter (sym same) ∙ off in cc

-- a byte that is none of them
pub other_byte : (b : ℕ) (bytes : List ℕ) → is_parameter b ≡ false → b ≢ 113 → HasFinal (b ∷ bytes) → ⊥
other_byte b bytes off ne h = other_final b bytes h.parameters h.rest off ne h.parameters_are h.bytes_are

final_more : (p : ℕ) {bytes : List ℕ} → is_parameter p ≡ true → HasFinal bytes → HasFinal (p ∷ bytes)
final_more p is h = record {
  parameters = p ∷ h.parameters;
  parameters_are = (is, h.parameters_are);
  rest = h.rest;
  bytes_are = ap (λ (t : List ℕ). p ∷ t) h.bytes_are;
}

pub bool_cases : (b : Bool) → (b ≡ true) ⊎ (b ≡ false)
bool_cases true = inl refl
bool_cases false = inr refl

final_by : (b : ℕ) (bytes : List ℕ) → (is_parameter b ≡ true) ⊎ (is_parameter b ≡ false)
    → HasFinal bytes ⊎ (HasFinal bytes → ⊥) → HasFinal (b ∷ bytes) ⊎ (HasFinal (b ∷ bytes) → ⊥)
final_by b bytes parameter next = elim parameter [
  | inl is ↦ elim next [
    | inl h ↦ inl (final_more b is h)
    | inr off ↦ inr (λ h. off (final_less b bytes (final_not_parameter b is) h))
  ]
  | inr is ↦ elim (cases_eq b 113) [
    | inl e ↦ inl (record {
      parameters = [];
      parameters_are = tt;
      rest = bytes;
      bytes_are = ap (λ (x : ℕ). x ∷ bytes) e;
    })
    | inr ne ↦ inr (λ h. other_byte b bytes is ne h)
  ]
]

-- there is such a `q`, or there is none
pub final_or_none : (bytes : List ℕ) → HasFinal bytes ⊎ (HasFinal bytes → ⊥)
final_or_none [] = inr no_final
final_or_none (b ∷ bytes) = final_by b bytes (bool_cases (is_parameter b)) (final_or_none bytes)

same_by : (a b c d : List ℕ) → AreParameters a → AreParameters c → a ++ 113 ∷ b ≡ c ++ 113 ∷ d → a ≡ c
same_by [] b [] d p q e = refl
same_by [] b (y ∷ c) d p q e =
    let same : 113 ≡ y = cc in absurd (final_not_parameter y q.0 (sym same))
same_by (x ∷ a) b [] d p q e =
    let same : x ≡ 113 = cc in absurd (final_not_parameter x p.0 same)
same_by (x ∷ a) b (y ∷ c) d p q e =
    let rest : a ++ 113 ∷ b ≡ c ++ 113 ∷ d = cc in
    let same = same_by a b c d p.1 q.1 rest in cc

-- ---- openings

-- the bytes begin with an introducer, and then come these
pub data Introduces (eight : Bool) (bytes rest : List ℕ) : Type 0 where
  BySeven : bytes ≡ 27 ∷ 80 ∷ rest → Introduces eight bytes rest
  ByEight : IsTrue eight → bytes ≡ 144 ∷ rest → Introduces eight bytes rest

introduces_by : (eight by_eight : Bool) (bytes parameters rest : List ℕ) → (IsTrue by_eight → IsTrue eight)
    → bytes ≡ introducer by_eight ++ parameters ++ 113 ∷ [] ++ rest → Introduces eight bytes (parameters ++ 113 ∷ rest)
introduces_by eight true bytes parameters rest allowed e =
    ByEight (allowed refl) (e ∙ ap (λ (t : List ℕ). 144 ∷ t) (append_assoc parameters (113 ∷ []) rest))
introduces_by eight false bytes parameters rest allowed e =
    BySeven (e ∙ ap (λ (t : List ℕ). 27 ∷ 80 ∷ t) (append_assoc parameters (113 ∷ []) rest))

pub record Opened (eight : Bool) (bytes : List ℕ) : Type 0 where
  pub after : List ℕ
  pub introduces : Introduces eight bytes after
  pub closes : HasFinal after

pub opened_of : (eight : Bool) (bytes : List ℕ) → Opens eight bytes → Opened eight bytes
opened_of eight bytes h =
    let is = h.2 in record {
      after = is.parameters ++ 113 ∷ h.1;
      introduces = introduces_by eight is.by_eight bytes is.parameters h.1 is.allowed
          (h.3 ∙ ap (λ (t : List ℕ). t ++ h.1) is.opening_is);
      closes = record {
        parameters = is.parameters;
        parameters_are = is.parameters_are;
        rest = h.1;
        bytes_are = refl;
      };
    }

pub opens_of : {eight : Bool} {bytes : List ℕ} → Opened eight bytes → Opens eight bytes
opens_of h =
    let f = h.closes in elim h.introduces [
      | BySeven e ↦ (
        introducer false ++ f.parameters ++ 113 ∷ [],
        f.rest,
        record {
          by_eight = false;
          allowed = λ on. absurd (cc);
          parameters = f.parameters;
          parameters_are = f.parameters_are;
          opening_is = refl;
        },
        e ∙ ap (λ (t : List ℕ). 27 ∷ 80 ∷ t) (f.bytes_are ∙ sym (append_assoc f.parameters (113 ∷ []) f.rest)),
      )
      | ByEight on e ↦ (
        introducer true ++ f.parameters ++ 113 ∷ [],
        f.rest,
        record {
          by_eight = true;
          allowed = λ is. on;
          parameters = f.parameters;
          parameters_are = f.parameters_are;
          opening_is = refl;
        },
        e ∙ ap (λ (t : List ℕ). 144 ∷ t) (f.bytes_are ∙ sym (append_assoc f.parameters (113 ∷ []) f.rest)),
      )
    ]

-- ---- where there is none

not_introduced : {eight : Bool} {b : ℕ} (bytes : List ℕ) {rest : List ℕ} → BeginsNone eight b
    → Introduces eight (b ∷ bytes) rest → ⊥
not_introduced bytes none h = elim h [
  | BySeven e ↦ none.no_escape (cc)
  | ByEight on e ↦ none.no_introducer on (cc)
]

pub not_opening : {eight : Bool} {b : ℕ} (bytes : List ℕ) → BeginsNone eight b → Opens eight (b ∷ bytes) → ⊥
not_opening {eight} {b} bytes none h =
    let o = opened_of eight (b ∷ bytes) h in not_introduced bytes none o.introduces

not_by_escape : {eight : Bool} (c : ℕ) (bytes : List ℕ) {rest : List ℕ} → c ≢ 80
    → Introduces eight (27 ∷ c ∷ bytes) rest → ⊥
not_by_escape c bytes {rest} ne h = elim h [
  | BySeven e ↦ ne (cc)
  | ByEight on e ↦ heads_differ 27 144 (c ∷ bytes) rest (λ i. absurd (omega (arith, i))) e
]

-- an ESC that another byte than `P` follows
pub escape_other : (eight : Bool) (c : ℕ) (bytes : List ℕ) → c ≢ 80 → Opens eight (27 ∷ c ∷ bytes) → ⊥
escape_other eight c bytes ne h =
    let o = opened_of eight (27 ∷ c ∷ bytes) h in not_by_escape c bytes ne o.introduces

not_alone : {eight : Bool} {rest : List ℕ} → Introduces eight (27 ∷ []) rest → ⊥
not_alone {rest} h = elim h [
  | BySeven e ↦ (cc)
  | ByEight on e ↦ heads_differ 27 144 [] rest (λ i. absurd (omega (arith, i))) e
]

-- an ESC at the end
pub escape_alone : (eight : Bool) → Opens eight (27 ∷ []) → ⊥
escape_alone eight h = let o = opened_of eight (27 ∷ []) h in not_alone o.introduces

-- what follows an introducer
after_introducer : {eight : Bool} (by_eight : Bool) (bytes : List ℕ) {rest : List ℕ}
    → Introduces eight (introducer by_eight ++ bytes) rest → rest ≡ bytes
after_introducer true bytes {rest} h = elim h [
  | BySeven e ↦ absurd (heads_differ 144 27 bytes (80 ∷ rest) (λ i. absurd (omega (arith, i))) e)
  | ByEight on e ↦ (cc)
]
after_introducer false bytes {rest} h = elim h [
  | BySeven e ↦ (cc)
  | ByEight on e ↦ absurd (heads_differ 27 144 (80 ∷ bytes) rest (λ i. absurd (omega (arith, i))) e)
]

-- an introducer after which no `q` comes in time
pub begun_none : (eight by_eight : Bool) (bytes : List ℕ) → (HasFinal bytes → ⊥)
    → Opens eight (introducer by_eight ++ bytes) → ⊥
begun_none eight by_eight bytes off h =
    let o = opened_of eight (introducer by_eight ++ bytes) h in
    off (subst HasFinal (after_introducer by_eight bytes o.introduces) o.closes)

-- ---- an opening, or none

seven_or_none : (eight : Bool) (c : ℕ) (bytes : List ℕ) → HasFinal bytes ⊎ (HasFinal bytes → ⊥)
    → (c ≡ 80) ⊎ (c ≡ 80 → ⊥) → Opens eight (27 ∷ c ∷ bytes) ⊎ (Opens eight (27 ∷ c ∷ bytes) → ⊥)
seven_or_none eight c bytes ends p = elim p [
  | inl e ↦ elim ends [
    | inl h ↦ inl (opens_of (record {
      after = bytes;
      introduces = BySeven (ap (λ (x : ℕ). 27 ∷ x ∷ bytes) e);
      closes = h;
    }))
    | inr off ↦ inr (subst (λ (x : ℕ). Opens eight (27 ∷ x ∷ bytes) → ⊥) (sym e) (begun_none eight false bytes off))
  ]
  | inr ne ↦ inr (escape_other eight c bytes ne)
]

escape_or_none : (eight : Bool) (bytes : List ℕ) → Opens eight (27 ∷ bytes) ⊎ (Opens eight (27 ∷ bytes) → ⊥)
escape_or_none eight [] = inr (escape_alone eight)
escape_or_none eight (c ∷ bytes) = seven_or_none eight c bytes (final_or_none bytes) (cases_eq c 80)

eight_or_none : (eight : Bool) (bytes : List ℕ) → IsTrue eight → HasFinal bytes ⊎ (HasFinal bytes → ⊥)
    → Opens eight (144 ∷ bytes) ⊎ (Opens eight (144 ∷ bytes) → ⊥)
eight_or_none eight bytes on ends = elim ends [
  | inl h ↦ inl (opens_of (record { after = bytes; introduces = ByEight on refl; closes = h }))
  | inr off ↦ inr (begun_none eight true bytes off)
]

pub data First (eight : Bool) (b : ℕ) : Type 0 where
  IsEscape : b ≡ 27 → First eight b
  IsIntroducer : IsTrue eight → b ≡ 144 → First eight b
  IsNone : BeginsNone eight b → First eight b

first_by : (eight : Bool) (b : ℕ) → (eight ≡ true) ⊎ (eight ≡ false) → (b ≡ 27) ⊎ (b ≡ 27 → ⊥)
    → (b ≡ 144) ⊎ (b ≡ 144 → ⊥) → First eight b
first_by eight b on escape control = elim escape [
  | inl e ↦ IsEscape e
  | inr ne ↦ elim control [
    | inl e ↦ elim on [
      | inl is ↦ IsIntroducer is e
      | inr off ↦ IsNone (record {
        no_escape = ne;
        no_introducer = λ is. let both : true ≡ false = sym is ∙ off in absurd (cc);
      })
    ]
    | inr off ↦ IsNone (record { no_escape = ne; no_introducer = λ is. off })
  ]
]

-- what an opening may begin with
pub first_of_byte : (eight : Bool) (b : ℕ) → First eight b
first_of_byte eight b = first_by eight b (bool_cases eight) (cases_eq b 27) (cases_eq b 144)

opening_by : {eight : Bool} {b : ℕ} (bytes : List ℕ) → First eight b
    → Opens eight (b ∷ bytes) ⊎ (Opens eight (b ∷ bytes) → ⊥)
opening_by {eight} bytes f = elim f [
  | IsEscape e ↦ subst (λ (x : ℕ). Opens eight (x ∷ bytes) ⊎ (Opens eight (x ∷ bytes) → ⊥)) (sym e)
      (escape_or_none eight bytes)
  | IsIntroducer on e ↦ subst (λ (x : ℕ). Opens eight (x ∷ bytes) ⊎ (Opens eight (x ∷ bytes) → ⊥)) (sym e)
      (eight_or_none eight bytes on (final_or_none bytes))
  | IsNone none ↦ inr (not_opening bytes none)
]

pub opening_or_none : (eight : Bool) (b : ℕ) (bytes : List ℕ) → Opens eight (b ∷ bytes) ⊎ (Opens eight (b ∷ bytes) → ⊥)
opening_or_none eight b bytes = opening_by bytes (first_of_byte eight b)

no_bytes : {eight : Bool} {rest : List ℕ} → Introduces eight [] rest → ⊥
no_bytes h = elim h [ BySeven e ↦ (cc) | ByEight on e ↦ (cc) ]

pub nothing_opens : (eight : Bool) → Opens eight [] → ⊥
nothing_opens eight h = let o = opened_of eight [] h in no_bytes o.introduces

-- ---- each opening is one

same_by_introducer : (j k : Bool) (a b c d : List ℕ) → AreParameters a → AreParameters c
    → introducer j ++ a ++ 113 ∷ [] ++ b ≡ introducer k ++ c ++ 113 ∷ [] ++ d
    → introducer j ++ a ++ 113 ∷ [] ≡ introducer k ++ c ++ 113 ∷ []
same_by_introducer true true a b c d p q e =
    let rest : a ++ 113 ∷ [] ++ b ≡ c ++ 113 ∷ [] ++ d = cc in
    ap (λ (t : List ℕ). 144 ∷ t ++ 113 ∷ [])
    (same_by a b c d p q (sym (append_assoc a (113 ∷ []) b) ∙ rest ∙ append_assoc c (113 ∷ []) d))
same_by_introducer true false a b c d p q e = absurd (heads_differ 144 27 _ _ (λ i. absurd (omega (arith, i))) e)
same_by_introducer false true a b c d p q e = absurd (heads_differ 27 144 _ _ (λ i. absurd (omega (arith, i))) e)
same_by_introducer false false a b c d p q e =
    let rest : a ++ 113 ∷ [] ++ b ≡ c ++ 113 ∷ [] ++ d = cc in
    ap (λ (t : List ℕ). 27 ∷ 80 ∷ t ++ 113 ∷ [])
    (same_by a b c d p q (sym (append_assoc a (113 ∷ []) b) ∙ rest ∙ append_assoc c (113 ∷ []) d))

pub opening_once : {eight : Bool} {a : List ℕ} (b : List ℕ) {c : List ℕ} (d : List ℕ) → IsOpening eight a
    → IsOpening eight c → a ++ b ≡ c ++ d → a ≡ c
opening_once b d p q e =
    p.opening_is
    ∙ same_by_introducer p.by_eight q.by_eight p.parameters b q.parameters d p.parameters_are q.parameters_are
    (sym (ap (λ (t : List ℕ). t ++ b) p.opening_is) ∙ e ∙ ap (λ (t : List ℕ). t ++ d) q.opening_is) ∙ sym q.opening_is

opening_starts : (by_eight : Bool) (parameters : List ℕ) → introducer by_eight ++ parameters ++ 113 ∷ [] ≡ [] → ⊥
opening_starts true parameters e = cc
opening_starts false parameters e = cc

pub opening_some : {eight : Bool} {opening : List ℕ} → IsOpening eight opening → opening ≡ [] → ⊥
opening_some is e = opening_starts is.by_eight is.parameters (sym is.opening_is ∙ e)
