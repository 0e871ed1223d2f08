-- One more byte after those that may become an opening.
use Rattle.std.proofs.Common.{◌≡◌, ◌≢◌, ◌∙◌, ℕ, zero, suc, ◌+◌, ◌<◌, ◌≤◌, ◌⊎◌, inl, inr, Bool, true, false, IsTrue}
use Rattle.std.proofs.Common.{List, [], ◌∷◌, ◌++◌, length, Option, None, Some, cond, ◌==◌}
use Rattle.std.proofs.Common.{refl, sym, ap, subst, append_assoc, arith}
use Rattle.std.specs.Prelude.{MatchOption}
use Rattle.std.proofs.lemmas.Bool.{cases_lt, cond-true, cond-false}
use Rattle.std.proofs.lemmas.Bool.Decides.{nat_tests}
use Rattle.std.proofs.lemmas.List.{append-nil, drop_all, drop_at, length-append}
use Rattle.sixel_grammar.specs.Bytes.{introducer}
use Rattle.sixel_grammar.proofs.PieceLemmas.{all-append}
use Rattle.sixel_scan.specs.Openings.{Advances, BeginsNoneIn, IsBegun, IsHeld, after_parameters, is_grown}
use Rattle.sixel_scan.specs.Openings.{is_introduced}
use Rattle.sixel_scan.specs.Prefixes.{Resumes}
use Rattle.sixel_scan.specs.Scanning.{BeginsNone}
use Rattle.sixel_scan.specs.Strings.{AreParameters, HasNoOpening, IsOpening, Opens, OpensAt, StringAt, final}
use Rattle.sixel_scan.specs.Strings.{is_parameter}
use Rattle.sixel_scan.specs.declared.opening.Opening.{Opening}
use Rattle.sixel_scan.specs.declared.opening.Opening.TheVariants.{Nothing, Escape, Letter, Control, Introduced}
use Rattle.sixel_scan.proofs.OpeningLemmas.{HasFinal, begun_none, bool_cases, escape_other, final_past}
use Rattle.sixel_scan.proofs.OpeningLemmas.{escape_alone, no_final, not_opening, nothing_opens, other_byte}
use Rattle.sixel_scan.proofs.StringLemmas.{none_in_nothing, resumes_past}

-- ---- bytes after which this byte makes no opening

-- with this byte, the bytes held can't become an opening
abbrev pub Rejects : Opening → ℕ → Type 0
Rejects Nothing b = Unit {0}
Rejects Escape b = b ≢ 80
Rejects Letter b = (is_parameter b ≡ false) × (b ≢ 113)
Rejects Control b = (is_parameter b ≡ false) × (b ≢ 113)
Rejects Introduced b = (is_parameter b ≡ false) × (b ≢ 113)

parameter_not : (p c : ℕ) → is_parameter p ≡ true → is_parameter c ≡ false → p ≢ c
parameter_not p c is off e = let both : true ≡ false = sym is ∙ ap is_parameter e ∙ off in cc

parameter_begins_none : (eight : Bool) (p : ℕ) → is_parameter p ≡ true → BeginsNone eight p
parameter_begins_none eight p is = record {
  no_escape = parameter_not p 27 is refl;
  no_introducer = λ on. parameter_not p 144 is refl;
}

letter_begins_none : (eight : Bool) → BeginsNone eight 80
letter_begins_none eight = record {
  no_escape = λ e. absurd (omega (arith, e));
  no_introducer = λ on e. absurd (omega (arith, e));
}

parameters_dead : (eight : Bool) (parameters after : List ℕ) (n : ℕ) → AreParameters parameters
    → n < length parameters → OpensAt eight (parameters ++ after) n → ⊥
parameters_dead eight [] after n are lt o = absurd (omega (arith, lt))
parameters_dead eight (p ∷ parameters) after zero are lt o =
    not_opening (parameters ++ after) (parameter_begins_none eight p are.0) o
parameters_dead eight (p ∷ parameters) after (suc n) are lt o =
    parameters_dead eight parameters after n are.1 (omega (arith, lt)) o

begun_dead : (eight by_eight : Bool) (parameters after : List ℕ) (n : ℕ) → AreParameters parameters
    → (HasFinal (parameters ++ after) → ⊥) → n < length (introducer by_eight ++ parameters)
    → OpensAt eight (introducer by_eight ++ (parameters ++ after)) n → ⊥
begun_dead eight true parameters after zero are none lt o = begun_none eight true (parameters ++ after) none o
begun_dead eight true parameters after (suc n) are none lt o =
    parameters_dead eight parameters after n are (omega (arith, lt)) o
begun_dead eight false parameters after zero are none lt o = begun_none eight false (parameters ++ after) none o
begun_dead eight false parameters after (suc zero) are none lt o =
    not_opening (parameters ++ after) (letter_begins_none eight) o
begun_dead eight false parameters after (suc (suc n)) are none lt o =
    parameters_dead eight parameters after n are (omega (arith, lt)) o

is_begun_dead : {eight : Bool} {held : List ℕ} (b : ℕ) (n : ℕ) (more : List ℕ) → IsBegun eight held
    → (is_parameter b ≡ false) × (b ≢ 113) → n < length held → OpensAt eight (held ++ b ∷ more) n → ⊥
is_begun_dead {eight} b n more is rejects lt o =
    begun_dead eight is.by_eight is.parameters (b ∷ more) n is.parameters_are
    (λ h. other_byte b more rejects.0 rejects.1 (final_past is.parameters (b ∷ more) is.parameters_are h))
    (subst (λ (t : List ℕ). n < length t) is.bytes_are lt)
    (subst (λ (t : List ℕ). OpensAt eight t n)
    (ap (λ (t : List ℕ). t ++ b ∷ more) is.bytes_are
    ∙ append_assoc (introducer is.by_eight) is.parameters (b ∷ more)) o)

control_begun : (eight : Bool) (held : List ℕ) → IsTrue eight × (held ≡ introducer true) → IsBegun eight held
control_begun eight held h = record {
  by_eight = true;
  allowed = λ on. h.0;
  parameters = [];
  parameters_are = tt;
  bytes_are = h.1;
}

letter_begun : (eight : Bool) (held : List ℕ) → held ≡ introducer false → IsBegun eight held
letter_begun eight held h = record {
  by_eight = false;
  allowed = λ on. let on : false ≡ true = on in absurd (cc);
  parameters = [];
  parameters_are = tt;
  bytes_are = h;
}

escape_dead : (eight : Bool) (b : ℕ) (n : ℕ) (more : List ℕ) → b ≢ 80 → n < 1 → OpensAt eight (27 ∷ b ∷ more) n → ⊥
escape_dead eight b zero more ne lt o = escape_other eight b more ne o
escape_dead eight b (suc n) more ne lt o = absurd (omega (arith, lt))

held_dead : (eight : Bool) (opening : Opening) (held : List ℕ) (b : ℕ) (n : ℕ) (more : List ℕ)
    → IsHeld eight opening held → Rejects opening b → n < length held → OpensAt eight (held ++ b ∷ more) n → ⊥
held_dead eight Nothing held b n more is rejects lt o = absurd (omega (arith, lt, ap length is))
held_dead eight Escape held b n more is rejects lt o =
    escape_dead eight b n more rejects (omega (arith, lt, ap length is))
    (subst (λ (t : List ℕ). OpensAt eight (t ++ b ∷ more) n) is o)
held_dead eight Letter held b n more is rejects lt o = is_begun_dead b n more (letter_begun eight held is) rejects lt o
held_dead eight Control held b n more is rejects lt o =
    is_begun_dead b n more (control_begun eight held is) rejects lt o
held_dead eight Introduced held b n more is rejects lt o = is_begun_dead b n more is rejects lt o

-- no opening begins in the bytes held, if this byte follows
none_in_held : (eight : Bool) (opening : Opening) (held : List ℕ) (b : ℕ) → IsHeld eight opening held
    → Rejects opening b → BeginsNoneIn eight held (b ∷ [])
none_in_held eight opening held b is rejects =
    λ n more lt o.
    held_dead eight opening held b n more is rejects lt
    (subst (λ (t : List ℕ). OpensAt eight t n) (append_assoc held (b ∷ []) more) o)

last_dead : {eight : Bool} (held : List ℕ) {b : ℕ} (n : ℕ) (more : List ℕ) → BeginsNone eight b → n ≡ length held
    → OpensAt eight (held ++ b ∷ more) n → ⊥
last_dead {eight} held {b} n more none at o =
    not_opening more none (subst (Opens eight) (drop_at held (b ∷ more) n (sym at)) o)

all_dead : {eight : Bool} (opening : Opening) (held : List ℕ) {b : ℕ} (n : ℕ) (more : List ℕ)
    → IsHeld eight opening held → Rejects opening b → BeginsNone eight b → (n < length held) ⊎ (length held ≤ n)
    → n < length (held ++ b ∷ []) → OpensAt eight (((held ++ b ∷ []) ++ []) ++ more) n → ⊥
all_dead {eight} opening held {b} n more is rejects none where_is lt o =
    let flat : ((held ++ b ∷ []) ++ []) ++ more ≡ held ++ b ∷ more =
    ap (λ (t : List ℕ). t ++ more) (append-nil (held ++ b ∷ [])) ∙ append_assoc held (b ∷ []) more in
    let there : OpensAt eight (held ++ b ∷ more) n = subst (λ (t : List ℕ). OpensAt eight t n) flat o in
    elim where_is [
      | inl before ↦ held_dead eight opening held b n more is rejects before there
      | inr after ↦
          let at : n ≡ length held = omega (arith, lt, length-append held (b ∷ []), after) in
          last_dead held n more none at there
    ]

-- ---- what is held next

-- the byte begins anew
pub advances_anew : (eight : Bool) (opening next : Opening) (held : List ℕ) (b : ℕ) → IsHeld eight opening held
    → Rejects opening b → (is_grown next ≡ false) → IsHeld eight next (b ∷ []) → Advances eight next held b
advances_anew eight opening next held b is rejects short held_is = record {
  passed = held;
  kept = b ∷ [];
  bytes_are = refl;
  none = none_in_held eight opening held b is rejects;
  is_held = held_is;
  grows = λ e. let both : true ≡ false = sym e ∙ short in absurd (cc);
}

-- nothing is held
pub advances_past : {eight : Bool} (opening : Opening) (held : List ℕ) {b : ℕ} → IsHeld eight opening held
    → Rejects opening b → BeginsNone eight b → Advances eight Nothing held b
advances_past opening held {b} is rejects none = record {
  passed = held ++ b ∷ [];
  kept = [];
  bytes_are = sym (append-nil (held ++ b ∷ []));
  none = λ n more lt o. all_dead opening held n more is rejects none (cases_lt n (length held)) lt o;
  is_held = refl;
  grows = λ e. cc;
}

-- the bytes held and this one
pub advances_on : (eight : Bool) (next : Opening) (held : List ℕ) (b : ℕ) → 0 < length held
    → IsHeld eight next (held ++ b ∷ []) → Advances eight next held b
advances_on eight next held b some is = record {
  passed = [];
  kept = held ++ b ∷ [];
  bytes_are = refl;
  none = λ n more lt o. absurd (omega (arith, lt));
  is_held = is;
  grows = λ e. (refl, some);
}

introducer_some : (by_eight : Bool) (parameters : List ℕ) → 0 < length (introducer by_eight ++ parameters)
introducer_some true parameters = omega arith
introducer_some false parameters = omega arith

begun_some : {eight : Bool} {held : List ℕ} → IsBegun eight held → 0 < length held
begun_some is =
    let some = introducer_some is.by_eight is.parameters in omega (arith, some, ap length is.bytes_are)

begun_more : {eight : Bool} {held : List ℕ} (b : ℕ) → IsBegun eight held → is_parameter b ≡ true
    → IsBegun eight (held ++ b ∷ [])
begun_more b is parameter = record {
  by_eight = is.by_eight;
  allowed = is.allowed;
  parameters = is.parameters ++ b ∷ [];
  parameters_are = all-append (λ x. IsTrue (is_parameter x)) is.parameters (b ∷ []) is.parameters_are (parameter, tt);
  bytes_are = ap (λ (t : List ℕ). t ++ b ∷ []) is.bytes_are
      ∙ append_assoc (introducer is.by_eight) is.parameters (b ∷ []);
}

begun_opens : {eight : Bool} {held : List ℕ} (b : ℕ) → IsBegun eight held → b ≡ 113 → IsOpening eight (held ++ b ∷ [])
begun_opens {held} b is e = record {
  by_eight = is.by_eight;
  allowed = is.allowed;
  parameters = is.parameters;
  parameters_are = is.parameters_are;
  opening_is = ap (λ (x : ℕ). held ++ x ∷ []) e ∙ ap (λ (t : List ℕ). t ++ 113 ∷ []) is.bytes_are;
}

-- after an introducer, digits and `;`
pub record Goes (eight : Bool) (held : List ℕ) (b : ℕ) (o : Option Opening) : Type 0 where
  pub goes : MatchOption o (IsOpening eight (held ++ b ∷ [])) (λ next. Advances eight next held b)

final_goes : {eight : Bool} {held : List ℕ} (b : ℕ) → IsBegun eight held
    → ((is_parameter b ≡ false) × (b ≢ 113) → Advances eight Nothing held b) → is_parameter b ≡ false
    → ((b == 113) ≡ true) ⊎ ((b == 113) ≡ false) → Goes eight held b (cond (b == 113) None (Some Nothing))
final_goes {eight} {held} b is past none t = elim t [
  | inl final ↦
      let e : b ≡ 113 = grind (arith, nat_tests) in
      subst (Goes eight held b) (sym (cond-true (b == 113) None (Some Nothing) final))
      (record { goes = begun_opens b is e })
  | inr other ↦
      let ne : b ≢ 113 =
      λ e. absurd (let both : true ≡ false = sym (ap (λ (x : ℕ). x == 113) e) ∙ other in cc) in
      subst (Goes eight held b) (sym (cond-false (b == 113) None (Some Nothing) other))
      (record { goes = past (none, ne) })
]

pub parameter_goes : {eight : Bool} {held : List ℕ} (b : ℕ) → IsBegun eight held
    → ((is_parameter b ≡ false) × (b ≢ 113) → Advances eight Nothing held b) → Goes eight held b (after_parameters b)
parameter_goes {eight} {held} b is past = elim (bool_cases (is_parameter b)) [
  | inl on ↦
      subst (Goes eight held b) (sym (cond-true (is_parameter b) (Some Introduced) _ on))
      (record { goes = advances_on eight Introduced held b (begun_some is) (begun_more b is on) })
  | inr off ↦
      subst (Goes eight held b) (sym (cond-false (is_parameter b) (Some Introduced) _ off))
      (final_goes b is past off (bool_cases (b == 113)))
]

-- ---- a scan passes bytes in which no opening begins

pub resumes_past_none : (eight : Bool) (told : List StringAt) (bytes : List ℕ) (offset : ℕ) (passed kept : List ℕ)
    → BeginsNoneIn eight passed kept → Resumes eight told bytes offset (passed ++ kept)
    → Resumes eight told bytes (offset + length passed) kept
resumes_past_none eight told bytes offset [] kept none r =
    let e : offset ≡ offset + 0 = omega arith in subst (λ (n : ℕ). Resumes eight told bytes n kept) e r
resumes_past_none eight told bytes offset (b ∷ passed) kept none r =
    let e : offset + 1 + length passed ≡ offset + length (b ∷ passed) = omega arith in
    subst (λ (n : ℕ). Resumes eight told bytes n kept) e
    (resumes_past_none eight told bytes (offset + 1) passed kept
    (λ n more lt o. none (suc n) more (omega (arith, lt)) o)
    (resumes_past eight told bytes offset b (passed ++ kept) (λ more o. none 0 more (omega arith) o) r))

-- ---- what `next` returns

-- whatever bytes are held, this is what may become an opening with the next byte; none if it is one
abbrev pub NextIs : Bool → Opening → ℕ → Option Opening → Type 0
NextIs eight opening b o =
    (held : List ℕ) → IsHeld eight opening held
    → MatchOption o (IsOpening eight (held ++ b ∷ [])) (λ next. Advances eight next held b)

rejects_all : (opening : Opening) (b : ℕ) → b ≢ 80 → (is_parameter b ≡ false) × (b ≢ 113) → Rejects opening b
rejects_all Nothing b no_letter others = tt
rejects_all Escape b no_letter others = no_letter
rejects_all Letter b no_letter others = others
rejects_all Control b no_letter others = others
rejects_all Introduced b no_letter others = others

pub next_anew : (eight : Bool) (opening : Opening) (b : ℕ) → b ≡ 27 → NextIs eight opening b (Some Escape)
next_anew eight opening b e =
    let rejects = rejects_all opening b (λ i. absurd (omega (arith, e, i)))
    (ap is_parameter e, λ i. absurd (omega (arith, e, i))) in
    λ held is. advances_anew eight opening Escape held b is rejects refl (ap (λ (x : ℕ). x ∷ []) e)

pub next_introducer : (eight : Bool) (opening : Opening) (b : ℕ) → IsTrue eight → b ≡ 144
    → NextIs eight opening b (Some Control)
next_introducer eight opening b on e =
    let rejects = rejects_all opening b (λ i. absurd (omega (arith, e, i)))
    (ap is_parameter e, λ i. absurd (omega (arith, e, i))) in
    λ held is. advances_anew eight opening Control held b is rejects refl (on, ap (λ (x : ℕ). x ∷ []) e)

pub next_past : (eight : Bool) (opening : Opening) (b : ℕ) → Rejects opening b → BeginsNone eight b
    → NextIs eight opening b (Some Nothing)
next_past eight opening b rejects none = λ held is. advances_past opening held is rejects none

pub next_letter : (eight : Bool) (b : ℕ) → b ≡ 80 → NextIs eight Escape b (Some Letter)
next_letter eight b e =
    λ held is.
    advances_on eight Letter held b (omega (arith, ap length is))
    (ap (λ (t : List ℕ). t ++ b ∷ []) is ∙ ap (λ (x : ℕ). 27 ∷ x ∷ []) e)

pub next_on : {eight : Bool} (opening : Opening) {b : ℕ} → is_introduced opening ≡ true → BeginsNone eight b
    → NextIs eight opening b (after_parameters b)
next_on Nothing on none = absurd (let on : false ≡ true = on in cc)
next_on Escape on none = absurd (let on : false ≡ true = on in cc)
next_on {eight} Letter {b} on none =
    λ held is.
    (parameter_goes b (letter_begun eight held is) (λ rejects. advances_past Letter held is rejects none)).goes
next_on {eight} Control {b} on none =
    λ held is.
    (parameter_goes b (control_begun eight held is) (λ rejects. advances_past Control held is rejects none)).goes
next_on Introduced {b} on none =
    λ held is. (parameter_goes b is (λ rejects. advances_past Introduced held is rejects none)).goes

-- a byte that is neither ESC nor, if 8-bit controls count, their introducer
pub begins_none_by : (eight : Bool) (b : ℕ) → b ≢ 27 → (eight ≡ false) ⊎ (b ≢ 144) → BeginsNone eight b
begins_none_by eight b no_escape which = elim which [
  | inl off ↦ record {
    no_escape = no_escape;
    no_introducer = λ on. let both : true ≡ false = sym on ∙ off in absurd (cc);
  }
  | inr ne ↦ record { no_escape = no_escape; no_introducer = λ on. ne }
]

pub introduced_by : (opening : Opening) → (opening ≡ Letter) ⊎ ((opening ≡ Control) ⊎ (opening ≡ Introduced))
    → is_introduced opening ≡ true
introduced_by opening which = elim which [
  | inl e ↦ ap is_introduced e
  | inr more ↦ elim more [ inl e ↦ ap is_introduced e | inr e ↦ ap is_introduced e ]
]

-- ---- at the end of the stream, no opening begins in what is held

begun_in : (eight by_eight : Bool) (parameters : List ℕ) (n : ℕ) → AreParameters parameters
    → OpensAt eight (introducer by_eight ++ parameters) n → ⊥
begun_in eight by_eight parameters n are o =
    elim (cases_lt n (length (introducer by_eight ++ parameters))) [
      | inl below ↦
          begun_dead eight by_eight parameters [] n are (λ h. no_final (final_past parameters [] are h)) below
          (subst (λ (t : List ℕ). OpensAt eight (introducer by_eight ++ t) n) (sym (append-nil parameters)) o)
      | inr past ↦ nothing_opens eight (subst (Opens eight) (drop_all n (introducer by_eight ++ parameters) past) o)
    ]

is_begun_in : {eight : Bool} {held : List ℕ} → IsBegun eight held → HasNoOpening eight held
is_begun_in {eight} is =
    subst (HasNoOpening eight) (sym is.bytes_are)
    (λ n o. begun_in eight is.by_eight is.parameters n is.parameters_are o)

escape_in : (eight : Bool) (n : ℕ) → OpensAt eight (27 ∷ []) n → ⊥
escape_in eight zero o = escape_alone eight o
escape_in eight (suc n) o = none_in_nothing eight n o

pub held_in : (eight : Bool) (opening : Opening) (held : List ℕ) → IsHeld eight opening held → HasNoOpening eight held
held_in eight Nothing held is = subst (HasNoOpening eight) (sym is) (none_in_nothing eight)
held_in eight Escape held is = subst (HasNoOpening eight) (sym is) (escape_in eight)
held_in eight Letter held is = is_begun_in (letter_begun eight held is)
held_in eight Control held is = is_begun_in (control_begun eight held is)
held_in eight Introduced held is = is_begun_in is
