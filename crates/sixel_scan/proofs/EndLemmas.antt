-- The end of a string.
use Rattle.std.proofs.Common.{◌≡◌, ◌≢◌, ℕ, zero, suc, ◌<◌, ◌⊎◌, inl, inr, Bool, true, false, IsTrue}
use Rattle.std.proofs.Common.{List, [], ◌∷◌, ◌++◌, length, take, drop, refl, sym, ap, subst, arith}
use Rattle.std.proofs.lemmas.Bool.{cases_eq}
use Rattle.sixel_grammar.specs.Bytes.{escape}
use Rattle.sixel_scan.specs.Scanning.{AreInside, IsInside}
use Rattle.sixel_scan.specs.Strings.{EndsFirst, EndsWith, MayEnd, cancel, substitute}
use Rattle.sixel_scan.specs.Strings.{AfterTerminator, AfterEightBit, AfterCancel, AfterSubstitute, BeforeEscape, AtEnd}
use Rattle.sixel_scan.proofs.ListLemmas.{no_less, not_nil, same_first, shorter_first, shorter_rest}

-- ---- one byte more before the end

ends_with_more : (b : ℕ) (body last : List ℕ) → EndsWith body last → EndsWith (b ∷ body) last
ends_with_more b body last e = (b ∷ e.0, ap (λ (t : List ℕ). b ∷ t) e.1)

ends_with_less : (b : ℕ) (body first : List ℕ) (x : ℕ) (last : List ℕ) → b ≢ x → b ∷ body ≡ first ++ x ∷ last
    → EndsWith body (x ∷ last)
ends_with_less b body [] x last ne e = absurd (ne (cc))
ends_with_less b body (y ∷ first) x last ne e = (first, cc)

may_end_more : {eight : Bool} (b : ℕ) {body rest : List ℕ} → MayEnd eight body rest → MayEnd eight (b ∷ body) rest
may_end_more b {body} h = elim h [
  | AfterTerminator e ↦ AfterTerminator (ends_with_more b body _ e)
  | AfterEightBit on e ↦ AfterEightBit on (ends_with_more b body _ e)
  | AfterCancel e ↦ AfterCancel (ends_with_more b body _ e)
  | AfterSubstitute e ↦ AfterSubstitute (ends_with_more b body _ e)
  | BeforeEscape c more ne e ↦ BeforeEscape c more ne e
  | AtEnd e ↦ AtEnd e
]

may_end_less : {eight : Bool} {b : ℕ} (body : List ℕ) {rest : List ℕ} → IsInside eight b → MayEnd eight (b ∷ body) rest
    → MayEnd eight body rest
may_end_less {b} body inside h = elim h [
  | AfterTerminator e ↦ AfterTerminator (ends_with_less b body e.0 27 (92 ∷ []) inside.no_escape e.1)
  | AfterEightBit on e ↦ AfterEightBit on (ends_with_less b body e.0 156 [] (inside.no_terminator on) e.1)
  | AfterCancel e ↦ AfterCancel (ends_with_less b body e.0 cancel [] inside.no_cancel e.1)
  | AfterSubstitute e ↦ AfterSubstitute (ends_with_less b body e.0 substitute [] inside.no_substitute e.1)
  | BeforeEscape c more ne e ↦ BeforeEscape c more ne e
  | AtEnd e ↦ AtEnd e
]

-- a string that has nothing after its `q` ends before an ESC, or at the end of the stream
ends_here : {eight : Bool} {rest : List ℕ} → (rest ≡ [] → ⊥)
    → ((b : ℕ) (more : List ℕ) → b ≢ 92 → rest ≡ escape ∷ b ∷ more → ⊥) → MayEnd eight [] rest → ⊥
ends_here some no_escape h = elim h [
  | AfterTerminator e ↦ not_nil e.0 27 (92 ∷ []) e.1
  | AfterEightBit on e ↦ not_nil e.0 156 [] e.1
  | AfterCancel e ↦ not_nil e.0 cancel [] e.1
  | AfterSubstitute e ↦ not_nil e.0 substitute [] e.1
  | BeforeEscape b more ne e ↦ no_escape b more ne e
  | AtEnd e ↦ some e
]

-- before such a byte, none does
none_yet : {eight : Bool} (b : ℕ) (more : List ℕ) → b ≢ escape → MayEnd eight [] (b ∷ more) → ⊥
none_yet b more no_escape = ends_here (λ e. cc) (λ c rest ne e. no_escape (cc))

first_more : {eight : Bool} {b : ℕ} {body rest : List ℕ} (n : ℕ) → IsInside eight b → EndsFirst eight body rest
    → n < length (b ∷ body) → MayEnd eight (take n (b ∷ body)) (drop n (b ∷ body) ++ rest) → ⊥
first_more {eight} {b} {body} {rest} zero inside h lt may = none_yet b (body ++ rest) inside.no_escape may
first_more {body} (suc n) inside h lt may = h.first n (omega arith) (may_end_less (take n body) inside may)

pub end_more : {eight : Bool} {b : ℕ} {body rest : List ℕ} → IsInside eight b → EndsFirst eight body rest
    → EndsFirst eight (b ∷ body) rest
end_more {b} inside h = record {
  ends = may_end_more b h.ends;
  first = λ n lt may. first_more n inside h lt may;
}

-- such bytes don't change where the string ends
pub ends_past : {eight : Bool} (inside : List ℕ) {body rest : List ℕ} → AreInside eight inside
    → EndsFirst eight body rest → EndsFirst eight (inside ++ body) rest
ends_past [] are h = h
ends_past (b ∷ bs) are h = end_more are.0 (ends_past bs are.1 h)

-- ---- the ends

pub end_of_stream : (eight : Bool) → EndsFirst eight [] []
end_of_stream eight = record { ends = AtEnd refl; first = λ n lt may. absurd (omega (arith, lt)) }

pub end_before : (eight : Bool) (b : ℕ) (more : List ℕ) → b ≢ 92 → EndsFirst eight [] (escape ∷ b ∷ more)
end_before eight b more ne = record {
  ends = BeforeEscape b more ne refl;
  first = λ n lt may. absurd (omega (arith, lt));
}

one_byte : (eight : Bool) (b : ℕ) (rest : List ℕ) (n : ℕ) → b ≢ escape → n < 1
    → MayEnd eight (take n (b ∷ [])) (drop n (b ∷ []) ++ rest) → ⊥
one_byte eight b rest zero no_escape lt may = none_yet b rest no_escape may
one_byte eight b rest (suc n) no_escape lt may = absurd (omega (arith, lt))

pub end_at_cancel : (eight : Bool) (rest : List ℕ) → EndsFirst eight (cancel ∷ []) rest
end_at_cancel eight rest = record {
  ends = AfterCancel ([], refl);
  first = λ n lt may. one_byte eight cancel rest n (λ e. absurd (omega (arith, e))) lt may;
}

pub end_at_substitute : (eight : Bool) (rest : List ℕ) → EndsFirst eight (substitute ∷ []) rest
end_at_substitute eight rest = record {
  ends = AfterSubstitute ([], refl);
  first = λ n lt may. one_byte eight substitute rest n (λ e. absurd (omega (arith, e))) lt may;
}

pub end_at_eight : (eight : Bool) (rest : List ℕ) → IsTrue eight → EndsFirst eight (156 ∷ []) rest
end_at_eight eight rest on = record {
  ends = AfterEightBit on ([], refl);
  first = λ n lt may. one_byte eight 156 rest n (λ e. absurd (omega (arith, e))) lt may;
}

single : (first : List ℕ) (b : ℕ) → 27 ∷ [] ≡ first ++ b ∷ [] → 27 ≡ b
single [] b e = cc
single (x ∷ first) b e = absurd (not_nil first b [] cc)

no_pair : (first : List ℕ) → 27 ∷ [] ≡ first ++ 27 ∷ 92 ∷ [] → ⊥
no_pair [] e = cc
no_pair (x ∷ first) e = not_nil first 27 (92 ∷ []) cc

no_escape_there : (b c : ℕ) (rest more : List ℕ) → b ≢ 27 → b ∷ rest ≡ 27 ∷ c ∷ more → ⊥
no_escape_there b c rest more ne e = ne (cc)

-- an ESC alone, before `\`: no string ends there
lone_escape : {eight : Bool} (rest : List ℕ) → MayEnd eight (27 ∷ []) (92 ∷ rest) → ⊥
lone_escape rest h = elim h [
  | AfterTerminator e ↦ no_pair e.0 e.1
  | AfterEightBit on e ↦ absurd (omega (arith, single e.0 156 e.1))
  | AfterCancel e ↦ absurd (omega (arith, single e.0 cancel e.1))
  | AfterSubstitute e ↦ absurd (omega (arith, single e.0 substitute e.1))
  | BeforeEscape c more ne e ↦ no_escape_there 92 c rest more (λ i. absurd (omega (arith, i))) e
  | AtEnd e ↦ (cc)
]

before_other : {eight : Bool} (rest : List ℕ) → MayEnd eight [] (27 ∷ 92 ∷ rest) → ⊥
before_other rest = ends_here (λ e. cc) (λ b more ne e. ne (cc))

two_bytes : {eight : Bool} (rest : List ℕ) (n : ℕ) → n < 2
    → MayEnd eight (take n (27 ∷ 92 ∷ [])) (drop n (27 ∷ 92 ∷ []) ++ rest) → ⊥
two_bytes rest zero lt may = before_other rest may
two_bytes rest (suc zero) lt may = lone_escape rest may
two_bytes rest (suc (suc n)) lt may = absurd (omega (arith, lt))

pub end_at_terminator : (eight : Bool) (rest : List ℕ) → EndsFirst eight (27 ∷ 92 ∷ []) rest
end_at_terminator eight rest = record {
  ends = AfterTerminator ([], refl);
  first = λ n lt may. two_bytes rest n lt may;
}

before_last : {eight : Bool} → MayEnd eight [] (27 ∷ []) → ⊥
before_last = ends_here (λ e. cc) (λ b more ne e. cc)

last_byte : {eight : Bool} (n : ℕ) → n < 1 → MayEnd eight (take n (27 ∷ [])) (drop n (27 ∷ []) ++ []) → ⊥
last_byte zero lt may = before_last may
last_byte (suc n) lt may = absurd (omega (arith, lt))

pub end_at_last_escape : (eight : Bool) → EndsFirst eight (27 ∷ []) []
end_at_last_escape eight = record { ends = AtEnd refl; first = λ n lt may. last_byte n lt may }

-- ---- each string has one end

not_earlier : {eight : Bool} {a b c d : List ℕ} → EndsFirst eight a b → EndsFirst eight c d → a ++ b ≡ c ++ d
    → length a < length c → ⊥
not_earlier {eight} {a} {b} {c} {d} p q e lt =
    q.first (length a) lt
    (subst (λ (t : List ℕ). MayEnd eight t (drop (length a) c ++ d)) (sym (shorter_first a b c d e (omega arith)))
    (subst (λ (t : List ℕ). MayEnd eight a t) (sym (shorter_rest a b c d e (omega arith))) p.ends))

pub end_once : {eight : Bool} {a b c d : List ℕ} → EndsFirst eight a b → EndsFirst eight c d → a ++ b ≡ c ++ d → a ≡ c
end_once {a} {b} {c} {d} p q e =
    same_first a b c d e (no_less (length a) (length c) (not_earlier p q e) (not_earlier q p (sym e)))

-- the end of the bytes after a `q`
pub record Ending (eight : Bool) (bytes : List ℕ) : Type 0 where
  pub body : List ℕ
  pub rest : List ℕ
  pub bytes_are : bytes ≡ body ++ rest
  pub ends : EndsFirst eight body rest

ending_more : {eight : Bool} {b : ℕ} {bytes : List ℕ} → IsInside eight b → Ending eight bytes → Ending eight (b ∷ bytes)
ending_more {b} inside e = record {
  body = b ∷ e.body;
  rest = e.rest;
  bytes_are = ap (λ (t : List ℕ). b ∷ t) e.bytes_are;
  ends = end_more inside e.ends;
}

ending_at_escape : (eight : Bool) (bytes : List ℕ) → Ending eight (27 ∷ bytes)
ending_at_escape eight [] =
    record { body = 27 ∷ []; rest = []; bytes_are = refl; ends = end_at_last_escape eight }
ending_at_escape eight (c ∷ cs) = elim (cases_eq c 92) [
  | inl e ↦ record {
    body = 27 ∷ 92 ∷ [];
    rest = cs;
    bytes_are = ap (λ (b : ℕ). 27 ∷ b ∷ cs) e;
    ends = end_at_terminator eight cs;
  }
  | inr ne ↦ record { body = []; rest = 27 ∷ c ∷ cs; bytes_are = refl; ends = end_before eight c cs ne }
]

on_or_off : (eight : Bool) (b : ℕ) → (IsTrue eight × (b ≡ 156)) ⊎ (IsTrue eight → b ≢ 156)
on_or_off true b = elim (cases_eq b 156) [ inl e ↦ inl (refl, e) | inr ne ↦ inr (λ on. ne) ]
on_or_off false b = inr (λ on e. absurd (cc))

-- what a byte of a string is
pub data Kind (eight : Bool) (b : ℕ) : Type 0 where
  IsEscape : b ≡ 27 → Kind eight b
  IsCancel : b ≡ cancel → Kind eight b
  IsSubstitute : b ≡ substitute → Kind eight b
  IsEight : IsTrue eight → b ≡ 156 → Kind eight b
  IsOther : IsInside eight b → Kind eight b

pub kind_of : (eight : Bool) (b : ℕ) → Kind eight b
kind_of eight b = elim (cases_eq b 27) [
  | inl e ↦ IsEscape e
  | inr no_escape ↦ elim (cases_eq b cancel) [
    | inl e ↦ IsCancel e
    | inr no_cancel ↦ elim (cases_eq b substitute) [
      | inl e ↦ IsSubstitute e
      | inr no_substitute ↦ elim (on_or_off eight b) [
        | inl e ↦ IsEight e.0 e.1
        | inr no_terminator ↦ IsOther (record {
          no_escape = no_escape;
          no_cancel = no_cancel;
          no_substitute = no_substitute;
          no_terminator = no_terminator;
        })
      ]
    ]
  ]
]

ending_by : {eight : Bool} {b : ℕ} {bytes : List ℕ} → Kind eight b → Ending eight bytes → Ending eight (b ∷ bytes)
ending_by {eight} {bytes} kind e = elim kind [
  | IsEscape is ↦ subst (λ (x : ℕ). Ending eight (x ∷ bytes)) (sym is) (ending_at_escape eight bytes)
  | IsCancel is ↦ subst (λ (x : ℕ). Ending eight (x ∷ bytes)) (sym is)
      (record { body = cancel ∷ []; rest = bytes; bytes_are = refl; ends = end_at_cancel eight bytes })
  | IsSubstitute is ↦ subst (λ (x : ℕ). Ending eight (x ∷ bytes)) (sym is)
      (record { body = substitute ∷ []; rest = bytes; bytes_are = refl; ends = end_at_substitute eight bytes })
  | IsEight on is ↦ subst (λ (x : ℕ). Ending eight (x ∷ bytes)) (sym is)
      (record { body = 156 ∷ []; rest = bytes; bytes_are = refl; ends = end_at_eight eight bytes on })
  | IsOther inside ↦ ending_more inside e
]

pub ending_of : (eight : Bool) (bytes : List ℕ) → Ending eight bytes
ending_of eight [] = record { body = []; rest = []; bytes_are = refl; ends = end_of_stream eight }
ending_of eight (b ∷ bytes) = ending_by (kind_of eight b) (ending_of eight bytes)

-- ---- a byte after which the string ends, or not

pub cancels : (eight : Bool) (b : ℕ) → (b ≡ cancel) ⊎ (b ≡ substitute) → (rest : List ℕ) → EndsFirst eight (b ∷ []) rest
cancels eight b which rest = elim which [
  | inl e ↦ subst (λ (x : ℕ). EndsFirst eight (x ∷ []) rest) (sym e) (end_at_cancel eight rest)
  | inr e ↦ subst (λ (x : ℕ). EndsFirst eight (x ∷ []) rest) (sym e) (end_at_substitute eight rest)
]

pub terminates : (eight : Bool) (b : ℕ) → b ≡ 156 → eight ≡ true → (rest : List ℕ) → EndsFirst eight (b ∷ []) rest
terminates eight b e on rest = subst (λ (x : ℕ). EndsFirst eight (x ∷ []) rest) (sym e) (end_at_eight eight rest on)
