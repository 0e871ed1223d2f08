-- Whether a string is wrapped: it is or it isn't, and its report says which.
use Rattle.std.proofs.Common.{◌≡◌, ◌∙◌, ◌↔◌, ℕ, ◌+◌, ◌≤◌, inl, inr, Bool, true, false, List, [], ◌∷◌, ◌++◌, length}
use Rattle.std.proofs.Common.{Option, Some, None, ap, append_assoc, arith, refl, subst, sym, take}
use Rattle.std.specs.List.{AllByRecursion}
use Rattle.std.specs.Prelude.{IfSome}
use Rattle.std.specs.Io.KnownBytes.{Consumes}
use Rattle.std.proofs.lemmas.Bool.{cases_eq}
use Rattle.std.proofs.lemmas.List.{append_cancel_right, length-append, same_from_push}
use Rattle.sixel_scan.specs.declared.answer.Scanned.{Scanned}
use Rattle.sixel_scan.specs.Strings.{AreStringsFrom, StringAt}
use Rattle.sixel_scan.specs.Wrapping.{AreMarked, IsMarked, IsWrapped}
use Rattle.sixel_scan.proofs.MarkLemmas.{last_or_none, marked_more, plain_next, plain_none}

-- ---- wrapped or not

abbrev IsKnown : List ℕ → Type 0
IsKnown bytes = (w : Bool) × ((w ≡ true) ↔ IsWrapped bytes)

wrapped : (bytes : List ℕ) → IsWrapped bytes → IsKnown bytes
wrapped bytes is = (true, (λ on. is, λ w. refl))

plain : (bytes : List ℕ) → (IsWrapped bytes → ⊥) → IsKnown bytes
plain bytes not = (false, (λ on. absurd (let no : false ≡ true = on in cc), λ w. absurd (not w)))

-- bytes that end with P
after_letter : (first : List ℕ) (b : ℕ) → b ≡ 80 → IsKnown (first ++ b ∷ [])
after_letter first b letter = elim (last_or_none first) [
  | inl none ↦
      plain (first ++ b ∷ [])
      (plain_next first b (λ e. absurd (omega (arith, letter, e)))
      (λ ends is. absurd (plain_none (inl (ends.0, sym none ∙ ends.1)))))
  | inr last ↦ elim (cases_eq last.1 27) [
    | inl escape ↦
        wrapped (first ++ b ∷ [])
        (inr (
          last.0,
          ap (λ (t : List ℕ). t ++ b ∷ []) last.2 ∙ append_assoc last.0 (last.1 ∷ []) (b ∷ [])
              ∙ ap (λ (x : ℕ). last.0 ++ x ∷ b ∷ []) escape ∙ ap (λ (x : ℕ). last.0 ++ 27 ∷ x ∷ []) letter,
        ))
    | inr other ↦
        plain (first ++ b ∷ [])
        (plain_next first b (λ e. absurd (omega (arith, letter, e)))
        (λ ends is. absurd (other (same_from_push last.0 ends.0 last.1 27 (sym last.2 ∙ ends.1)).1)))
  ]
]

-- bytes that end with this one
ending_with : (first : List ℕ) (b : ℕ) → IsKnown (first ++ b ∷ [])
ending_with first b = elim (cases_eq b 27) [
  | inl escape ↦ wrapped (first ++ b ∷ []) (inl (first, ap (λ (x : ℕ). first ++ x ∷ []) escape))
  | inr other ↦ elim (cases_eq b 80) [
    | inl letter ↦ after_letter first b letter
    | inr no_letter ↦ plain (first ++ b ∷ []) (plain_next first b other (λ ends. no_letter))
  ]
]

pub wrapped_or_not : (bytes : List ℕ) → (w : Bool) × ((w ≡ true) ↔ IsWrapped bytes)
wrapped_or_not bytes = elim (last_or_none bytes) [
  | inl none ↦ subst IsKnown (sym none) (plain [] plain_none)
  | inr last ↦ subst IsKnown (sym last.2) (ending_with last.0 last.1)
]

same_flag : (a b : Bool) (P : Type 0) → (a ≡ true) ↔ P → (b ≡ true) ↔ P → a ≡ b
same_flag true true P p q = refl
same_flag true false P p q = sym (q.1 (p.0 refl))
same_flag false true P p q = p.1 (q.0 refl)
same_flag false false P p q = refl

-- two reports of a string say the same
pub mark_once : (bytes : List ℕ) (r t : Scanned) → r.place ≡ t.place → IsMarked bytes r → IsMarked bytes t
    → r.wrapped ≡ t.wrapped
mark_once bytes r t place m n =
    same_flag r.wrapped t.wrapped (IsWrapped (take t.place bytes))
    (subst (λ (k : ℕ). (r.wrapped ≡ true) ↔ IsWrapped (take k bytes)) place m.marked) n.marked

-- ---- the strings of a stream begin within it

pub strings_within : (eight : Bool) (offset : ℕ) (strings : List StringAt) (bytes : List ℕ) (most : ℕ)
    → offset + length bytes ≤ most → AreStringsFrom eight offset strings bytes
    → AllByRecursion (λ s. s.place ≤ most) strings
strings_within eight offset [] bytes most long are = tt
strings_within eight offset (s ∷ more) bytes most long are =
    let k = are.1 in
    let parts : length bytes ≡ length k.text + (length s.bytes + length are.0) =
    omega (arith, ap length k.bytes_are, length-append (k.text ++ s.bytes) are.0, length-append k.text s.bytes) in (
      omega (arith, k.place, parts, long),
      strings_within eight (s.place + length s.bytes) more are.0 most (omega (arith, k.place, parts, long)) are.2,
    )

-- ---- what was taken from a source is one

-- what was taken before and then is what was taken in all
taken_all : (bytes mid rest before more after : List ℕ) → bytes ≡ before ++ mid → mid ≡ more ++ rest
    → bytes ≡ after ++ rest → before ++ more ≡ after
taken_all bytes mid rest before more after first second whole =
    append_cancel_right (before ++ more) after rest
    (append_assoc before more rest ∙ ap (λ (t : List ℕ). before ++ t) (sym second) ∙ sym first ∙ whole)

marks_join : (bytes : List ℕ) (xs ys : List Scanned) → AreMarked bytes xs → AreMarked bytes ys
    → AreMarked bytes (xs ++ ys)
marks_join bytes [] ys first second = second
marks_join bytes (x ∷ xs) ys first second = (first.0, marks_join bytes xs ys first.1 second)

-- the reports told before are marked in all that was taken
pub marks_kept : (old mid new : Option (List ℕ)) (before more after : List ℕ) (reports : List Scanned)
    → Consumes old mid before → Consumes mid new more → Consumes old new after
    → IfSome old (λ bytes. AreMarked before reports) → IfSome old (λ bytes. AreMarked after reports)
marks_kept None mid new before more after reports first second whole marked = tt
marks_kept (Some bytes) None new before more after reports first second whole marked = absurd first
marks_kept (Some bytes) (Some left) None before more after reports first second whole marked = absurd second
marks_kept (Some bytes) (Some left) (Some rest) before more after reports first second whole marked =
    subst (λ (t : List ℕ). AreMarked t reports) (taken_all bytes left rest before more after first second whole)
    (marked_more before more reports marked)

-- so are those reports and one more, which is marked in what was taken before and then
pub marks_next : (old mid new : Option (List ℕ)) (before more after : List ℕ) (reports : List Scanned) (s : Scanned)
    → Consumes old mid before → Consumes mid new more → Consumes old new after
    → IfSome old (λ bytes. AreMarked before reports) → AreMarked (before ++ more) (s ∷ [])
    → IfSome old (λ bytes. AreMarked after (reports ++ s ∷ []))
marks_next None mid new before more after reports s first second whole marked next = tt
marks_next (Some bytes) None new before more after reports s first second whole marked next = absurd first
marks_next (Some bytes) (Some left) None before more after reports s first second whole marked next = absurd second
marks_next (Some bytes) (Some left) (Some rest) before more after reports s first second whole marked next =
    subst (λ (t : List ℕ). AreMarked t (reports ++ s ∷ []))
    (taken_all bytes left rest before more after first second whole)
    (marks_join (before ++ more) reports (s ∷ []) (marked_more before more reports marked) next)
