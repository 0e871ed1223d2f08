-- A check of a string.
use Rattle.std.specs.Prelude.{Err, IfSome, Result, slice_get}
use Rattle.std.proofs.Common.{◌≡◌, ◌∙◌, ℕ, zero, suc, ◌+◌, ◌≤◌, inl, inr, Option, Some, None, Ok}
use Rattle.std.proofs.Common.{List, [], ◌∷◌, ◌++◌, length, sym, ap, refl, subst, append_assoc, arith}
use Rattle.std.specs.Option.{option_map}
use Rattle.std.proofs.lemmas.List.{append-nil, length-append}
use Rattle.sixel_grammar.specs.Document.{Document, Piece, bytes_of, joined, placed_from}
use Rattle.sixel_grammar.specs.Faults.{IsFaultOf}
use Rattle.sixel_grammar.specs.Standing.{StandsAfter, fault_of}
use Rattle.sixel_grammar.specs.declared.command.Placed.{Placed}
use Rattle.sixel_grammar.specs.declared.fault.Fault.{Fault}
use Rattle.sixel_judge.specs.Verdicts.{IsFinding, IsVerdict}
use Rattle.sixel_judge.specs.declared.verdict.Verdict.{Verdict}
use Rattle.sixel_judge.specs.declared.verdict.Verdict.TheVariants.{Portable, Broken}
use Rattle.sixel_judge.specs.declared.verdict.Finding.{Finding}
use Rattle.sixel_scan.specs.declared.string_check.StringCheck.{StringCheck}
use Rattle.sixel_judge.specs.declared.verdict.Outcome.{Outcome}
use Rattle.sixel_judge.specs.declared.verdict.Outcome.TheVariants.{Broken as BrokenRule}
use Rattle.sixel_scan.specs.declared.answer.Answer.TheVariants.{Broken as SaysBroken}
use Rattle.sixel_scan.specs.Answers.{IsPlacedWithin, Tells, briefly}
use Rattle.sixel_scan.specs.Checking.{AreAfter, HasRead}

none_kept : (fault : Fault) → (let o : Option Fault = None in o) ≡ Some fault → ⊥
none_kept fault e = cc

same_kept : (e f : Fault) → Some e ≡ Some f → e ≡ f
same_kept e f is = cc

-- a check whose reader has no fault has seen the events of the bytes
pub after_of : (registers : ℕ) (check : StringCheck) (bytes : List ℕ) → fault_of check.reader ≡ None
    → HasRead registers check bytes → AreAfter registers check.reader check.checker bytes
after_of registers check bytes none read = elim read [
  | inl after ↦ after
  | inr refused ↦ absurd (none_kept refused.fault (sym none ∙ refused.kept))
]

-- a fault of its reader is that of the bytes
pub refused_of : (registers : ℕ) (check : StringCheck) (bytes : List ℕ) (fault : Fault)
    → fault_of check.reader ≡ Some fault → HasRead registers check bytes
    → (rest : List ℕ) → IsFaultOf (bytes ++ rest) fault
refused_of registers check bytes fault some read = elim read [
  | inl after ↦ absurd (none_kept fault (sym after.read.no_fault ∙ some))
  | inr refused ↦ λ rest.
      subst (IsFaultOf (bytes ++ rest)) (same_kept refused.fault fault (sym refused.kept ∙ some)) (refused.always rest)
]

-- more bytes change nothing
pub refused_on : (registers : ℕ) (check : StringCheck) (bytes more : List ℕ) (fault : Fault)
    → fault_of check.reader ≡ Some fault → HasRead registers check bytes → HasRead registers check (bytes ++ more)
refused_on registers check bytes more fault some read = inr (record {
  fault = fault;
  kept = some;
  always = λ rest.
      subst (λ (t : List ℕ). IsFaultOf t fault) (sym (append_assoc bytes more rest))
      (refused_of registers check bytes fault some read (more ++ rest));
})

-- a reader that ends well has no fault
pub ends_well : (o : Option Fault)
    → IfSome o (λ fault. (let r : Result (Unit {0}) Fault = Ok tt in r) ≡ Err fault) → o ≡ None
ends_well None h = refl
ends_well (Some fault) h = cc

-- the fault with which its reader ends is that of the bytes
pub ends_ill : (registers : ℕ) (check : StringCheck) (bytes : List ℕ) (fault : Fault)
    → IfSome (fault_of check.reader) (λ kept. (let r : Result (Unit {0}) Fault = Err fault in r) ≡ Err kept)
    → ((events : List Placed) → StandsAfter check.reader events bytes → IsFaultOf bytes fault)
    → HasRead registers check bytes → IsFaultOf bytes fault
ends_ill registers check bytes fault keeps ends read = elim read [
  | inl after ↦ ends after.events after.read
  | inr refused ↦
      subst (IsFaultOf bytes) (same_end fault refused.fault
      (subst (λ (o : Option Fault). IfSome o (λ kept. (let r : Result (Unit {0}) Fault = Err fault in r) ≡ Err kept))
      refused.kept keeps))
      (subst (λ (t : List ℕ). IsFaultOf t refused.fault) (append-nil bytes) (refused.always []))
]
  where
    same_end : (e f : Fault) → (let r : Result (Unit {0}) Fault = Err e in r) ≡ Err f → f ≡ e
    same_end e f is = cc

-- ---- the end of the string

pub fault_within : (bytes : List ℕ) (fault : Fault) → IsFaultOf bytes fault → fault.place ≤ length bytes
fault_within bytes fault h = elim h [
  | inl long ↦ omega (arith, long.long, ap (λ (f : Fault). f.place) long.fault_is)
  | inr refused ↦ refused.longest.within
]

none_placed : (k : ℕ) → (let o : Option ℕ = None in o) ≡ Some k → ⊥
none_placed k e = cc

same_some : (j k : ℕ) → Some j ≡ Some k → j ≡ k
same_some j k e = cc

placed_within : (n : ℕ) (ps : List Piece) (i k : ℕ)
    → option_map (λ (p : Placed). p.place) (slice_get (placed_from n ps) i) ≡ Some k → k ≤ n + length (joined ps)
placed_within n [] i k e = absurd (none_placed k e)
placed_within n (p ∷ ps) zero k e =
    let at : n + length p.filler ≡ k = same_some (n + length p.filler) k e in
    omega (
      arith,
      at,
      length-append (bytes_of p) (joined ps),
      length-append p.filler p.text,
    )
placed_within n (p ∷ ps) (suc i) k e =
    let h = placed_within (n + length (bytes_of p)) ps i k e in
    omega (arith, h, length-append (bytes_of p) (joined ps))

pub finding_within : {registers : ℕ} {events : List Placed} {bytes : List ℕ} {finding : Finding} {i : ℕ}
    → Document events bytes → IsFinding registers events finding i → finding.place ≤ length bytes
finding_within {finding} {i} d f =
    let there : option_map (λ (p : Placed). p.place) (slice_get (placed_from 0 d.pieces) i) ≡ Some finding.place =
    sym (ap (λ (es : List Placed). option_map (λ (p : Placed). p.place) (slice_get es i)) d.events_are) ∙ f.place in
    let h = placed_within 0 d.pieces i finding.place there in
    omega (arith, h, ap length d.parses.bytes_are, length-append (joined d.pieces) d.parses.after)

pub verdict_within : (registers : ℕ) {events : List Placed} {bytes : List ℕ} (verdict : Verdict) → Document events bytes
    → IsVerdict registers events verdict → IsPlacedWithin (length bytes) (Ok verdict)
verdict_within registers (Portable picture) d v = tt
verdict_within registers (Broken finding) d v = finding_within d v.1

-- ---- what is told without the picture

same_broken : (f g : Finding) → (let r : Result Outcome Fault = Ok (BrokenRule f) in r) ≡ Ok (BrokenRule g) → f ≡ g
same_broken f g is = cc

pub told_broken : (place : ℕ) (f : Finding) (whole : Result Verdict Fault)
    → (let r : Result Outcome Fault = Ok (BrokenRule f) in r) ≡ briefly whole
    → Tells place whole (SaysBroken (record f { place = place + f.place }))
told_broken place f (Ok (Portable picture)) is = cc
told_broken place f (Ok (Broken finding)) is =
    ap (λ (g : Finding). SaysBroken (record g { place = place + g.place })) (same_broken f finding is)
told_broken place f (Err fault) is = cc
