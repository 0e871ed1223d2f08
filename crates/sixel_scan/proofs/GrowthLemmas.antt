-- Where a check may allocate: in a string whose opening is complete.
use Rattle.std.proofs.Common.{◌≡◌, ◌≢◌, ◌∙◌, ℕ, ◌≤◌, inl, inr, Bool, true, false, List, [], ◌∷◌}
use Rattle.std.proofs.Common.{◌++◌, length, take, drop, refl, sym, ap, subst, append_assoc, arith}
use Rattle.std.specs.List.{AllByRecursion}
use Rattle.std.specs.Prelude.{Some, nat_le, slice_get}
use Rattle.std.proofs.lemmas.Bool.Decides.{nat_tests}
use Rattle.std.proofs.lemmas.List.{append-nil, take-append-drop}
use Rattle.sixel_grammar.specs.Bytes.{introducer}
use Rattle.sixel_grammar.specs.Document.{AreWhole, Parses, Piece, bytes_of, events_in, joined}
use Rattle.sixel_grammar.specs.Prefixes.{complete_from, completed_at}
use Rattle.sixel_grammar.specs.Spelling.{Spells}
use Rattle.sixel_grammar.specs.declared.command.Event.{Event}
use Rattle.sixel_grammar.specs.declared.command.Event.TheVariants.{Start, Step, Finish}
use Rattle.sixel_grammar.specs.declared.command.Placed.{Placed}
use Rattle.sixel_grammar.proofs.PieceLemmas.{all-append}
use Rattle.sixel_judge.specs.Growth.{MayGrowAmong, MayGrowIn}
use Rattle.sixel_scan.specs.declared.opening.Opening.TheVariants.{Introduced}
use Rattle.sixel_scan.specs.Openings.{Advances, IsBegun}
use Rattle.sixel_scan.specs.declared.scanner.Stage.{Stage}
use Rattle.sixel_scan.specs.declared.scanner.Stage.TheVariants.{Escaped, Inside}
use Rattle.sixel_scan.specs.declared.string_check.StringCheck.{StringCheck}
use Rattle.sixel_scan.specs.Prefixes.{AreBeforeGrowth}
use Rattle.sixel_scan.specs.Standing.{IsOpenString, ReadsNextWith, StandsWith}
use Rattle.sixel_scan.specs.Strings.{AreParameters, IsOpening, Opens, StringAt, final, is_parameter}
use Rattle.sixel_scan.proofs.ListLemmas.{shorter_first}
use Rattle.sixel_scan.proofs.OpeningLemmas.{bool_cases}
use Rattle.sixel_scan.proofs.StringLemmas.{resumes_more}

-- ---- bytes without a `q`

abbrev HasNoFinal : List ℕ → Type 0
HasNoFinal bytes = AllByRecursion (λ b. b ≢ final) bytes

none_first : (xs ys : List ℕ) → HasNoFinal (xs ++ ys) → HasNoFinal xs
none_first [] ys h = tt
none_first (x ∷ xs) ys h = (h.0, none_first xs ys h.1)

none_rest : (xs ys : List ℕ) → HasNoFinal (xs ++ ys) → HasNoFinal ys
none_rest [] ys h = h
none_rest (x ∷ xs) ys h = none_rest xs ys h.1

none_take : (n : ℕ) (xs : List ℕ) → HasNoFinal xs → HasNoFinal (take n xs)
none_take n xs h = none_first (take n xs) (drop n xs) (subst HasNoFinal (sym (take-append-drop n xs)) h)

parameter_not_final : (b : ℕ) → is_parameter b ≡ true → b ≢ final
parameter_not_final b is e = let no : true ≡ false = sym is ∙ ap is_parameter e in cc

parameters_without : (bytes : List ℕ) → AreParameters bytes → HasNoFinal bytes
parameters_without [] are = tt
parameters_without (b ∷ bytes) are = (parameter_not_final b are.0, parameters_without bytes are.1)

introducer_without : (by_eight : Bool) → HasNoFinal (introducer by_eight)
introducer_without true = (λ e. absurd (omega (arith, e)), tt)
introducer_without false = (λ e. absurd (omega (arith, e)), (λ e. absurd (omega (arith, e)), tt))

begun_without : {eight : Bool} {bytes : List ℕ} → IsBegun eight bytes → HasNoFinal bytes
begun_without b =
    subst HasNoFinal (sym b.bytes_are)
    (all-append (λ x. x ≢ final) (introducer b.by_eight) b.parameters (introducer_without b.by_eight)
    (parameters_without b.parameters b.parameters_are))

-- ---- no event is complete in them

start_has_one : (e : Event) (more : List Event) (text : List ℕ) → Spells e text → AreWhole (e ∷ more)
    → HasNoFinal text → ⊥
start_has_one (Start by_eight parameters) more text spells whole none =
    let last = none_rest (introducer by_eight ++ spells.0) spells.1 (subst HasNoFinal spells.5 none) in
    elim spells.4 [
      | inl e ↦ (subst HasNoFinal e last).0 refl
      | inr e ↦ (subst HasNoFinal e.0 last).1.0 refl
    ]
start_has_one (Step c) more text spells whole none = whole
start_has_one (Finish by_eight) more text spells whole none = whole

within_test : (n held : ℕ) → nat_le n held ≡ true → n ≤ held
within_test n held on = grind (arith, nat_tests)

first_complete : (held : ℕ) (p : Piece) (ps : List Piece) → (complete_from held 0 (p ∷ ps) ≡ [] → ⊥)
    → length (bytes_of p) ≤ held
first_complete held p ps some = elim (bool_cases (nat_le (completed_at 0 p) held)) [
  | inl on ↦ omega (arith, within_test (completed_at 0 p) held on)
  | inr off ↦ absurd (some (rw off refl))
]

pieces_have_one : (pieces : List Piece) (prefix tail : List ℕ) → Parses pieces (prefix ++ tail) → HasNoFinal prefix
    → (complete_from (length prefix) 0 pieces ≡ [] → ⊥) → ⊥
pieces_have_one [] prefix tail h none some = some refl
pieces_have_one (p ∷ ps) prefix tail h none some =
    let first = shorter_first (bytes_of p) (joined ps ++ h.after) prefix tail
    (sym (h.bytes_are ∙ append_assoc (bytes_of p) (joined ps) h.after))
    (first_complete (length prefix) p ps some) in
    start_has_one p.event (events_in ps) p.text h.each.0.spells h.whole
    (none_rest p.filler p.text (subst HasNoFinal first (none_take (length (bytes_of p)) prefix none)))

none_among : (registers : ℕ) (events : List Placed) → MayGrowAmong registers events → events ≡ [] → ⊥
none_among registers events grows none =
    let at = subst (MayGrowAmong registers) none grows in
    let no : slice_get (let l : List Event = [] in l) at.0 ≡ Some at.1.item = at.1.here in cc

nothing_grows : {registers : ℕ} {bytes : List ℕ} → HasNoFinal bytes → MayGrowIn registers bytes → ⊥
nothing_grows {registers} none g =
    let c = g.complete in
    pieces_have_one c.pieces g.prefix c.tail c.parses (none_first g.prefix g.rest (subst HasNoFinal g.bytes_are none))
    (λ e. none_among registers g.events g.grows (c.complete ∙ e))

-- ---- the opening of the string

-- after an introducer, digits and `;`, nothing is allocated
pub begun_grows_not : {eight : Bool} {registers : ℕ} {held : List ℕ} {byte : ℕ} → Advances eight Introduced held byte
    → MayGrowIn registers (held ++ byte ∷ []) → ⊥
begun_grows_not {eight} {registers} {held} {byte} a grows =
    let kept : held ++ byte ∷ [] ≡ a.kept = a.bytes_are ∙ ap (λ (t : List ℕ). t ++ a.kept) (a.grows refl).0 in
    nothing_grows (begun_without a.is_held) (subst (MayGrowIn registers) kept grows)

pub opens_now : {eight : Bool} {bytes : List ℕ} → IsOpening eight bytes → Opens eight bytes
opens_now {bytes} is = (bytes, [], is, sym (append-nil bytes))

pub opens_before : {eight : Bool} {held : List ℕ} (more : List ℕ) → IsOpenString eight held → Opens eight (held ++ more)
opens_before more h = (
  h.opening,
  h.body ++ more,
  h.opens,
  ap (λ (t : List ℕ). t ++ more) h.bytes_are ∙ append_assoc h.opening h.body more,
)

pub opens_escaped : {eight : Bool} {string : List ℕ} (more : List ℕ) → IsOpenString eight string
    → Opens eight ((string ++ 27 ∷ []) ++ more)
opens_escaped {eight} {string} more h =
    subst (Opens eight) (sym (append_assoc string (27 ∷ []) more)) (opens_before (27 ∷ more) h)

-- at a byte that comes
pub byte_grows : {eight : Bool} {registers read opened : ℕ} {check : StringCheck} {stage : Stage} {byte : ℕ}
    {told : List StringAt} {bytes : List ℕ} (r : ReadsNextWith eight registers read opened check stage byte told bytes)
    → Opens eight (r.held ++ byte ∷ []) → MayGrowIn registers (r.held ++ byte ∷ [])
    → AreBeforeGrowth eight registers told bytes
byte_grows {byte} r opens grows = record {
  before = r.before;
  string = r.held ++ byte ∷ [];
  bytes_are = r.bytes_are;
  resumes = r.resumes;
  opens = opens;
  grows = grows;
}

-- at the byte after an ESC
pub escape_grows : {eight : Bool} {registers read opened : ℕ} {check : StringCheck} {byte : ℕ} {told : List StringAt}
    {bytes : List ℕ} (r : ReadsNextWith eight registers read opened check Escaped byte told bytes)
    → MayGrowIn registers ((r.holds.0 ++ 27 ∷ []) ++ byte ∷ []) → AreBeforeGrowth eight registers told bytes
escape_grows {eight} {registers} {byte} r grows =
    byte_grows r
    (subst (λ (t : List ℕ). Opens eight (t ++ byte ∷ [])) (sym r.holds.1) (opens_escaped (byte ∷ []) r.holds.2))
    (subst (λ (t : List ℕ). MayGrowIn registers (t ++ byte ∷ [])) (sym r.holds.1) grows)

-- in an open string and bytes after it
pub stretch_grows : {eight : Bool} {registers read opened : ℕ} {check : StringCheck} {told : List StringAt}
    {bytes : List ℕ} (run : List ℕ) (at : StandsWith eight registers read opened check Inside told bytes)
    → MayGrowIn registers (at.held ++ run) → AreBeforeGrowth eight registers told (bytes ++ run)
stretch_grows {eight} {told} {bytes} run at grows = record {
  before = at.before;
  string = at.held ++ run;
  bytes_are = ap (λ (t : List ℕ). t ++ run) at.bytes_are ∙ append_assoc at.before at.held run;
  resumes = resumes_more eight told bytes (length at.before) at.held run at.resumes;
  opens = opens_before run at.holds.0;
  grows = grows;
}
