-- Text in which no opening begins.
use Rattle.std.proofs.Common.{◌≡◌, ◌≢◌, ◌∙◌, ℕ, zero, suc, ◌+◌, ◌≤◌, Bool, List, [], ◌∷◌, ◌++◌, length, get_or}
use Rattle.std.proofs.Common.{refl, sym, ap, append_assoc, subst, arith, take}
use Rattle.std.proofs.lemmas.List.{append-nil, length-append, take_more}
use Rattle.sixel_scan.specs.declared.opening.Opening.TheVariants.{Nothing}
use Rattle.sixel_scan.specs.declared.scanner.Stage.TheVariants.{Text}
use Rattle.sixel_scan.specs.declared.string_check.StringCheck.{StringCheck}
use Rattle.sixel_scan.specs.Prefixes.{Resumes}
use Rattle.sixel_scan.specs.Scanning.{BeginNone, BeginsNone, NoneBegins}
use Rattle.sixel_scan.specs.Standing.{StandsWith}
use Rattle.sixel_scan.specs.Strings.{Opens, OpensAt, StringAt}
use Rattle.sixel_judge.proofs.PieceLemmas.{part_then, rest_of}
use Rattle.sixel_scan.proofs.OpeningLemmas.{escape_other, not_opening}
use Rattle.sixel_scan.proofs.AdvanceLemmas.{resumes_past_none}
use Rattle.sixel_scan.proofs.StringLemmas.{resumes_more}

-- a scan passes them
pub past_text : {eight : Bool} {registers read opened : ℕ} {check : StringCheck} {told : List StringAt} {bytes : List ℕ}
    (run : List ℕ) → StandsWith eight registers read opened check (Text Nothing) told bytes → NoneBegins eight run
    → StandsWith eight registers (read + length run) opened check (Text Nothing) told (bytes ++ run)
past_text {eight} {told} {bytes} run at none =
    let r : Resumes eight told (bytes ++ run) (length at.before) (run ++ []) =
    subst (Resumes eight told (bytes ++ run) (length at.before))
    (ap (λ (t : List ℕ). t ++ run) at.holds ∙ sym (append-nil run))
    (resumes_more eight told bytes (length at.before) at.held run at.resumes) in
    let whole : length at.before + length run ≡ length (bytes ++ run) =
    omega (arith, ap length at.bytes_are, length-append at.before at.held, ap length at.holds, length-append bytes run)
    in record {
      before = bytes ++ run;
      held = [];
      bytes_are = sym (append-nil (bytes ++ run));
      read_is = omega (arith, at.read_is, length-append bytes run);
      resumes = subst (λ (n : ℕ). Resumes eight told (bytes ++ run) n []) whole
          (resumes_past_none eight told (bytes ++ run) (length at.before) run []
          (λ n more less o.
          none n more less (subst (λ (t : List ℕ). OpensAt eight (t ++ more) n) (append-nil run) o)) r);
      holds = refl;
    }

-- ---- bytes at which no opening begins

pub none_of : (eight : Bool) (run : List ℕ) → BeginNone eight run → NoneBegins eight run
none_of eight [] none n more less = absurd (omega (arith, less))
none_of eight (b ∷ run) none zero more less = not_opening (run ++ more) none.0
none_of eight (b ∷ run) none (suc n) more less = none_of eight run none.1 n more (omega (arith, less))

pub none_joined : (eight : Bool) (xs ys : List ℕ) → NoneBegins eight xs → NoneBegins eight ys
    → NoneBegins eight (xs ++ ys)
none_joined eight [] ys first second n more less = second n more less
none_joined eight (x ∷ xs) ys first second zero more less =
    λ h. first 0 (ys ++ more) (omega arith) (subst (λ (t : List ℕ). Opens eight (x ∷ t)) (append_assoc xs ys more) h)
none_joined eight (x ∷ xs) ys first second (suc n) more less =
    none_joined eight xs ys (λ m rest lt. first (suc m) rest (omega (arith, lt))) second n more (omega (arith, less))

-- ESC, and a byte that is no P, with which no opening begins
pub none_escaped : {eight : Bool} (b : ℕ) {c : ℕ} → b ≡ 27 → c ≢ 80 → BeginsNone eight c → NoneBegins eight (b ∷ c ∷ [])
none_escaped {eight} b {c} is other none zero more less =
    λ h. escape_other eight c more other (subst (λ (x : ℕ). Opens eight (x ∷ c ∷ more)) is h)
none_escaped b is other none (suc zero) more less = not_opening more none
none_escaped b is other none (suc (suc n)) more less = absurd (omega (arith, less))

-- after some bytes of a piece an ESC, such a byte, and then some with which no opening begins
pub none_further : {eight : Bool} (piece : List ℕ) (i n : ℕ) → i + 2 ≤ length piece → NoneBegins eight (take i piece)
    → get_or piece i 0 ≡ 27 → get_or piece (i + 1) 0 ≢ 80 → BeginsNone eight (get_or piece (i + 1) 0)
    → BeginNone eight (take n (rest_of (i + 2) piece)) → NoneBegins eight (take (i + 2 + n) piece)
none_further {eight} piece i n within before is other none after =
    let b = get_or piece i 0 in
    let c = get_or piece (i + 1) 0 in
    let two : i + 1 + 1 ≡ i + 2 = omega arith in
    let pair : take (i + 2) piece ≡ take i piece ++ (b ∷ c ∷ []) =
    ap (λ (k : ℕ). take k piece) (sym two) ∙ take_more piece (i + 1) 0 (omega (arith, within))
    ∙ ap (λ (t : List ℕ). t ++ c ∷ []) (take_more piece i 0 (omega (arith, within)))
    ∙ append_assoc (take i piece) (b ∷ []) (c ∷ []) in
    subst (NoneBegins eight) (part_then [] piece (i + 2) n)
    (none_joined eight (take (i + 2) piece) (take n (rest_of (i + 2) piece))
    (subst (NoneBegins eight) (sym pair)
    (none_joined eight (take i piece) (b ∷ c ∷ []) before (none_escaped b is other none)))
    (none_of eight (take n (rest_of (i + 2) piece)) after))
