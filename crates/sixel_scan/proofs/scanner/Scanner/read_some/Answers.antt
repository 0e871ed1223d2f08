use Rattle.std.proofs.Common.{◌≡◌, ◌∙◌, ◌<◌, ◌≤◌, ℕ, zero, suc, ◌++◌, ◌∷◌, [], List, Bool, ap, arith, get_or, length}
use Rattle.std.proofs.Common.{refl, subst, take}
use Rattle.std.proofs.lemmas.List.{append-nil}
use Rattle.std.specs.Option.{option_to_list}
use Rattle.sixel_judge.proofs.GrowthLemmas.{err_says}
use Rattle.sixel_model.specs.Profiles.{count_of}
use Rattle.sixel_scan.specs.Prefixes.{AreBeforeGrowth}
use Rattle.sixel_scan.specs.Marking.{Marks}
use Rattle.sixel_scan.specs.Standing.{Reports}
use Rattle.sixel_scan.proofs.ReportLemmas.{reports_none}
use Rattle.sixel_scan.proofs.scanner.Scanner.read_some.Goals as goal

-- no text was passed, and one byte is read
one_byte : (bytes piece : List ℕ) (count byte : ℕ) → count ≤ 0 → 0 < length piece → byte ≡ get_or piece 0 0
    → (bytes ++ take count piece) ++ byte ∷ [] ≡ bytes ++ take 1 piece
one_byte bytes [] count byte none some is = absurd (omega arith)
one_byte bytes (b ∷ rest) zero byte none some is =
    ap (λ (t : List ℕ). t ++ byte ∷ []) (append-nil bytes) ∙ ap (λ (x : ℕ). bytes ++ x ∷ []) is
one_byte bytes (b ∷ rest) (suc count) byte none some is = absurd (omega (arith, none))

pub returns-then-count-gt0-clause-reports : goal.returns-then-count-gt0-clause-reports
returns-then-count-gt0-clause-reports c = λ told bytes h.
    reports_none _ told (bytes ++ take c.in_ok-count.count c.args.piece.now)
    (c.in_ok-count.ensures.stands told bytes h)

pub read_byte-requires-clause-stands : goal.read_byte-requires-clause-stands
read_byte-requires-clause-stands c =
    let t = c.requires.stands in (
      t.0,
      t.1 ++ take c.in_ok-count.count c.args.piece.now,
      c.in_ok-count.ensures.stands t.0 t.1 t.2,
    )

pub returns-in_err-scanned-clause-memory : goal.returns-in_err-scanned-clause-memory
returns-in_err-scanned-clause-memory c =
    err_says _ c.from_residual-in_err-scanned.result
    (λ told bytes h.
    let s = c.args.self.now in
    let piece = c.args.piece.now in
    let count = c.in_ok-count.count in
    let q = c.read_stretch.new.self in
    let at = c.in_ok-count.ensures.stands told bytes h in (
      1,
      subst (λ (n : ℕ). AreBeforeGrowth s.eight n told (bytes ++ take 1 piece))
          (ap count_of c.in_ok-count.ensures.profile)
          (subst (λ (e : Bool). AreBeforeGrowth e (count_of q.profile) told (bytes ++ take 1 piece))
          c.in_ok-count.ensures.eight
          (subst (AreBeforeGrowth q.eight (count_of q.profile) told)
          (one_byte bytes piece count _ c.if-count-gt0.false c.requires.some refl)
          (c.in_err-scanned.ensures.memory told (bytes ++ take count piece) at))),
    ))

pub returns-clause-reports : goal.returns-clause-reports
returns-clause-reports c = λ told bytes h.
    let piece = c.args.piece.now in
    let count = c.in_ok-count.count in
    let at = c.in_ok-count.ensures.stands told bytes h in
    subst (λ (t : List ℕ). Reports c.read_byte.new.self told t (option_to_list c.in_ok-scanned.scanned))
    (one_byte bytes piece count _ c.if-count-gt0.false c.requires.some refl)
    (c.in_ok-scanned.ensures.read told (bytes ++ take count piece) at)

pub returns-then-count-gt0-clause-marks : goal.returns-then-count-gt0-clause-marks
returns-then-count-gt0-clause-marks c = λ bytes k.
    record { knows = c.in_ok-count.ensures.knows bytes k; marked = tt }

pub returns-clause-marks : goal.returns-clause-marks
returns-clause-marks c = λ bytes k.
    let piece = c.args.piece.now in
    let count = c.in_ok-count.count in
    subst (λ (t : List ℕ). Marks c.read_byte.new.self t (option_to_list c.in_ok-scanned.scanned))
    (one_byte bytes piece count _ c.if-count-gt0.false c.requires.some refl)
    (c.in_ok-scanned.ensures.marks (bytes ++ take count piece) (c.in_ok-count.ensures.knows bytes k))
