use Rattle.std.proofs.Common.{◌≡◌, ◌++◌, ◌∷◌, [], ℕ, List, Option, Result, Ok, Err}
use Rattle.std.specs.Option.{option_to_list}
use Rattle.std.specs.Prelude.{IfOk}
use Rattle.std.proofs.lemmas.Result.{on_err_weaker}
use Rattle.sixel_scan.specs.declared.answer.Scanned.{Scanned}
use Rattle.sixel_scan.specs.declared.scanner.Scanner.{Scanner}
use Rattle.sixel_scan.specs.declared.scanner.Stage.{Stage}
use Rattle.sixel_scan.specs.Standing.{ReadsNext, Reports, Stands}
use Rattle.sixel_scan.specs.Strings.{StringAt}
use Rattle.sixel_judge.proofs.GrowthLemmas.{err_says}
use Rattle.sixel_scan.specs.Marking.{Knows, KnowsAt, Marks}
use Rattle.sixel_scan.proofs.MarkLemmas.{knows_at}
use Rattle.sixel_scan.proofs.ReportLemmas.{next_at, reports_none}
use Rattle.sixel_scan.proofs.scanner.Scanner.read_byte.Goals as goal

pub read_text-requires-clause-stands : goal.read_text-requires-clause-stands
read_text-requires-clause-stands c =
    let t = c.requires.stands in (t.0, t.1 ++ c.args.byte ∷ [], next_at c.in-Text.is t.2)

pub read_inside-requires-clause-stands : goal.read_inside-requires-clause-stands
read_inside-requires-clause-stands c =
    let t = c.requires.stands in (t.0, t.1 ++ c.args.byte ∷ [], next_at c.in-Inside.is t.2)

pub read_escaped-requires-clause-stands : goal.read_escaped-requires-clause-stands
read_escaped-requires-clause-stands c =
    let t = c.requires.stands in (t.0, t.1 ++ c.args.byte ∷ [], next_at c.in-Escaped.is t.2)

pub returns-in_err-read_text-in-Text-clause-memory : goal.returns-in_err-read_text-in-Text-clause-memory
returns-in_err-read_text-in-Text-clause-memory c =
    err_says _ c.from_residual.result
    (λ told bytes h.
    c.in_err-read_text-in-Text.ensures.memory told (bytes ++ c.args.byte ∷ []) (next_at c.in-Text.is h))

pub returns-in_ok-read_text-in-Text-clause-read : goal.returns-in_ok-read_text-in-Text-clause-read
returns-in_ok-read_text-in-Text-clause-read c = λ told bytes h.
    let more = bytes ++ c.args.byte ∷ [] in
    reports_none _ told more (c.in_ok-read_text-in-Text.ensures.read told more (next_at c.in-Text.is h))

-- a call that reads the byte at this stage
read_at : {E : Type 0} (s now : Scanner) (stage : Stage) (byte : ℕ) (x : Result (Option Scanned) E) → s.stage ≡ stage
    → IfOk x (λ scanned. (told : List StringAt) (bytes : List ℕ) → ReadsNext s stage byte told bytes
    → Reports now told bytes (option_to_list scanned))
    → IfOk x (λ scanned. (told : List StringAt) (bytes : List ℕ) → Stands s told bytes
    → Reports now told (bytes ++ byte ∷ []) (option_to_list scanned))
read_at s now stage byte (Ok scanned) is read = λ told bytes h. read told (bytes ++ byte ∷ []) (next_at is h)
read_at s now stage byte (Err fault) is read = tt

pub returns-in-Inside-clause-read : goal.returns-in-Inside-clause-read
returns-in-Inside-clause-read c =
    read_at c.args.self.now c.read_inside.new.self _ c.args.byte c.read_inside.result c.in-Inside.is
    c.read_inside.ensures.read

pub returns-in-Inside-clause-memory : goal.returns-in-Inside-clause-memory
returns-in-Inside-clause-memory c =
    on_err_weaker c.read_inside.result
    (λ grows told bytes h. grows told (bytes ++ c.args.byte ∷ []) (next_at c.in-Inside.is h))
    c.read_inside.ensures.memory

pub returns-in-Escaped-clause-read : goal.returns-in-Escaped-clause-read
returns-in-Escaped-clause-read c =
    read_at c.args.self.now c.read_escaped.new.self _ c.args.byte c.read_escaped.result c.in-Escaped.is
    c.read_escaped.ensures.read

pub returns-in-Escaped-clause-memory : goal.returns-in-Escaped-clause-memory
returns-in-Escaped-clause-memory c =
    on_err_weaker c.read_escaped.result
    (λ grows told bytes h. grows told (bytes ++ c.args.byte ∷ []) (next_at c.in-Escaped.is h))
    c.read_escaped.ensures.memory

pub returns-in_ok-read_text-in-Text-clause-marks : goal.returns-in_ok-read_text-in-Text-clause-marks
returns-in_ok-read_text-in-Text-clause-marks c = λ bytes k. record {
  knows = c.in_ok-read_text-in-Text.ensures.knows bytes (knows_at c.args.self.now c.in-Text.is k);
  marked = tt;
}

marks_at : {E : Type 0} (s now : Scanner) (stage : Stage) (byte : ℕ) (x : Result (Option Scanned) E) → s.stage ≡ stage
    → IfOk x (λ scanned. (bytes : List ℕ) → KnowsAt s stage bytes
    → Marks now (bytes ++ byte ∷ []) (option_to_list scanned))
    → IfOk x (λ scanned. (bytes : List ℕ) → Knows s bytes
    → Marks now (bytes ++ byte ∷ []) (option_to_list scanned))
marks_at s now stage byte (Ok scanned) is marks = λ bytes k. marks bytes (knows_at s is k)
marks_at s now stage byte (Err fault) is marks = tt

pub returns-in-Inside-clause-marks : goal.returns-in-Inside-clause-marks
returns-in-Inside-clause-marks c =
    marks_at c.args.self.now c.read_inside.new.self _ c.args.byte c.read_inside.result c.in-Inside.is
    c.read_inside.ensures.marks

pub returns-in-Escaped-clause-marks : goal.returns-in-Escaped-clause-marks
returns-in-Escaped-clause-marks c =
    marks_at c.args.self.now c.read_escaped.new.self _ c.args.byte c.read_escaped.result c.in-Escaped.is
    c.read_escaped.ensures.marks
