use Rattle.std.proofs.Common.{List, Option, ℕ}
use Rattle.std.specs.Option.{option_to_list}
use Rattle.std.proofs.lemmas.Result.{IfOk-weaker, on_err_weaker}
use Rattle.sixel_scan.specs.declared.answer.Scanned.{Scanned}
use Rattle.sixel_scan.specs.Marking.{Knows}
use Rattle.sixel_scan.specs.Scans.{IsReading, TellsAll}
use Rattle.sixel_scan.specs.Standing.{ReportsAll, Stands}
use Rattle.sixel_scan.specs.Strings.{StringAt}
use Rattle.sixel_scan.specs.Wrapping.{AreMarked}
use Rattle.sixel_scan.proofs.TellLemmas.{grows_all, marks_all, tells_all}
use Rattle.sixel_scan.proofs.scan.Scan.finish.Goals as goal

pub finish-requires-clause-stands : goal.finish-requires-clause-stands
finish-requires-clause-stands c = let t = c.requires.reads in (t.0, t.2.read, t.2.stands)

pub returns-clause-all : goal.returns-clause-all
returns-clause-all c =
    let s = c.args.self.now in
    IfOk-weaker c.finish.result
    (λ (x : Option Scanned). (told : List StringAt) (bytes : List ℕ) → Stands s.scanner told bytes
    → ReportsAll s.scanner told bytes (option_to_list x))
    (λ (x : Option Scanned). (told : List StringAt) (bytes : List ℕ) → IsReading s told bytes
    → TellsAll s told bytes (option_to_list x))
    (λ x all told bytes r. tells_all c.requires.empty r (all told r.read r.stands)) c.finish.ensures.all

pub returns-clause-memory : goal.returns-clause-memory
returns-clause-memory c =
    on_err_weaker c.finish.result
    (λ grows told bytes r. grows_all r (grows told r.read r.stands)) c.finish.ensures.memory

pub returns-clause-marked : goal.returns-clause-marked
returns-clause-marked c =
    let s = c.args.self.now in
    IfOk-weaker c.finish.result
    (λ (x : Option Scanned). (bytes : List ℕ) → Knows s.scanner bytes → AreMarked bytes (option_to_list x))
    (λ (x : Option Scanned). (told : List StringAt) (bytes : List ℕ) → IsReading s told bytes
    → AreMarked bytes (option_to_list x))
    (λ x marked told bytes r. marks_all (option_to_list x) c.requires.empty r (marked r.read r.knows)) c.finish.ensures.marked
