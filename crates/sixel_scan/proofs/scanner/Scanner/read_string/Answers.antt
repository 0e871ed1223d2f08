use Rattle.std.proofs.Common.{ℕ, ◌+◌, ◌++◌, take, subst, sym}
use Rattle.std.proofs.lemmas.List.{length-take-le}
use Rattle.sixel_judge.proofs.GrowthLemmas.{err_says}
use Rattle.sixel_model.specs.Profiles.{count_of}
use Rattle.sixel_scan.specs.declared.scanner.Stage.{Stage}
use Rattle.sixel_scan.specs.declared.scanner.Stage.TheVariants.{Inside}
use Rattle.sixel_scan.specs.Standing.{StandsWith}
use Rattle.sixel_scan.proofs.GrowthLemmas.{stretch_grows}
use Rattle.sixel_scan.specs.Marking.{KnowsWith}
use Rattle.sixel_scan.proofs.MarkLemmas.{knows_at, knows_more, plain_inside}
use Rattle.sixel_scan.proofs.ReportLemmas.{stands_at}
use Rattle.sixel_scan.proofs.ScanLemmas.{past_inside}
use Rattle.sixel_scan.proofs.scanner.Scanner.read_string.Goals as goal

pub read-requires : goal.read-requires
read-requires c =
    let s = c.args.self.now in
    let t = c.requires.stands in
    let r = stands_at s t.0 t.1 Inside c.requires.stage t.2 in
    (count_of s.profile, r.held, r.holds.2)

pub returns-in_err-read-clause-memory : goal.returns-in_err-read-clause-memory
returns-in_err-read-clause-memory c =
    err_says _ c.from_residual.result
    (λ told bytes h.
    let s = c.args.self.now in
    let count = c.string_bytes_in-count.result in
    let r = stands_at s told bytes Inside c.requires.stage h in (
      count,
      stretch_grows (take count c.args.piece.now) r
          (c.in_err-read.ensures.memory (count_of s.profile) r.held r.holds.2),
    ))

pub returns-clause-stands : goal.returns-clause-stands
returns-clause-stands c = λ told bytes h.
    let s = c.args.self.now in
    let count = c.string_bytes_in-count.result in
    let run = take count c.args.piece.now in
    let registers = count_of s.profile in
    let r = stands_at s told bytes Inside c.requires.stage h in
    subst (λ (t : Stage). StandsWith s.eight registers (s.read + count) s.opened c.read.new.self t told (bytes ++ run))
    (sym c.requires.stage)
    (subst (λ (n : ℕ). StandsWith s.eight registers (s.read + n) s.opened c.read.new.self Inside told (bytes ++ run))
    (length-take-le count c.args.piece.now c.string_bytes_in-count.ensures.within)
    (past_inside c.read.new.self run r
    c.string_bytes_in-count.ensures.inside (c.in_ok-read.ensures.read registers r.held r.holds.2)))

pub returns-clause-knows : goal.returns-clause-knows
returns-clause-knows c = λ bytes h.
    let s = c.args.self.now in
    let count = c.string_bytes_in-count.result in
    let run = take count c.args.piece.now in
    let k = knows_at s c.requires.stage h in
    subst (λ (t : Stage). KnowsWith t (s.read + count) s.opened s.wrapped (bytes ++ run)) (sym c.requires.stage)
    (subst (λ (n : ℕ). KnowsWith Inside (s.read + n) s.opened s.wrapped (bytes ++ run))
    (length-take-le count c.args.piece.now c.string_bytes_in-count.ensures.within)
    (knows_more Inside run (plain_inside s.eight bytes run k.ends c.string_bytes_in-count.ensures.inside) k))
