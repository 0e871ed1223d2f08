use Rattle.std.proofs.Common.{length}
use Rattle.sixel_model.specs.Profiles.{count_of}
use Rattle.sixel_judge.proofs.GrowthLemmas.{err_says}
use Rattle.sixel_scan.proofs.GrowthLemmas.{begun_grows_not, byte_grows, opens_now}
use Rattle.sixel_scan.specs.declared.opening.Opening.TheVariants.{Introduced}
use Rattle.sixel_scan.specs.declared.scanner.Stage.TheVariants.{Text, Inside}
use Rattle.sixel_scan.proofs.MarkLemmas.{follows_plain, knows_byte}
use Rattle.sixel_scan.proofs.ScanLemmas.{text_held, to_introduced}
use Rattle.sixel_scan.proofs.scanner.Scanner.read_text.Goals as goal

pub returns-in_err-check_opening-in-None-clause-memory : goal.returns-in_err-check_opening-in-None-clause-memory
returns-in_err-check_opening-in-None-clause-memory c =
    err_says _ c.from_residual.result
    (λ told bytes r.
    let s = c.args.self.now in
    let held = text_held s.eight (count_of s.profile) s.opened s.check c.args.opening (length r.before) r.held
    r.holds in
    byte_grows r (opens_now (c.in-None.ensures.next r.held held))
    (c.in_err-check_opening-in-None.ensures.memory (length r.before) r.held r.holds))

pub returns-in_err-check_opening-in-Some-Introduced-clause-memory :
    goal.returns-in_err-check_opening-in-Some-Introduced-clause-memory
returns-in_err-check_opening-in-Some-Introduced-clause-memory c =
    err_says _ c.from_residual-in_err-check_opening-in-Some-Introduced.result
    (λ told bytes r.
    let s = c.args.self.now in
    let f = rw c.in-Some-Introduced.field-0-is at c.in-Some-Introduced.ensures.next in
    let registers = count_of s.profile in
    let held = text_held s.eight registers s.opened s.check c.args.opening (length r.before) r.held r.holds in
    absurd (begun_grows_not (f r.held held)
    (c.in_err-check_opening-in-Some-Introduced.ensures.memory (length r.before) r.held r.holds)))

pub returns-in_ok-check_opening-in-Some-Introduced-clause-read :
    goal.returns-in_ok-check_opening-in-Some-Introduced-clause-read
returns-in_ok-check_opening-in-Some-Introduced-clause-read c =
    rw c.check_opening-in-Some-Introduced.ensures.rest
    (λ told bytes r.
    let f = rw c.in-Some-Introduced.field-0-is at c.in-Some-Introduced.ensures.next in
    to_introduced r c.check_opening-in-Some-Introduced.new.self.check f
    (c.in_ok-check_opening-in-Some-Introduced.ensures.check (length r.before) r.held r.holds))

pub returns-in_ok-check_opening-in-None-clause-knows : goal.returns-in_ok-check_opening-in-None-clause-knows
returns-in_ok-check_opening-in-None-clause-knows c =
    rw c.check_opening.ensures.rest
    (λ bytes k. knows_byte Inside c.args.byte (follows_plain c.args.opening bytes c.args.byte k.ends c.in-None.ensures.follows) k)

pub returns-in_ok-check_opening-in-Some-Introduced-clause-knows :
    goal.returns-in_ok-check_opening-in-Some-Introduced-clause-knows
returns-in_ok-check_opening-in-Some-Introduced-clause-knows c =
    rw c.check_opening-in-Some-Introduced.ensures.rest
    (λ bytes k.
    let f = rw c.in-Some-Introduced.field-0-is at c.in-Some-Introduced.ensures.follows in
    knows_byte (Text Introduced) c.args.byte (follows_plain c.args.opening bytes c.args.byte k.ends f) k)

pub returns-in-Some : goal.returns-in-Some
returns-in-Some c = record {
  read = λ told bytes r.
      c.hold.ensures.stands c.args.opening c.args.byte told bytes c.in-Some.ensures.next r;
  knows = λ bytes k. c.hold.ensures.knows c.args.byte bytes c.in-Some.ensures.follows k;
  memory = tt;
  profile = c.hold.ensures.profile;
  eight = c.hold.ensures.eight;
}
