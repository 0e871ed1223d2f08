use Rattle.std.proofs.Common.{◌≡◌, ◌≢◌, ◌<◌, ◌≤◌, ◌++◌, ◌-◌, List, drop, get_or, length, refl, sym, take, ap, ◌∙◌}
use Rattle.std.proofs.Common.{arith, append_assoc}
use Rattle.sixel_encode.specs.Columns.{bits_of_sixels, part}
use Rattle.sixel_encode.proofs.GapRunLemmas.{apart_behind, none_passed}
use Rattle.sixel_encode.proofs.StretchLemmas.{blank_end, ink_text, next_text}
use Rattle.sixel_encode.proofs.TextLemmas.{columns_text, run_text}
use Rattle.sixel_encode.proofs.band.spell_columns.Goals as goal
use Rattle.sixel_encode.proofs.band.spell_columns.Goals.{else-end-sixels-via-then-end-sixels+else-sixels-start-eq63}
use Rattle.sixel_encode.proofs.band.spell_columns.Goals.{else-end-sixels-via-else-end-sixels}

pub loop-start-init : goal.loop-start-init
loop-start-init c = record {
  text = refl;
  long = c.requires.room;
  short = omega arith;
  within = omega arith;
  apart = λ some. absurd (omega (arith, some));
  next = λ listed. none_passed (c.requires.ends listed);
  small = omega arith;
}

pub returns-then-sixels-start-eq63-clause-text : goal.returns-then-sixels-start-eq63-clause-text
returns-then-sixels-start-eq63-clause-text c =
    let inv = c.loop-start.invariant in
    c.put_part-at.ensures.text
    ∙ sym (inv.text ∙ ap (λ (t : List _). take c.loop-start.at c.loop-start.text ++ t)
    (blank_end c.requires.sixels c.in-Some.ensures
    c.run_end-end.ensures.run (omega (arith, c.if-end-sixels.true)) c.if-sixels-start-eq63.true))

pub loop-start-preserved : goal.loop-start-preserved
loop-start-preserved c =
    let xs = c.args.sixels.now in
    let inv = c.loop-start.invariant in
    let some : c.run_end-end.result.0 ≡ length xs → get_or xs c.in-Some.start 0 ≢ 63 =
    elim c.else-end-sixels.branch [
      | else-end-sixels-via-then-end-sixels+else-sixels-start-eq63 w ↦ λ done blank. w.if-sixels-start-eq63.false blank
      | else-end-sixels-via-else-end-sixels w ↦ λ done blank. absurd (omega (arith, w.if-end-sixels.false, done))
    ] in
    let more = next_text xs c.loop-start.from c.in-Some.start c.run_end-end.result.0 c.requires.sixels
    c.in-Some.ensures c.run_end-end.ensures.run some in
    let line = take c.loop-start.at c.loop-start.text in
    let single = part c.loop-start.from c.in-Some.start xs in
    let run = run_text (c.run_end-end.result.0 - c.in-Some.start) (get_or xs c.in-Some.start 0 - 63) in
    let rest = columns_text (drop c.run_end-end.result.0 (bits_of_sixels xs)) in
    let low : c.loop-start.from ≤ c.in-Some.start = c.in-Some.ensures.after in
    let high : c.in-Some.start < c.run_end-end.result.0 = c.run_end-end.ensures.run.some in
    record {
      text = rw (c.put_repeat-at.ensures.text, c.put_part-at.ensures.text)
          (inv.text ∙ ap (λ (t : List _). line ++ t) more ∙ sym (append_assoc line (single ++ run) rest)
          ∙ ap (λ (t : List _). t ++ rest) (sym (append_assoc line single run)));
      long = c.put_repeat-at.ensures.long ∙ c.put_part-at.ensures.long ∙ inv.long;
      short = omega arith;
      within = c.run_end-end.ensures.run.within;
      apart = apart_behind c.run_end-end.ensures.run;
      next = c.run_end-end.ensures.next;
      small = c.run_end-end.ensures.small;
    }

pub returns-clause-text : goal.returns-clause-text
returns-clause-text c =
    let inv = c.loop-start.invariant in
    c.put_part.ensures.text
    ∙ sym (inv.text ∙ ap (λ (t : List _). take c.loop-start.at c.loop-start.text ++ t)
    (ink_text c.requires.sixels c.in_default.ensures c.ink_end.ensures))
