use Rattle.std.proofs.Common.{◌+◌, ℕ, arith, sym}
use Rattle.sixel_grammar.specs.Faults.{RepeatNumber}
use Rattle.sixel_grammar.specs.Runs.{select_events}
use Rattle.sixel_grammar.proofs.RunLemmas.{repeat_ended, repeat_led, repeat_number}
use Rattle.sixel_grammar.proofs.NoRunLemmas.{stuck}
use Rattle.sixel_grammar.proofs.run.repeat_in.Goals as goal
use Rattle.sixel_grammar.proofs.run.repeat_in.Goals.{then-digits-piece-via-then-digits-piece}
use Rattle.sixel_grammar.proofs.run.repeat_in.Goals.{then-digits-piece-via-else-digits-piece+then-not-is_data}

pub returns-clause-leads : goal.returns-clause-leads
returns-clause-leads c = λ place select leads.
    repeat_ended place c.args.piece.now c.digits_in-digits.result.end c.digits_in-digits.result.value
    (place + c.args.from) (select_events place select)
    (c.digits_in-digits.ensures.reads place (place + c.args.from) (select_events place select) (λ n. RepeatNumber n)
    repeat_number (repeat_led place c.args.piece.now c.args.from select leads c.requires.some c.requires.sign))
    (omega arith) (sym c.if-not-is_data.ensures)

pub returns-then-digits-piece-clause-refused : goal.returns-then-digits-piece-clause-refused
returns-then-digits-piece-clause-refused c = λ _.
    let digits = c.digits_in-digits.ensures in
    let end : ℕ = c.digits_in-digits.result.end in (
      end,
      c.digits_in-digits.result.value,
      omega (arith, digits.within.0),
      digits.within.1,
      digits.reads,
      elim c.then-digits-piece.branch [
        | then-digits-piece-via-then-digits-piece w ↦ λ more. absurd (omega (arith, more, w.if-digits-piece.true))
        | then-digits-piece-via-else-digits-piece+then-not-is_data w ↦ λ more.
            stuck c.digits_in-digits.result.value _ (digits.stops more) (sym w.if-not-is_data.ensures)
      ],
    )
