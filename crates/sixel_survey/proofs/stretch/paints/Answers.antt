use Rattle.std.proofs.Common.{◌<◌, ◌∙◌, arith, length, sym}
use Rattle.sixel_survey.proofs.StretchLemmas.{some_paints}
use Rattle.sixel_survey.proofs.stretch.paints.Goals as goal

pub returns-then-does_paint : goal.returns-then-does_paint
returns-then-does_paint c =
    let lt : c.loop-byte.byte-index < length c.args.stretch.now = omega (arith, c.loop-byte-test.true) in
    sym (some_paints c.args.stretch.now c.loop-byte.byte-index (length c.args.stretch.now) lt
    (sym c.does_paint.ensures ∙ c.if-does_paint.true))
