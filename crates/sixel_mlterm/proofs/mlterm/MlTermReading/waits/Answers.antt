use Rattle.sixel_mlterm.proofs.MlTermLemmas.{mlterm_alone}
use Rattle.sixel_mlterm.proofs.mlterm.MlTermReading.waits.Goals as goal

pub returns : goal.returns
returns c = λ is before next. mlterm_alone before c.args._event.now next
