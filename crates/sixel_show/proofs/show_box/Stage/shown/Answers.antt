use Rattle.sixel_show.proofs.StageLemmas.{no-screen}
use Rattle.sixel_show.proofs.show_box.Stage.shown.Goals as goal

pub returns : goal.returns
returns c = λ terminal events bytes h. no-screen terminal c.args.self events bytes c.in_default.not-Drawn h
