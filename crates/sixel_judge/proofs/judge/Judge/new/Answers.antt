use Rattle.sixel_model.proofs.PictureLemmas.{at_most_256}
use Rattle.sixel_judge.proofs.JudgeLemmas.{judge_start}
use Rattle.sixel_judge.proofs.judge.Judge.new.Goals as goal

pub returns-clause-none : goal.returns-clause-none
returns-clause-none g c = judge_start c.new.result (at_most_256 c.args.profile) c.new.ensures
