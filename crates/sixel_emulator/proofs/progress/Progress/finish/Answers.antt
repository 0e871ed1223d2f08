use Rattle.std.proofs.Common.{inl, inr, refl}
use Rattle.sixel_emulator.proofs.ProgressLemmas.{gives_drawing, gives_place, goes_not_ended, stopped_not_ended}
use Rattle.sixel_emulator.proofs.progress.Progress.finish.Goals as goal

pub returns-in-Goes : goal.returns-in-Goes
returns-in-Goes c = record {
  terminal = refl;
  gives = λ m opening placed come.
      gives_drawing m opening placed _ _ _
      (elim c.in-Goes.is [
        | inl goes ↦ goes_not_ended goes
        | inr stopped ↦ stopped_not_ended stopped
      ])
      come;
}

pub returns-in-Ended : goal.returns-in-Ended
returns-in-Ended c = record {
  terminal = tt;
  gives = λ m opening placed come. gives_place m opening placed _ _ _ c.in-Ended.is come;
}
