use Rattle.std.proofs.Common.{◌∙◌, inl, inr, sym, ◌≡◌}
use Rattle.sixel_emulator.specs.declared.course.Course.TheVariants.{Goes, Stopped, Ended}
use Rattle.sixel_emulator.proofs.ProgressLemmas.{come_past}
use Rattle.sixel_emulator.proofs.progress.Progress.is_over.Goals as goal

pub returns-in-Stopped : goal.returns-in-Stopped
returns-in-Stopped c = λ is m opening placed n bytes are come.
    come_past m opening placed n bytes c.args.self.now.course c.args.self.now.end c.args.self.now.drawing
    (λ goes. elim c.in-Stopped.is [
      | inl stopped ↦ stopped_goes (sym goes ∙ stopped)
      | inr ended ↦ ended_goes (sym goes ∙ ended)
    ])
    are come
  where
    stopped_goes : Goes ≡ Stopped → ⊥
    stopped_goes h = cc

    ended_goes : Goes ≡ Ended → ⊥
    ended_goes h = cc
