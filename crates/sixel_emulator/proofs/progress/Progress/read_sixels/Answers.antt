use Rattle.std.proofs.Common.{inl, inr, refl, sym, ◌≡◌, ◌∙◌}
use Rattle.sixel_emulator.specs.declared.course.Course.TheVariants.{Goes, Stopped, Ended}
use Rattle.sixel_emulator.proofs.ProgressLemmas.{come_sixels}
use Rattle.sixel_emulator.proofs.progress.Progress.read_sixels.Goals as goal

pub returns-in-Goes-clause-come : goal.returns-in-Goes-clause-come
returns-in-Goes-clause-come c = λ m opening placed n drawn come.
    come_sixels m opening placed n c.args.bytes.now c.args.self.now.course c.args.self.now.end
    c.args.self.now.drawing c.push_stretch.new.self drawn (λ goes before. c.push_stretch.ensures.drawn before)
    (λ not_goes. absurd (not_goes c.in-Goes.is)) come

pub returns-in-Stopped : goal.returns-in-Stopped
returns-in-Stopped c = record {
  terminal = refl;
  come = λ m opening placed n drawn come.
      come_sixels m opening placed n c.args.bytes.now c.args.self.now.course c.args.self.now.end
      c.args.self.now.drawing c.args.self.now.drawing drawn (λ goes. absurd (elim c.in-Stopped.is [
        | inl stopped ↦ stopped_goes (sym goes ∙ stopped)
        | inr ended ↦ ended_goes (sym goes ∙ ended)
      ])) (λ not_goes. refl) come;
}
  where
    stopped_goes : Goes ≡ Stopped → ⊥
    stopped_goes h = cc

    ended_goes : Goes ≡ Ended → ⊥
    ended_goes h = cc
