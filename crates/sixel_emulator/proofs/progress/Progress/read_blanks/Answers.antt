use Rattle.std.proofs.Common.{inl, inr, refl, sym, ◌≡◌, ◌∙◌}
use Rattle.sixel_emulator.specs.declared.course.Course.TheVariants.{Goes, Stopped, Ended}
use Rattle.sixel_emulator.proofs.ProgressLemmas.{come_drawn, come_one}
use Rattle.sixel_emulator.proofs.progress.Progress.read_blanks.Goals as goal

pub returns-in-Goes-clause-one : goal.returns-in-Goes-clause-one
returns-in-Goes-clause-one c = λ m opening placed n e reads at said goes blank come.
    come_one m opening placed n e reads c.args.self.now.course c.args.self.now.end c.args.self.now.drawing
    c.push_blanks.new.self at said goes (λ on before known. c.push_blanks.ensures.drawn before _ blank known)
    (λ not_goes. absurd (not_goes c.in-Goes.is)) come

pub returns-in-Goes-clause-sixels : goal.returns-in-Goes-clause-sixels
returns-in-Goes-clause-sixels c = λ m opening placed n bytes drawn are blank come.
    come_drawn m opening placed n bytes drawn c.args.self.now.course c.args.self.now.end c.args.self.now.drawing
    c.push_blanks.new.self are (λ goes before known. c.push_blanks.ensures.drawn before drawn blank known)
    (λ not_goes. absurd (not_goes c.in-Goes.is)) come

pub returns-in-Stopped : goal.returns-in-Stopped
returns-in-Stopped c = record {
  terminal = refl;
  one = λ m opening placed n e reads at said goes blank come.
      come_one m opening placed n e reads c.args.self.now.course c.args.self.now.end c.args.self.now.drawing
      c.args.self.now.drawing at said goes (λ on. absurd (not_on on)) (λ not_goes. refl) come;
  sixels = λ m opening placed n bytes drawn are blank come.
      come_drawn m opening placed n bytes drawn c.args.self.now.course c.args.self.now.end c.args.self.now.drawing
      c.args.self.now.drawing are (λ on. absurd (not_on on)) (λ not_goes. refl) come;
}
  where
    stopped_goes : Goes ≡ Stopped → ⊥
    stopped_goes h = cc

    ended_goes : Goes ≡ Ended → ⊥
    ended_goes h = cc

    not_on : c.args.self.now.course ≡ Goes → ⊥
    not_on on = elim c.in-Stopped.is [
      | inl stopped ↦ stopped_goes (sym on ∙ stopped)
      | inr ended ↦ ended_goes (sym on ∙ ended)
    ]
