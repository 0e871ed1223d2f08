use Rattle.std.proofs.Common.{◌≡◌, false, [], ◌∷◌, ◌++◌, ap, sym, ◌∙◌}
use Rattle.std.specs.Prelude.{is_some}
use Rattle.std.specs.Option.{option_map}
use Rattle.sixel_grammar.specs.Document.{events_of}
use Rattle.sixel_model.specs.Profiles.{count_of}
use Rattle.sixel_judge.proofs.GrowthLemmas.{err_says, judge_grows}
use Rattle.sixel_judge.proofs.JudgeLemmas.{finding_stays, judge_finds, judge_goes_on, judges_of, notes_kept}
use Rattle.sixel_judge.proofs.JudgeLemmas.{unbroken_of}
use Rattle.sixel_judge.proofs.ViolationLemmas.{breaks_none}
use Rattle.sixel_judge.proofs.judge.Judge.step.Goals as goal

pub returns-then-is_some-clause-ok : goal.returns-then-is_some-clause-ok
returns-then-is_some-clause-ok g c = λ seen j.
    finding_stays _ _ _ _ _ seen c.args.placed.now (sym c.is_some.ensures ∙ c.if-is_some.true) j

pub returns-in-Some-clause-ok : goal.returns-in-Some-clause-ok
returns-in-Some-clause-ok g c = λ seen j.
    let none : is_some c.args.self.now.finding ≡ false = sym c.is_some.ensures ∙ c.if-is_some.false in
    let u = unbroken_of _ _ _ _ _ seen none j in
    judge_finds seen c.args.placed.now u (c.in-Some.ensures (events_of seen) u.notes_are u.grid_is)

pub returns-in_ok-draw-in-None-clause-ok : goal.returns-in_ok-draw-in-None-clause-ok
returns-in_ok-draw-in-None-clause-ok g c = λ seen j.
    let none : is_some c.args.self.now.finding ≡ false = sym c.is_some.ensures ∙ c.if-is_some.false in
    let drawn = option_map g.P.Cover.grid c.draw.new.plane in
    let u = unbroken_of _ _ _ _ _ seen none j in
    let keeps = breaks_none (count_of c.args.self.now.profile) (events_of seen) c.args.placed.now.event u.unbroken
    (c.in-None.ensures (events_of seen) u.notes_are u.grid_is) in
    judges_of c.args.self.now.profile c.args.self.now.finding (seen ++ c.args.placed.now ∷ []) none
    (judge_goes_on drawn seen c.args.placed.now u keeps
    (rw c.take_but_early.ensures (notes_kept _ c.args.placed.now.event u.notes_are keeps))
    (c.in_ok-draw-in-None.ensures.ok (count_of c.args.self.now.profile) (events_of seen) u keeps))

pub returns-in_err-draw-in-None-clause-grows : goal.returns-in_err-draw-in-None-clause-grows
returns-in_err-draw-in-None-clause-grows g c =
    let none : is_some c.args.self.now.finding ≡ false = sym c.is_some.ensures ∙ c.if-is_some.false in
    let refused = c.in_err-draw-in-None.ensures in
    err_says _ c.from_residual.result
    (λ seen j.
    let u = unbroken_of _ _ _ _ _ seen none j in
    judge_grows c.args.placed.now.event (ap (option_map g.P.Cover.grid) refused.first) refused.declares u
    (breaks_none (count_of c.args.self.now.profile) (events_of seen) c.args.placed.now.event u.unbroken
    (c.in-None.ensures (events_of seen) u.notes_are u.grid_is)))

pub draw-requires : goal.draw-requires
draw-requires g c =
    let none : is_some c.args.self.now.finding ≡ false = sym c.is_some.ensures ∙ c.if-is_some.false in
    let q = c.requires.stands in
    let before = events_of q.0 in
    let u = unbroken_of _ _ _ _ _ q.0 none q.1 in (
      count_of c.args.self.now.profile,
      before,
      u,
      breaks_none (count_of c.args.self.now.profile) before c.args.placed.now.event u.unbroken
          (c.in-None.ensures before u.notes_are u.grid_is),
      c.requires.spellable,
    )
