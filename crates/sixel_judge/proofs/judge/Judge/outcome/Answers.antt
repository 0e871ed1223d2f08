use Rattle.std.proofs.Common.{refl, sym, ap₂, ◌∙◌}
use Rattle.sixel_grammar.specs.Document.{events_of}
use Rattle.sixel_model.specs.Profiles.{count_of}
use Rattle.sixel_model.specs.Rules.{picture_left}
use Rattle.sixel_model.proofs.RuleLemmas.{none_drawn}
use Rattle.sixel_judge.specs.declared.verdict.Outcome.TheVariants.{Portable as PortableSize}
use Rattle.sixel_judge.specs.declared.verdict.Verdict.TheVariants.{Portable, Broken}
use Rattle.sixel_judge.proofs.CoverLemmas.{has_box}
use Rattle.sixel_judge.proofs.WholeLemmas.{left_size}
use Rattle.sixel_judge.proofs.judge.Judge.outcome.Goals as goal

pub unreachable-requires : goal.unreachable-requires
unreachable-requires g c =
    let s = rw (c.in-None-None.is-0, c.in-None-None.is-1) at c.requires.1 in
    has_box _ (events_of c.requires.0) c.requires.2 (none_drawn _ (events_of c.requires.0) s.unbroken)
    s.grid_is.no_box

pub returns-in-Some-default : goal.returns-in-Some-default
returns-in-Some-default g c = λ seen j.
    (Broken c.in-Some-default.finding, rw c.in-Some-default.is-0 at j, refl)

pub returns-in-None-Some : goal.returns-in-None-Some
returns-in-None-Some g c = λ seen j.
    let registers = count_of c.args.self.profile in
    let s = rw (c.in-None-Some.is-0, c.in-None-Some.is-1) at j in
    let sides = left_size registers s.grid_is in (
      Portable (picture_left registers (events_of seen)),
      (s.unbroken, refl),
      ap₂ PortableSize (c.width.ensures ∙ sym sides.0) (c.height.ensures ∙ sym sides.1),
    )
