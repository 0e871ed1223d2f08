use Rattle.std.proofs.Common.{ap, refl, subst, sym}
use Rattle.std.specs.Option.{option_map}
use Rattle.sixel_judge.specs.Standing.{CheckerValue, StandsAfter}
use Rattle.sixel_judge.proofs.StandLemmas.{judges_inside}
use Rattle.sixel_judge.proofs.StretchLemmas.{stretch_taken}
use Rattle.sixel_judge.proofs.checker.Checker.try_push_stretch.Goals as goal

pub try_take_stretch-requires-clause-stands : goal.try_take_stretch-requires-clause-stands
try_take_stretch-requires-clause-stands g c = (
  c.requires.expected.1,
  judges_inside _ _ _ c.requires.expected.1 c.self.view_is c.requires.expected.2,
)

pub returns-clause-pushed : goal.returns-clause-pushed
returns-clause-pushed g c = λ done registers place seen s may.
    let took = c.try_take_stretch.ensures in
    stretch_taken registers place c.args.count c.args.bytes.now _ _ seen c.requires.bytes c.requires.sixels may refl
    took.profile took.finding refl
    (λ some. (ap (λ j. j.notes) (took.broken some), ap (λ j. option_map g.P.Cover.grid j.plane) (took.broken some)))
    (took.taken done)
    (subst (λ (v : CheckerValue). StandsAfter registers v seen) (sym c.self.view_is) s)
