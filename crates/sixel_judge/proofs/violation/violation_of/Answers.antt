use Rattle.std.proofs.Common.{Some, None}
use Rattle.std.specs.Option.{option_map}
use Rattle.sixel_model.specs.Profiles.{count_of}
use Rattle.sixel_model.proofs.PictureLemmas.{at_most_256}
use Rattle.sixel_judge.proofs.ViolationLemmas.{found_first, grid_covers, passed_without_box}
use Rattle.sixel_judge.proofs.violation.violation_of.Goals as goal

pub returns-in-Some-default : goal.returns-in-Some-default
returns-in-Some-default g c = λ before s d.
    found_first _ _ g.P.Cover.grid c.args.plane.now c.args.event.now _ (Some c.in-Some-default.rule)
    (at_most_256 c.args.profile) s d c.is_some.ensures c.in-Some-default.ensures

pub returns-in-None-Some : goal.returns-in-None-Some
returns-in-None-Some g c = λ before s d.
    c.violation_of_pixels.ensures (count_of c.args.profile) before s
    (rw c.in-None-Some.is-1 at (grid_covers _ (option_map g.P.Cover.grid c.args.plane.now) before d))
    (found_first _ _ g.P.Cover.grid c.args.plane.now c.args.event.now _ None (at_most_256 c.args.profile) s d
    c.is_some.ensures c.in-None-Some.ensures)

pub returns-in-None-None : goal.returns-in-None-None
returns-in-None-None g c = λ before s d.
    let cover = grid_covers _ (option_map g.P.Cover.grid c.args.plane.now) before d in
    c.violation_of_eight_bit.ensures (count_of c.args.profile) before
    (passed_without_box _ before c.args.event.now (rw c.in-None-None.is-1 at cover)
    (found_first _ _ g.P.Cover.grid c.args.plane.now c.args.event.now _ None (at_most_256 c.args.profile) s d
    c.is_some.ensures c.in-None-None.ensures))
