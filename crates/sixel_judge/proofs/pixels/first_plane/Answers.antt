use Rattle.std.proofs.Common.{sym}
use Rattle.sixel_judge.proofs.DrawLemmas.{drawn_box, no_attributes, sides_good, undrawn_still}
use Rattle.sixel_model.specs.Events.{raster_of}
use Rattle.sixel_judge.proofs.GrowthLemmas.{err_says, some_of_map}
use Rattle.sixel_judge.proofs.pixels.first_plane.Goals as goal

pub blank-requires-clause-width : goal.blank-requires-clause-width
blank-requires-clause-width g c =
    (sides_good _ c.requires.1 c.args.event.now c.in-Some.width c.in-Some.height c.requires.2 (sym c.in-Some.ensures)).0

pub blank-requires-clause-height : goal.blank-requires-clause-height
blank-requires-clause-height g c =
    (sides_good _ c.requires.1 c.args.event.now c.in-Some.width c.in-Some.height c.requires.2 (sym c.in-Some.ensures)).1

pub returns-in_ok-blank-in-Some-clause-ok : goal.returns-in_ok-blank-in-Some-clause-ok
returns-in_ok-blank-in-Some-clause-ok g c = λ registers before u none.
    rw c.in_ok-blank-in-Some.ensures
    (drawn_box _ before c.args.event.now c.in-Some.width c.in-Some.height none (sym c.in-Some.ensures) u)

pub returns-in-None-clause-ok : goal.returns-in-None-clause-ok
returns-in-None-clause-ok g c = λ registers before u none.
    undrawn_still _ before c.args.event.now none (no_attributes (raster_of c.args.event.now) (sym c.in-None.ensures)) u

pub returns-in_err-blank-in-Some-clause-declares : goal.returns-in_err-blank-in-Some-clause-declares
returns-in_err-blank-in-Some-clause-declares g c =
    err_says _ c.from_residual.result (some_of_map _ (raster_of c.args.event.now) _ (sym c.in-Some.ensures))
