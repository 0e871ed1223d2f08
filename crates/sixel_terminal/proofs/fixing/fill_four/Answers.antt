use Rattle.std.proofs.Common.{refl}
use Rattle.sixel_terminal.proofs.FixLemmas.{below_four, four_alike}
use Rattle.sixel_terminal.proofs.fixing.fill_four.Goals as goal

pub returns-clause-fixed : goal.returns-clause-fixed
returns-clause-fixed c = λ colours under ink initial alike is are.
    four_alike colours under initial c.args.pixels.now _ _ _ _ c.args.at ink c.args.pixel.now c.requires alike is are
    refl refl refl refl

pub returns-clause-below : goal.returns-clause-below
returns-clause-below c = λ n fixed below.
    below_four n c.args.pixel.now c.args.pixels.now _ _ _ _ c.args.at fixed below refl refl refl refl
