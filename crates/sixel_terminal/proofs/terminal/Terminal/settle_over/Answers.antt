use Rattle.std.proofs.Common.{◌∷◌, refl}
use Rattle.sixel_terminal.proofs.UnderLemmas.{own_raster, stands_covered, stands_front}
use Rattle.sixel_terminal.proofs.terminal.Terminal.settle_over.Goals as goal

pub settle_on-requires-clause-stands : goal.settle_on-requires-clause-stands
settle_on-requires-clause-stands c =
    let stands = c.requires.stands in (
      _,
      own_raster c.args.self.now c.args.width c.args.height ∷ stands.1,
      stands_covered c.args.self.now c.ground.result stands.1 stands.0 c.args.colours.now c.args.inks.now c.args.width
          c.args.height c.ground.ensures.is c.requires.binds c.requires.unclipped
          (c.is_covered.ensures.left c.if-is_covered.true) (c.is_covered.ensures.top c.if-is_covered.true)
          (c.is_covered.ensures.across c.if-is_covered.true) (c.is_covered.ensures.down c.if-is_covered.true) stands.2,
    )

pub returns-then-is_covered-clause-shown : goal.returns-then-is_covered-clause-shown
returns-then-is_covered-clause-shown c = λ pen events s is.
    c.settle_on.ensures.shown _ (own_raster c.args.self.now c.args.width c.args.height ∷ events)
    (stands_covered c.args.self.now c.ground.result events pen c.args.colours.now c.args.inks.now c.args.width
    c.args.height c.ground.ensures.is c.requires.binds c.requires.unclipped
    (c.is_covered.ensures.left c.if-is_covered.true) (c.is_covered.ensures.top c.if-is_covered.true)
    (c.is_covered.ensures.across c.if-is_covered.true) (c.is_covered.ensures.down c.if-is_covered.true) s)
    is

pub settle-requires : goal.settle-requires
settle-requires c =
    let stands = c.requires.stands in (
      _,
      own_raster c.args.self.now c.args.width c.args.height ∷ stands.1,
      stands_front c.args.self.now stands.1 stands.0 _ c.args.colours.now c.args.inks.now c.fill_ground_under.new.inks
          c.args.width c.args.height c.requires.binds c.requires.unclipped stands.2 refl
          c.fill_ground_under.auto.inks c.fill_ground_under.ensures,
    )

pub returns-else-is_covered-clause-shown : goal.returns-else-is_covered-clause-shown
returns-else-is_covered-clause-shown c = λ pen events s is.
    c.settle.ensures.shown _ (own_raster c.args.self.now c.args.width c.args.height ∷ events)
    (stands_front c.args.self.now events pen _ c.args.colours.now c.args.inks.now c.fill_ground_under.new.inks
    c.args.width c.args.height c.requires.binds c.requires.unclipped s refl c.fill_ground_under.auto.inks
    c.fill_ground_under.ensures)
    is
