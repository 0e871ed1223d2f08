use Rattle.std.proofs.Common.{◌+◌, arith}
use Rattle.sixel_terminal.specs.Pixels.{AreAlikeIn}
use Rattle.sixel_terminal.proofs.FixLemmas.{alike_kept, moved}
use Rattle.sixel_terminal.proofs.fixing.fill_block.Goals as goal

pub returns-clause-fixed : goal.returns-clause-fixed
returns-clause-fixed c = λ colours under ink initial alike is are.
    let at = c.args.at in
    let xs = c.args.pixels.now in
    let a = c.fill_four.new.pixels in
    let b = c.fill_four-2.new.pixels in
    let d = c.fill_four-3.new.pixels in
    let second : AreAlikeIn a (at + 4) (at + 16) ink =
    alike_kept xs a at (at + 4) (at + 16) (at + 16) ink alike (omega arith) (omega arith) c.fill_four.ensures.kept in
    let third : AreAlikeIn b (at + 8) (at + 16) ink =
    alike_kept a b (at + 4) (at + 8) (at + 16) (at + 16) ink second (omega arith) (omega arith)
    (λ k le. c.fill_four-2.ensures.kept k (omega (arith, le))) in
    let fourth : AreAlikeIn d (at + 12) (at + 16) ink =
    alike_kept b d (at + 8) (at + 12) (at + 16) (at + 16) ink third (omega arith) (omega arith)
    (λ k le. c.fill_four-3.ensures.kept k (omega (arith, le))) in
    let one = c.fill_four.ensures.fixed colours under ink initial (λ i le lt. alike i le (omega (arith, lt))) is are in
    let two =
    c.fill_four-2.ensures.fixed colours under ink initial (λ i le lt. second i le (omega (arith, lt))) is one in
    let three =
    c.fill_four-3.ensures.fixed colours under ink initial (λ i le lt. third i le (omega (arith, lt))) is
    (moved colours under initial b (at + 4 + 4) (at + 8) (omega arith) two) in
    let four =
    c.fill_four-4.ensures.fixed colours under ink initial (λ i le lt. fourth i le (omega (arith, lt))) is
    (moved colours under initial d (at + 8 + 4) (at + 12) (omega arith) three) in
    moved colours under initial _ (at + 12 + 4) (at + 16) (omega arith) four

pub returns-clause-below : goal.returns-clause-below
returns-clause-below c = λ n fixed below.
    c.fill_four-4.ensures.below n fixed (c.fill_four-3.ensures.below n fixed (c.fill_four-2.ensures.below n fixed
    (c.fill_four.ensures.below n fixed below)))
