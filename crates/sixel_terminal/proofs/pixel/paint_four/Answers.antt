use Rattle.std.proofs.Common.{◌≡◌, ◌+◌, ◌<◌, ◌∙◌, ℕ, ap, arith, cond, get_or, length, ◌==◌}
use Rattle.std.specs.Int.{bit_at}
use Rattle.std.specs.Prelude.{slice_index}
use Rattle.sixel_terminal.specs.declared.pixel.Ink.{Ink}
use Rattle.sixel_terminal.specs.Pixels.{ink_of}
use Rattle.sixel_terminal.proofs.GroupLemmas.{chosen_shows, four_painted, picked_is}
use Rattle.sixel_terminal.proofs.pixel.paint_four.Goals as goal

pub returns : goal.returns
returns c = λ i lt.
    let at = c.args.at in
    let xs = c.args.pixels.now in
    let room = c.requires.room in
    let ink = c.args.ink.now in
    let codes = c.painted-codes.ensures in
    let own = c.ink.inside.code in
    let is = λ (j from place kept : ℕ) (there : place ≡ at + j) (within : place < length xs) (old : Ink)
    (read : old ≡ get_or xs place old) (shows : ink_of kept ≡ old)
    (chosen : slice_index c.painted-codes.result j
    ≡ cond (bit_at (slice_index c.args.sixels j) c.args.bit == 1) own kept) (same : from ≡ j).
    ap (λ n. ink_of (slice_index c.painted-codes.result n)) same
    ∙ picked_is at j place c.args.bit c.args.sixels ink old _ xs there within read
    (chosen_shows _ _ own kept ink old chosen c.ink.view_is shows) in
    four_painted at c.args.bit i c.args.sixels ink _ _ _ _ xs room
    (is 0 _ at _ (omega arith) (omega (arith, room)) _ c.index-pixels-at.is c.a.view_is (codes 0 (omega arith))
    (omega arith))
    (is 1 _ (at + 1) _ (omega arith) (omega (arith, room)) _ c.index-pixels-at-2.is c.b.view_is (codes 1 (omega arith))
    (omega arith))
    (is 2 _ (at + 2) _ (omega arith) (omega (arith, room)) _ c.index-pixels-at-3.is c.c.view_is (codes 2 (omega arith))
    (omega arith))
    (is 3 _ (at + 3) _ (omega arith) (omega (arith, room)) _ c.index-pixels-at-4.is c.d.view_is (codes 3 (omega arith))
    (omega arith))
    lt
