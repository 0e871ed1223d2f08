use Rattle.std.proofs.Common.{arith}
use Rattle.sixel_emulator_check.proofs.TrailerLemmas.{count_fits, seen_more}
use Rattle.sixel_emulator_check.proofs.trailer.TrailingSpaces.look.Goals as goal

pub overflow_add-self : goal.overflow_add-self
overflow_add-self c =
    let fits =
    count_fits c.args.bytes.now c.filler_from-from.result c.count_spaces.result c.requires.seen.1
    c.filler_from-from.ensures c.count_spaces.ensures in
    rw c.kept-kept.ensures (omega (arith, fits, c.requires.room))

pub returns : goal.returns
returns c = λ before h.
    rw (c.or-self.ensures, c.offset_of.ensures, c.kept-kept.ensures)
    (seen_more c.args.bytes.now c.filler_from-from.result c.first_space.result c.count_spaces.result h
    c.filler_from-from.ensures c.first_space.ensures c.count_spaces.ensures)
