use Rattle.std.proofs.Common.{◌<◌, ◌/◌, refl, rules, arith}
use Rattle.sixel_encode.proofs.GroupLemmas.{marked_pixel}
use Rattle.sixel_encode.proofs.groups.mark_pixel.Goals as goal

pub returns : goal.returns
returns c =
    let small : c.args.x / 32 < 64 = omega arith in
    marked_pixel c.args.x _ c.args.pixels.now c.args.marks.now refl (search rules) small
