use Rattle.std.proofs.Common.{◌<◌, ◌^◌, ◌∙◌, ap, rules}
use Rattle.sixel_terminal.specs.declared.pixel.Ink.TheVariants.{Bound}
use Rattle.sixel_terminal.specs.Pixels.{ink_of}
use Rattle.sixel_terminal.proofs.PixelCodeLemmas.{ink_back, is_code}
use Rattle.sixel_terminal.proofs.pixel.Pixel.bound.Goals as goal

pub invariant_of-result : goal.invariant_of-result
invariant_of-result c =
    let fits : c.args.register < 2 ^ 16 = search rules in
    is_code (Bound c.args.register) c.packed.result fits c.packed.ensures

pub returns : goal.returns
returns c =
    let fits : c.args.register < 2 ^ 16 = search rules in
    ap ink_of c.packed.ensures ∙ ink_back (Bound c.args.register) fits
