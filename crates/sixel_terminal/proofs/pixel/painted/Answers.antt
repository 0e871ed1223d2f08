use Rattle.std.proofs.Common.{◌∙◌, ◌<◌, ◌^◌, ap, arith, cond, get_or, ◌==◌}
use Rattle.std.specs.Int.{bit_at}
use Rattle.std.proofs.Math.Pow.{pow-lt}
use Rattle.std.proofs.lemmas.List.{get_or-map, length-map}
use Rattle.sixel_terminal.proofs.PixelLaneLemmas.{painted_lane}
use Rattle.sixel_terminal.proofs.pixel.painted.Goals as goal

pub returns : goal.returns
returns c = λ j lt.
    let few : 2 ^ c.args.bit < 64 = pow-lt {j = 6} (omega (arith, c.requires)) in
    painted_lane c.args.bit _ c.args.ink j c.args.codes _ (length-map c.args.sixels _ ∙ omega arith) (omega arith) lt
    (omega (arith, few))
    ∙ ap (λ n. cond (bit_at n c.args.bit == 1) c.args.ink (get_or c.args.codes j 0))
    (get_or-map _ c.args.sixels j 0 0 (omega (arith, lt)))
