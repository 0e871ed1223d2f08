use Rattle.std.proofs.Common.{◌≡◌, ◌%◌, ◌==◌, arith}
use Rattle.std.specs.Int.{bit_at}
use Rattle.sixel_mend.proofs.DepthLemmas.{leading_depth}
use Rattle.sixel_mend.proofs.ExtentLemmas.{is_depth}
use Rattle.sixel_mend.proofs.extent.depth.Goals as goal

pub returns-clause-value : goal.returns-clause-value
returns-clause-value c =
    let six : c.from.result ≡ c.args.bits % 64 = omega (arith, c.from.ensures) in
    rw six (leading_depth c.args.bits).value

pub returns-clause-few : goal.returns-clause-few
returns-clause-few c =
    let few = (is_depth 6 (λ k. bit_at c.args.bits k == 1)).few in
    let six : c.from.result ≡ c.args.bits % 64 = omega (arith, c.from.ensures) in
    rw (six, (leading_depth c.args.bits).value) few

pub returns-clause-above : goal.returns-clause-above
returns-clause-above c =
    let six : c.from.result ≡ c.args.bits % 64 = omega (arith, c.from.ensures) in
    rw six (leading_depth c.args.bits).above
