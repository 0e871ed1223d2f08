use Rattle.std.proofs.Common.{arith}
use Rattle.sixel_encode.proofs.HeadLemmas.{is-one, is-two}
use Rattle.sixel_encode.proofs.heads.head_bytes.Goals as goal

pub returns-then-count-lt10 : goal.returns-then-count-lt10
returns-then-count-lt10 c = is-one c.args.count _ c.if-count-lt10.true c.digit.ensures

pub returns-else-count-lt10 : goal.returns-else-count-lt10
returns-else-count-lt10 c =
    is-two c.args.count _ _ (omega (arith, c.if-count-lt10.false)) c.requires
    (omega (arith, c.digit-else-count-lt10.ensures)) (omega (arith, c.digit-else-count-lt10-2.ensures))
