use Rattle.std.proofs.Common.{◌≡◌, ◌+◌, ◌/◌, ◌%◌, ◌++◌, List, ap, refl, sym, take, ◌∙◌, arith}
use Rattle.sixel_encode.proofs.DecimalLemmas.{four_digits, three_digits}
use Rattle.sixel_encode.proofs.LineLemmas.{run_spelled}
use Rattle.sixel_encode.proofs.line.put_repeat.Goals as goal

pub returns-then-count-lt100-clause-text : goal.returns-then-count-lt100-clause-text
returns-then-count-lt100-clause-text c =
    c.put_short.ensures.text
    ∙ ap (λ (t : List _). take c.args.end c.args.text.now ++ t)
    (sym (run_spelled c.args.count c.args.bits _ c.requires.least refl))

pub returns-then-count-lt1000-clause-text : goal.returns-then-count-lt1000-clause-text
returns-then-count-lt1000-clause-text c =
    let n = c.args.count in
    let hundreds : c.digit-hundreds.result ≡ 48 + n / 100 = omega (arith, c.digit-hundreds.ensures) in
    let tens : c.digit-tens.result ≡ 48 + n / 10 % 10 = omega (arith, c.digit-tens.ensures) in
    let ones : c.digit.result ≡ 48 + n % 10 = omega (arith, c.digit.ensures) in
    c.put_bytes.ensures.text
    ∙ ap (λ (t : List _). take c.args.end c.args.text.now ++ t)
    (rw (hundreds, tens, ones)
    (sym (run_spelled n c.args.bits _ c.requires.least
    (three_digits n (omega (arith, c.if-count-lt100.false)) c.if-count-lt1000.true))))

pub returns-else-count-lt1000-clause-text : goal.returns-else-count-lt1000-clause-text
returns-else-count-lt1000-clause-text c =
    let n = c.args.count in
    c.put_bytes-else-count-lt1000.ensures.text
    ∙ ap (λ (t : List _). take c.args.end c.args.text.now ++ t)
    (rw (
      c.digit-thousands.ensures,
      c.digit-hundreds-else-count-lt1000.ensures,
      c.digit-tens-else-count-lt1000.ensures,
      c.digit-ones.ensures,
    )
    (sym (run_spelled n c.args.bits _ c.requires.least
    (four_digits n (omega (arith, c.if-count-lt1000.false)) (omega arith)))))
