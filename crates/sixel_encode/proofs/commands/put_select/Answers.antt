use Rattle.std.proofs.Common.{◌≡◌, ◌+◌, ◌/◌, ◌%◌, sym, arith}
use Rattle.std.proofs.lemmas.Fmt.{decimal_digit}
use Rattle.sixel_grammar.specs.declared.command.Command.TheVariants.{Select}
use Rattle.sixel_io.proofs.SinkLemmas.{through-as, through-whole}
use Rattle.sixel_encode.proofs.DecimalLemmas.{two_digits, three_digits}
use Rattle.sixel_encode.proofs.TextLemmas.{text-one}
use Rattle.sixel_encode.proofs.commands.put_select.Goals as goal

pub returns-then-register-lt10 : goal.returns-then-register-lt10
returns-then-register-lt10 g c =
    let n = c.args.register in
    through-as
    (rw (c.digit.ensures, ← decimal_digit n c.if-register-lt10.true) (sym (text-one (Select n))))
    (through-whole c.put.result c.put.ensures)

pub returns-then-register-lt100 : goal.returns-then-register-lt100
returns-then-register-lt100 g c =
    let n = c.args.register in
    through-as
    (rw (
      c.digit-then-register-lt100.ensures,
      c.digit-then-register-lt100-2.ensures,
      ← two_digits n (omega (arith, c.if-register-lt10.false)) c.if-register-lt100.true,
    ) (sym (text-one (Select n))))
    (through-whole c.put-then-register-lt100.result c.put-then-register-lt100.ensures)

pub returns-then-register-lt1000 : goal.returns-then-register-lt1000
returns-then-register-lt1000 g c =
    let n = c.args.register in
    let hundreds : c.digit-hundreds.result ≡ 48 + n / 100 = omega (arith, c.digit-hundreds.ensures) in
    let tens : c.digit-tens.result ≡ 48 + n / 10 % 10 = omega (arith, c.digit-tens.ensures) in
    let ones : c.digit-then-register-lt1000.result ≡ 48 + n % 10 =
    omega (arith, c.digit-then-register-lt1000.ensures) in
    through-as
    (rw (
      hundreds,
      tens,
      ones,
      ← three_digits n (omega (arith, c.if-register-lt100.false)) c.if-register-lt1000.true,
    ) (sym (text-one (Select n))))
    (through-whole c.put-then-register-lt1000.result c.put-then-register-lt1000.ensures)
