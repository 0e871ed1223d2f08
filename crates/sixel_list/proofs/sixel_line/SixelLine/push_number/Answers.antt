use Rattle.std.proofs.Common.{◌∙◌, ◌++◌, ◌+◌, ◌/◌, ◌%◌, ◌∷◌, [], List, ℕ, ap, append_assoc, sym}
use Rattle.std.proofs.lemmas.Fmt.{decimal_digit}
use Rattle.itoa.proofs.Decimal.{decimal_two}
use Rattle.sixel_list.specs.SixelLines.{text_of}
use Rattle.sixel_list.specs.SixelTexts.{two_digits}
use Rattle.sixel_list.proofs.SixelLineLemmas.{decimal_three}
use Rattle.sixel_list.proofs.sixel_line.SixelLine.push_number.Goals as goal

pub returns-then-number-lt10-clause-text : goal.returns-then-number-lt10-clause-text
returns-then-number-lt10-clause-text c =
    c.push.ensures.text
    ∙ ap (λ (t : List ℕ). text_of c.args.self.now ++ t) (sym (decimal_digit c.args.number c.if-number-lt10.true))

pub returns-then-number-lt100-clause-text : goal.returns-then-number-lt100-clause-text
returns-then-number-lt100-clause-text c =
    c.push_two.ensures.text
    ∙ ap (λ (t : List ℕ). text_of c.args.self.now ++ t)
    (sym (decimal_two c.args.number c.if-number-lt10.false c.if-number-lt100.true))

pub returns-else-number-lt100-clause-text : goal.returns-else-number-lt100-clause-text
returns-else-number-lt100-clause-text c =
    let n = c.args.number in
    c.push_two-else-number-lt100.ensures.text
    ∙ ap (λ (t : List ℕ). t ++ two_digits (n % 100)) c.push-else-number-lt100.ensures.text
    ∙ append_assoc (text_of c.args.self.now) ((48 + n / 100) ∷ []) (two_digits (n % 100))
    ∙ ap (λ (t : List ℕ). text_of c.args.self.now ++ t)
    (sym (decimal_three n c.if-number-lt100.false c.requires.number))
