use Rattle.std.proofs.Common.{◌∙◌, ◌∷◌, ◌++◌, [], List, ℕ, ap, arith, sym}
use Rattle.sixel_list.proofs.SixelLineLemmas.{tail-one, tail-put, tail-two}
use Rattle.sixel_list.proofs.sixel_line.put_tail.Goals as goal

pub returns-then-bits-lt10-clause-before : goal.returns-then-bits-lt10-clause-before
returns-then-bits-lt10-clause-before c =
    (tail-put c.args.text.now c.put_group.new.text _ c.args.bits (tail-one c.args.bits c.if-bits-lt10.true)
    (omega (arith, c.requires.bits, c.requires.long)) c.put_group.ensures.text).0

pub returns-then-bits-lt10-clause-tail : goal.returns-then-bits-lt10-clause-tail
returns-then-bits-lt10-clause-tail c =
    (tail-put c.args.text.now c.put_group.new.text _ c.args.bits (tail-one c.args.bits c.if-bits-lt10.true)
    (omega (arith, c.requires.bits, c.requires.long)) c.put_group.ensures.text).1

pub returns-else-bits-lt10-clause-before : goal.returns-else-bits-lt10-clause-before
returns-else-bits-lt10-clause-before c =
    (tail-put c.args.text.now c.put_group-else-bits-lt10.new.text _ c.args.bits
    (tail-two c.args.bits c.if-bits-lt10.false (omega (arith, c.requires.bits))
    ∙ ap (λ (p : List ℕ). 32 ∷ 115 ∷ 105 ∷ 120 ∷ 101 ∷ 108 ∷ 32 ∷ (p ++ 10 ∷ [])) (sym c.two_digits-upper.ensures))
    (omega (arith, c.requires.bits, c.requires.long)) c.put_group-else-bits-lt10.ensures.text).0

pub returns-else-bits-lt10-clause-tail : goal.returns-else-bits-lt10-clause-tail
returns-else-bits-lt10-clause-tail c =
    (tail-put c.args.text.now c.put_group-else-bits-lt10.new.text _ c.args.bits
    (tail-two c.args.bits c.if-bits-lt10.false (omega (arith, c.requires.bits))
    ∙ ap (λ (p : List ℕ). 32 ∷ 115 ∷ 105 ∷ 120 ∷ 101 ∷ 108 ∷ 32 ∷ (p ++ 10 ∷ [])) (sym c.two_digits-upper.ensures))
    (omega (arith, c.requires.bits, c.requires.long)) c.put_group-else-bits-lt10.ensures.text).1
