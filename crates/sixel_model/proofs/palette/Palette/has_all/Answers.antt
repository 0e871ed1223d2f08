use Rattle.std.proofs.Common.{◌+◌, ◌∙◌, ℕ, nat_lt, is_some, refl, sym, arith}
use Rattle.std.proofs.lemmas.Bool.{lt-ltb, ltb-true}
use Rattle.sixel_model.specs.Colours.{palette_at}
use Rattle.sixel_model.proofs.PictureLemmas.{all_weaker}
use Rattle.sixel_model.proofs.palette.Palette.has_all.Goals as goal

pub returns-then-has_up_to-clause-value : goal.returns-then-has_up_to-clause-value
returns-then-has_up_to-clause-value c =
    let n : ℕ = c.args.greatest_register + 1 in
    c.if-has_up_to.true
    ∙ sym (all_weaker (λ r. nat_lt r n) (λ r. is_some (palette_at c.args.self.now r)) c.args.registers.now
    (λ r below. c.if-has_up_to.ensures.0 refl r (omega (arith, ltb-true r n below)))
    (c.requires n (omega arith) ∙ lt-ltb c.args.greatest_register n (omega arith)))
