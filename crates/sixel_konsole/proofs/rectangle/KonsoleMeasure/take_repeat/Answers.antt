use Rattle.std.proofs.Common.{◌≡◌, ◌++◌, ℕ, Bool, Some, arith, max, subst}
use Rattle.sixel_grammar.specs.declared.command.Command.TheVariants.{Repeat}
use Rattle.sixel_grammar.specs.declared.command.Event.TheVariants.{Step}
use Rattle.sixel_konsole.specs.Konsole.{is_stuck, konsole_data, konsole_drawing}
use Rattle.sixel_konsole.specs.KonsoleMeasured.{IsReach}
use Rattle.sixel_emulator.specs.Readings.{drawn_by}
use Rattle.sixel_konsole.proofs.KonsoleMeasureLemmas.{measured_push}
use Rattle.sixel_konsole.proofs.rectangle.KonsoleMeasure.take_repeat.Goals as goal

pub returns : goal.returns
returns c = λ before next s.
    let e = Step (Repeat c.args.count c.args.bits) in
    let count : c.max.result ≡ max 1 c.args.count = omega (arith, c.max.ensures) in
    let drawn = c.reach_with-self.ensures (konsole_drawing before (Some e)) s.reach in
    measured_push _ before e next (c.see_repeat.ensures before s.seen)
    (subst (λ (n : ℕ). IsReach c.reach_with-self.result (konsole_drawing before (Some e)
    ++ drawn_by (konsole_data (is_stuck before) (Repeat n c.args.bits)))) count
    (subst (λ (b : Bool). IsReach c.reach_with-self.result (konsole_drawing before (Some e)
    ++ drawn_by (konsole_data b (Repeat c.max.result c.args.bits)))) s.seen.stuck_is drawn))
