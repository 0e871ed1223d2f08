use Rattle.std.proofs.Common.{◌||◌, Bool, ap, not, refl}
use Rattle.sixel_konsole.proofs.KonsoleLemmas.{konsole_over}
use Rattle.sixel_konsole.proofs.konsole.Konsole.after_sixels.Goals as goal

pub returns : goal.returns
returns c = λ before bytes some s.
    rw c.noted.ensures
    (konsole_over before bytes some (record {
      stuck_is = refl;
      late_is = refl;
      begun_is = ap (λ (b : Bool). b || not c.args.self.now.stuck) c.has_begun.ensures;
      declares_is = refl;
      counting_is = c.counting.ensures;
      waiting_is = refl;
      settled_is = λ is. is;
    }) s)
