use Rattle.std.proofs.Common.{ap, ◌∙◌}
use Rattle.sixel_konsole.specs.KonsoleSeen.{counting_in}
use Rattle.sixel_konsole.proofs.KonsoleLemmas.{seen_push}
use Rattle.sixel_konsole.proofs.konsole.Konsole.after.Goals as goal

pub returns : goal.returns
returns c = λ before s.
    rw c.noted.ensures
    (seen_push _ c.args.event.now s c.gets_stuck.ensures c.gets_late.ensures c.begins.ensures c.declares.ensures
    (c.counting.ensures ∙ ap (counting_in c.args.self.now) c.moves_or_ends-dropped.ensures) c.may_count.ensures
    (λ is. is))
