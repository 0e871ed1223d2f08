use Rattle.std.proofs.Common.{ap, sym, ◌∙◌}
use Rattle.sixel_konsole.specs.KonsoleSeen.{konsole_in}
use Rattle.sixel_konsole.proofs.KonsoleLemmas.{konsole_is}
use Rattle.sixel_konsole.proofs.konsole.Konsole.read_before.Goals as goal

pub returns-clause-reads : goal.returns-clause-reads
returns-clause-reads c = λ before next is s.
    c.reads-reads.ensures ∙ ap (λ b. konsole_in c.args.self.now b c.args.event.now) (sym is)
    ∙ konsole_is c.args.event.now next s
