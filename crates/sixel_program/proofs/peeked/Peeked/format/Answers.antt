use Rattle.sixel_program.proofs.PeekedLemmas.{format_told}
use Rattle.sixel_program.proofs.peeked.Peeked.format.Goals as goal

pub returns-clause-format : goal.returns-clause-format
returns-clause-format g c =
    format_told _ _ _ _ _ c.look.ensures.told c.waiting.ensures.bytes c.format_of.ensures
