use Rattle.sixel_program.proofs.FilesLemmas.{empty_format, no_format}
use Rattle.sixel_program.proofs.checks.format_for.Goals as goal

pub returns-then-is_empty-clause-format : goal.returns-then-is_empty-clause-format
returns-then-is_empty-clause-format g c = empty_format _ (c.is_empty.ensures.empty c.if-is_empty.true)

pub returns-else-is_empty-clause-format : goal.returns-else-is_empty-clause-format
returns-else-is_empty-clause-format g c = no_format _
