use Rattle.sixel_emulator.proofs.CourseLemmas.{ends_before_end, goes_to_end, stops_before_end}
use Rattle.sixel_named_terminals_laws.proofs.laws.courses_end.Goals as goal

pub returns-clause-goes : goal.returns-clause-goes
returns-clause-goes c = goes_to_end

pub returns-clause-stopped : goal.returns-clause-stopped
returns-clause-stopped c = stops_before_end

pub returns-clause-ended : goal.returns-clause-ended
returns-clause-ended c = ends_before_end
