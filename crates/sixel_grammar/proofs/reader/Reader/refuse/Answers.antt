use Rattle.std.proofs.Common.{refl}
use Rattle.sixel_grammar.proofs.reader.Reader.refuse.Goals as goal

pub returns-clause-after : goal.returns-clause-after
returns-clause-after c = refl
