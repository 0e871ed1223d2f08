use Rattle.std.proofs.Common.{sym}
use Rattle.sixel_omissions.proofs.BareLemmas.{count_none}
use Rattle.sixel_omissions.proofs.bare.find_bare.Goals as goal

pub returns-else-has_bare-clause-count : goal.returns-else-has_bare-clause-count
returns-else-has_bare-clause-count c = sym (count_none c.args.bytes.now (c.has_bare.ensures c.if-has_bare.false))
