use Rattle.sixel_differ_laws.proofs.GroupLemmas.{one_group_where_alike}
use Rattle.sixel_differ_laws.proofs.laws.one_group_where_alike.Goals as goal

pub returns : goal.returns
returns c = one_group_where_alike
