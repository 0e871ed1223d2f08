use Rattle.sixel_differ_laws.proofs.OnceLemmas.{one_comparison, one_set_of_views}
use Rattle.sixel_differ_laws.proofs.laws.documents_have_one_comparison.Goals as goal

pub returns : goal.returns
returns c = record { views = one_set_of_views; comparison = one_comparison }
