use Rattle.sixel_explain_laws.proofs.CaseLemmas.{any_case}
use Rattle.sixel_explain_laws.proofs.laws.a_name_may_be_in_any_case.Goals as goal

pub returns : goal.returns
returns c = any_case
