use Rattle.std.proofs.Common.{◌∙◌, sym}
use Rattle.sixel_mlterm.proofs.MlTermLemmas.{data_is}
use Rattle.sixel_mlterm.proofs.mlterm.MlTerm.data.Goals as goal

pub returns-then-is_unsaid_data : goal.returns-then-is_unsaid_data
returns-then-is_unsaid_data c = λ before s.
    data_is c.args.command s (sym c.is_unsaid_data.ensures ∙ c.if-is_unsaid_data.true)

pub returns-else-is_unsaid_data : goal.returns-else-is_unsaid_data
returns-else-is_unsaid_data c = λ before s.
    data_is c.args.command s (sym c.is_unsaid_data.ensures ∙ c.if-is_unsaid_data.false)
