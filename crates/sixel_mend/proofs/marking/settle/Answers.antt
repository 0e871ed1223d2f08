use Rattle.std.proofs.Common.{◌∙◌, Bool, subst, sym}
use Rattle.sixel_mend.specs.Marking.{IsMarked}
use Rattle.sixel_mend.proofs.SettleLemmas.{not_some, settled_replaced, settled_whole}
use Rattle.sixel_mend.proofs.marking.settle.Goals as goal

pub returns-in_default : goal.returns-in_default
returns-in_default c = λ done count registers colours painted numbered marked.
    settled_whole c.args.mark c.args.background numbered marked (sym c.index_of.ensures.value ∙ c.in_default.is)

pub returns : goal.returns
returns c = λ done count registers colours painted numbered marked.
    let none = not_some c.index_of-else-has_hls.result (sym c.is_some.ensures ∙ c.if-is_some.false) in
    rw c.set.ensures.value
    (settled_replaced c.args.mark c.args.background c.in-Some.register numbered
    (subst (λ (b : Bool). IsMarked c.args.mark b painted colours) c.if-has_hls.false marked)
    (sym c.index_of.ensures.value ∙ c.in-Some.is) (sym c.index_of-else-has_hls.ensures.value ∙ none) c.requires)
