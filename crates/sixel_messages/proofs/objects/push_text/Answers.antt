use Rattle.std.proofs.Common.{◌∙◌, ◌++◌, ap, append_assoc, sym}
use Rattle.sixel_report.specs.Texts.{Text}
use Rattle.sixel_messages.proofs.JsonLemmas.{next_text}
use Rattle.sixel_messages.proofs.objects.push_text.Goals as goal

pub returns-clause-items : goal.returns-clause-items
returns-clause-items c =
    rw c.push_name.ensures.items at c.push_string.ensures.items
    ∙ append_assoc c.args.text.now.items _ _
    ∙ ap (λ (t : Text). c.args.text.now.items ++ t) (sym (next_text c.args.name.now c.args.value.now))
