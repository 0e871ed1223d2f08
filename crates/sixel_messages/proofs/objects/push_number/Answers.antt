use Rattle.std.proofs.Common.{◌∙◌, ◌++◌, ap, append_assoc, sym}
use Rattle.sixel_report.specs.Texts.{Text}
use Rattle.sixel_messages.proofs.JsonLemmas.{next_number}
use Rattle.sixel_messages.proofs.objects.push_number.Goals as goal

pub returns-clause-items : goal.returns-clause-items
returns-clause-items c =
    rw (c.as_bytes.ensures.value, c.format.ensures.text, c.push_name.ensures.items) at c.push_all.ensures.items
    ∙ append_assoc c.args.text.now.items _ _
    ∙ ap (λ (t : Text). c.args.text.now.items ++ t) (sym (next_number c.args.name.now c.args.value))
