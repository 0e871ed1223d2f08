use Rattle.std.proofs.Common.{◌∙◌, ◌++◌, List, ap, sym}
use Rattle.sixel_messages.specs.Json.{Member, next_members}
use Rattle.sixel_messages.proofs.MemberLemmas.{plain_fault}
use Rattle.sixel_messages.proofs.objects.push_fault.Goals as goal

pub returns-in_default-clause-items : goal.returns-in_default-clause-items
returns-in_default-clause-items c =
    let none = c.in_default in
    rw c.topic_of.ensures at c.push_plain_refusal.ensures.items
    ∙ ap (λ (ms : List Member). c.args.text.now.items ++ next_members ms)
    (sym (plain_fault c.args.fault.now none.not-Grammar none.not-Ppm none.not-Read))
