use Rattle.std.proofs.Common.{◌∙◌, ◌∷◌, ◌++◌, [], ap, append-nil, append_assoc, codes, sym}
use Rattle.json.specs.Print.{quoted}
use Rattle.json.specs.Token.{boolean}
use Rattle.std.specs.Prelude.{true}
use Rattle.sixel_report.specs.Texts.{Text}
use Rattle.sixel_messages.specs.Json.{next_member}
use Rattle.sixel_messages.proofs.JsonLemmas.{next_true}
use Rattle.sixel_messages.proofs.objects.push_wrapped.Goals as goal

pub returns-then-wrapped-clause-items : goal.returns-then-wrapped-clause-items
returns-then-wrapped-clause-items c =
    let had = c.args.text.now.items in
    rw c.if-wrapped.true
    (rw c.push_name.ensures.items at c.push_all.ensures.items
    ∙ append_assoc had (44 ∷ (quoted (codes "wrapped") ++ 58 ∷ [])) (codes "true")
    ∙ ap (λ (t : Text). had ++ t)
    (sym (next_true (codes "wrapped")) ∙ sym (append-nil (next_member (codes "wrapped", boolean true)))))
