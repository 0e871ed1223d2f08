use Rattle.std.proofs.Common.{◌∷◌, ◌++◌, [], List, ap, ◌∙◌, append_assoc, take}
use Rattle.sixel_encode.specs.Heads.{head}
use Rattle.sixel_encode.proofs.line.put_short.Goals as goal

pub returns-clause-text : goal.returns-clause-text
returns-clause-text c =
    c.put_bytes.ensures.text
    ∙ ap (λ (t : List _). t ++ c.args.sixel ∷ []) c.put-at.ensures.text
    ∙ append_assoc (take c.args.end c.args.text.now) (head c.args.count) (c.args.sixel ∷ [])
