use Rattle.std.proofs.Common.{◌∙◌, ◌++◌, ◌+◌, ◌-◌, List, ℕ, ap, arith, take}
use Rattle.std.specs.Prelude.{decimal}
use Rattle.sixel_list.proofs.SixelLineLemmas.{hundreds-taken}
use Rattle.sixel_list.proofs.sixel_line.SixelLine.put_hundreds.Goals as goal

pub returns-clause-text : goal.returns-clause-text
returns-clause-text c =
    let line = c.keep_hundreds.new.self in
    c.put_group.ensures.text
    ∙ ap (λ (t : List ℕ). take c.args.at c.args.text.now ++ t)
    (hundreds-taken line.text line.start (line.start + 32 - line.start) line.start_within (omega arith) ∙ line.digits ∙ ap decimal c.keep_hundreds.ensures)
