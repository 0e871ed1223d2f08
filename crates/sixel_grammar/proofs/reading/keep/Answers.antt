use Rattle.std.proofs.Common.{◌≡◌, ◌++◌, List, OnOk, ap, append_assoc, subst, ◌∙◌}
use Rattle.std.specs.Option.{option_to_list}
use Rattle.sixel_grammar.specs.declared.command.Placed.{Placed}
use Rattle.sixel_grammar.proofs.reading.keep.Goals as goal

pub returns : goal.returns
returns c =
    let first = option_to_list c.args.completed.first in
    let second = option_to_list c.args.completed.second in
    subst (λ (t : List Placed). OnOk c.keep_one-2.result (c.keep_one-2.new.events.items ≡ t))
    (ap (λ (t : List Placed). t ++ second) c.in_ok-keep_one.ensures
    ∙ append_assoc c.args.events.now.items first second) c.keep_one-2.ensures
