use Rattle.std.proofs.Common.{◌∙◌}
use Rattle.sixel_grammar.specs.declared.command.Command.TheVariants.{Repeat}
use Rattle.sixel_grammar.specs.declared.command.Event.TheVariants.{Step}
use Rattle.sixel_list.proofs.ListingLemmas.{line-put}
use Rattle.sixel_list.proofs.list_lines.put_repeat.Goals as goal

pub returns-then-count-lt1000 : goal.returns-then-count-lt1000
returns-then-count-lt1000 g c =
    line-put c.put.result (record { place = c.args.place; event = Step (Repeat c.args.count c.args.bits) })
    (c.as_slice.ensures.text ∙ c.set_repeat.ensures) c.put.ensures
