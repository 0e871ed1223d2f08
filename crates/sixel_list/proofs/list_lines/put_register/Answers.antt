use Rattle.std.proofs.Common.{◌∙◌}
use Rattle.sixel_grammar.specs.declared.command.Command.TheVariants.{Select}
use Rattle.sixel_grammar.specs.declared.command.Event.TheVariants.{Step}
use Rattle.sixel_list.proofs.ListingLemmas.{line-put}
use Rattle.sixel_list.proofs.list_lines.put_register.Goals as goal

pub returns-then-register-lt1000 : goal.returns-then-register-lt1000
returns-then-register-lt1000 g c =
    line-put c.put.result (record { place = c.args.place; event = Step (Select c.args.register) })
    (c.as_slice.ensures.text ∙ c.set_select.ensures) c.put.ensures
