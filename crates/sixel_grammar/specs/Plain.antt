-- A `Plain` as a `Completed`.
use Rattle.std.specs.Prelude.{Some, None}
use Rattle.sixel_grammar.specs.declared.command.Completed.{Completed}
use Rattle.sixel_grammar.specs.declared.command.Event.TheVariants.{Step}
use Rattle.sixel_grammar.specs.declared.command.Plain.{Plain}
use Rattle.sixel_grammar.specs.declared.command.Plain.TheVariants.{Nothing, Command}

abbrev pub plain_of : Plain → Completed
plain_of Nothing = record { first = None; second = None }
plain_of (Command place command) = record {
  first = Some (record { place = place; event = Step command });
  second = None;
}
