-- Lists in which no command paints in a colour that its register got after it was selected.
use Rattle.std.specs.Prelude.{true, IsSome, List}
use Rattle.sixel_grammar.specs.declared.command.Event.{Event}
use Rattle.sixel_model.specs.Events.{definition_where, select_of}
use Rattle.sixel_model.specs.Positions.{HoldsNowhere, latest}
use Rattle.sixel_emulator_rules.specs.Stale.{IsStale}

abbrev pub NoneIsStale : List Event → Type 0
NoneIsStale events = HoldsNowhere IsStale events

-- the event is a definition, and a select comes before it
pub record IsLateDefinition (before : List Event) (e : Event) : Type 0 where
  pub after : IsSome (latest select_of before)
  pub defines : IsSome (definition_where (λ r. true) e)

-- no definition comes after a select
abbrev pub DefinesFirst : List Event → Type 0
DefinesFirst events = HoldsNowhere IsLateDefinition events
