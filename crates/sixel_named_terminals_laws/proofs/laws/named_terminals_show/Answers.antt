use Rattle.sixel_named_terminals.specs.Named.{model_of}
use Rattle.sixel_named_terminals.proofs.NamedLemmas.{end_once, said_does_not_end, screen_once, shows_or_ends}
use Rattle.sixel_named_terminals_laws.proofs.laws.named_terminals_show.Goals as goal

pub returns : goal.returns
returns c = record {
  one_screen = screen_once;
  one_position = end_once;
  not_both = λ named background sides events screen i shown ends.
      said_does_not_end (model_of named) events i shown.said ends;
  either = shows_or_ends;
}
