use Rattle.std.proofs.Common.{◌≡◌, take}
use Rattle.std.specs.Prelude.{filter_map}
use Rattle.sixel_model.specs.Rules.{all_rules}
use Rattle.sixel_survey.specs.Tallies.{entry_in}
use Rattle.sixel_survey.proofs.surveyor.entries_of.Given as goal

abbrev pub invariant-loop-index : goal.invariant-loop-index
invariant-loop-index l = l.entries.items ≡ filter_map (entry_in l.tallies l.blank) (take l.index all_rules)
