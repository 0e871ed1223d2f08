use Rattle.std.proofs.Common.{rules, sym, tests}
use Rattle.std.proofs.lemmas.Iterator.{YieldsList-from_slice}
use Rattle.std.proofs.lemmas.Iterator.Search.{any_from_yields_List}
use Rattle.sixel_emulator_rules.specs.Names.{name_of}
use Rattle.sixel_emulator_rules.specs.declared.rule.AskedRule.{AskedRule}
use Rattle.sixel_words.specs.Words.{is_called}
use Rattle.sixel_words.proofs.ignored.is_one_of.Goals as goal

pub returns : goal.returns
returns c =
    sym (any_from_yields_List (λ (rule : AskedRule). is_called (name_of rule) c.args.part.now) _ _ c.any.result
    c.any.ensures.ran (YieldsList-from_slice c.args.rules.now cc) (λ x b q k. search (rules, tests)))
