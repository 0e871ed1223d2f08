use Rattle.std.proofs.Common.{◌∙◌, rules, sym, tests}
use Rattle.std.proofs.lemmas.Iterator.{YieldsList-from_slice}
use Rattle.std.proofs.lemmas.Iterator.Search.{all_from_yields_List}
use Rattle.std.proofs.lemmas.List.Folds.{list_all-map}
use Rattle.std.specs.Borrow.{Bor}
use Rattle.clap.specs.Walk.{Text}
use Rattle.sixel_words.specs.Words.{names_rules}
use Rattle.sixel_words.proofs.ignored.all_name_rules.Goals as goal

pub returns : goal.returns
returns c =
    list_all-map names_rules (λ (value : Bor Text). value.now) c.args.values.now
    ∙ sym (all_from_yields_List (λ (value : Bor Text). names_rules value.now) _ _ c.all.result c.all.ensures.ran
    (YieldsList-from_slice c.args.values.now cc) (λ x b q k. search (rules, tests)))
