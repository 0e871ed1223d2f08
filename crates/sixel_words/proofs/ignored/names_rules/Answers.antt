use Rattle.std.proofs.Common.{lit<, rules, sym, tests}
use Rattle.std.proofs.lemmas.Iterator.Search.{all_from_yields_List}
use Rattle.std.proofs.lemmas.Iterator.Splits.{YieldsList-from_str_split}
use Rattle.sixel_words.specs.Words.{is_rule}
use Rattle.sixel_words.proofs.ignored.names_rules.Goals as goal

pub returns : goal.returns
returns c =
    sym (all_from_yields_List is_rule _ _ c.all.result c.all.ensures.ran
    (YieldsList-from_str_split 44 c.args.text.now (lit< tt) c.split.ensures.text c.split.ensures.has_more
    c.split.ensures.pattern) (λ x b q k. search (rules, tests)))
