use Rattle.std.proofs.Common.{lit<, rules, sym, tests}
use Rattle.std.proofs.lemmas.Iterator.Search.{any_from_yields_List}
use Rattle.std.proofs.lemmas.Iterator.Splits.{YieldsList-from_str_split}
use Rattle.sixel_words.specs.Words.{is_called}
use Rattle.sixel_words.proofs.ignored.has_part.Goals as goal

pub returns : goal.returns
returns c =
    sym (any_from_yields_List (is_called c.args.name.now) _ _ c.any.result c.any.ensures.ran
    (YieldsList-from_str_split 44 c.args.text.now (lit< tt) c.split.ensures.text c.split.ensures.has_more
    c.split.ensures.pattern) (λ x b q k. search (rules, tests)))
