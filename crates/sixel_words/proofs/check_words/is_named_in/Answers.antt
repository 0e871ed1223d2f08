use Rattle.std.proofs.Common.{◌∙◌, rules, sym, tests}
use Rattle.std.proofs.lemmas.Iterator.{YieldsList-from_slice}
use Rattle.std.proofs.lemmas.Iterator.Search.{any_from_yields_List}
use Rattle.std.specs.Borrow.{Bor}
use Rattle.clap.specs.Walk.{Text}
use Rattle.sixel_words.specs.Words.{names_it}
use Rattle.sixel_words.proofs.NamesLemmas.{any_now}
use Rattle.sixel_words.proofs.check_words.is_named_in.Goals as goal

pub returns : goal.returns
returns c =
    any_now (names_it c.args.name.now) c.args.values.now
    ∙ sym (any_from_yields_List (λ (value : Bor Text). names_it c.args.name.now value.now) _ _ c.any.result
    c.any.ensures.ran (YieldsList-from_slice c.args.values.now cc) (λ x b q k. search (rules, tests)))
