use Rattle.std.proofs.Common.{◌∙◌, rules, sym, tests}
use Rattle.std.proofs.lemmas.Iterator.{YieldsList-from_slice}
use Rattle.std.proofs.lemmas.Iterator.Search.{any_from_yields_List}
use Rattle.std.specs.Borrow.{Bor}
use Rattle.clap.specs.Walk.{Text}
use Rattle.sixel_emulator_rules.specs.Names.{name_of}
use Rattle.sixel_words.specs.Words.{has_part}
use Rattle.sixel_words.proofs.NamesLemmas.{any_now}
use Rattle.sixel_words.proofs.ignored.is_part_of.Goals as goal

pub returns : goal.returns
returns c =
    any_now (has_part (name_of c.args.rule)) c.args.values.now
    ∙ sym (any_from_yields_List (λ (value : Bor Text). has_part (name_of c.args.rule) value.now) _ _ c.any.result
    c.any.ensures.ran (YieldsList-from_slice c.args.values.now cc) (λ x b q k. search (rules, tests)))
