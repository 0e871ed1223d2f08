use Rattle.std.proofs.Common.{◌≡◌, ◌∙◌, ◌==◌, Ok, ap, lit<, map, sym}
use Rattle.std.specs.List.{slice_split}
use Rattle.std.proofs.lemmas.Iterator.Consumers.{map_from_collect}
use Rattle.std.proofs.lemmas.Iterator.Splits.{YieldsList-from_str_split}
use Rattle.sixel_explain.specs.Explanations.{last_name}
use Rattle.sixel_explain.proofs.lines.last_topic.Goals as goal

pub returns : goal.returns
returns c =
    let words = c.in_ok-words.words in
    let split : map (λ w. w.now) words.items ≡ slice_split (λ byte. byte == 32) c.args.line.now =
    map_from_collect {E = Unit {0}} (Ok words) c.in_ok-words.ensures.ran
    (YieldsList-from_str_split 32 c.args.line.now (lit< tt) c.split.ensures.text c.split.ensures.has_more
    c.split.ensures.pattern) in
    ap last_name (sym (ap (map (λ w. w.now)) c.as_slice.ensures.value ∙ split)) ∙ c.last_named.ensures
