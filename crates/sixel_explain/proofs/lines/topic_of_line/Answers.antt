use Rattle.std.proofs.Common.{◌≡◌, ◌∙◌, None, option_map}
use Rattle.std.proofs.lemmas.Result.{IfOk-weaker}
use Rattle.sixel_explain.specs.Explanations.{topic_name, topic_of_end}
use Rattle.sixel_explain.proofs.LineLemmas.{by_end, by_word}
use Rattle.sixel_explain.proofs.lines.topic_of_line.Goals as goal

pub returns-in-Some : goal.returns-in-Some
returns-in-Some c = by_end c.args.line.now c.in-Some.topic (c.topic_of_end.ensures ∙ c.in-Some.is)

pub returns-in-None : goal.returns-in-None
returns-in-None c =
    let none : topic_of_end c.args.line.now ≡ None = c.topic_of_end.ensures ∙ c.in-None.is in
    IfOk-weaker c.last_topic.result _ _
    (λ topic here. by_word c.args.line.now (option_map topic_name topic) none here) c.last_topic.ensures
