use Rattle.std.proofs.Common.{◌∙◌, ap}
use Rattle.sixel_program.proofs.NamedLemmas.{named_answered, named_cut}
use Rattle.sixel_program.proofs.checks.answer_labelled.Goals as goal

pub returns-then-is_unwritten : goal.returns-then-is_unwritten
returns-then-is_unwritten g c =
    let f = c.format_for-format.ensures in
    named_cut _ _ _ _ _ _ _ _ _ c.write_labelled-answer.ensures.wrote f.told f.failures f.format _ _
    (c.is_unwritten.ensures.yes c.if-is_unwritten.true) c.write_labelled-answer.ensures.loud

pub returns : goal.returns
returns g c =
    let f = c.format_for-format.ensures in
    let s = c.say_answer.ensures in
    named_answered _ _ _ _ _ _ _ _ _ c.write_labelled-answer.ensures.wrote f.told f.failures f.format
    (c.is_unwritten.ensures.no c.if-is_unwritten.false) _ c.say_answer.result _ s.answer s.put s.said s.silent
    s.unchanged s.loud
    (λ quiet. ap (g.K.Sink.state) (s.untouched quiet ∙ c.write_labelled-answer.ensures.untouched quiet))
