use Rattle.sixel_differ_laws.proofs.AnswerLemmas.{views_or_fault}
use Rattle.sixel_differ_laws.proofs.SomeLemmas.{some_comparison}
use Rattle.sixel_differ_laws.proofs.laws.bytes_have_an_answer.Goals as goal

pub returns : goal.returns
returns c = record { views = views_or_fault; comparison = some_comparison }
