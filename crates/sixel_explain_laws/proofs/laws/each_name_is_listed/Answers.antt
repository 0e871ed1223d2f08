use Rattle.sixel_explain.specs.declared.explanations.Topic.TheVariants.{Asked, Rule}
use Rattle.sixel_explain.specs.Explanations.{topic_of}
use Rattle.sixel_explain.proofs.NameLemmas.{name_listed}
use Rattle.sixel_explain_laws.proofs.laws.each_name_is_listed.Goals as goal

pub returns : goal.returns
returns c = record {
  rules = λ rule. name_listed (Rule rule);
  asked = λ rule. name_listed (Asked rule);
  faults = λ fault. name_listed (topic_of fault);
}
