use Rattle.sixel_model.specs.Profiles.{count_of}
use Rattle.sixel_program_laws.proofs.EmptyLemmas.{empty_picture, empty_text}
use Rattle.sixel_program_laws.proofs.laws.empty_inputs_are_named.Goals as goal

pub returns : goal.returns
returns c = record {
  text = empty_text;
  picture = λ profile bytes reason place e. empty_picture (count_of profile) bytes reason place e;
}
