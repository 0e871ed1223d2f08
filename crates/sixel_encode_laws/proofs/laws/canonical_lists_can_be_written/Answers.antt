use Rattle.std.proofs.Common.{arith}
use Rattle.sixel_grammar.specs.Document.{most_bytes}
use Rattle.sixel_model.proofs.PictureLemmas.{at_most_256}
use Rattle.sixel_model.specs.Profiles.{count_of}
use Rattle.sixel_encode_laws.proofs.LengthLemmas
use Rattle.sixel_encode_laws.proofs.WrittenLemmas
use Rattle.sixel_encode_laws.proofs.laws.canonical_lists_can_be_written.Goals as goal

pub returns : goal.returns
returns c = record {
  whole = WrittenLemmas.lists_are_whole;
  each = λ profile. WrittenLemmas.events_can_be_written (count_of profile) (omega (arith, at_most_256 profile));
  documents = λ profile. WrittenLemmas.texts_are_documents (count_of profile) (omega (arith, at_most_256 profile))
      (LengthLemmas.texts_have_at_most most_bytes (count_of profile) (omega (arith, at_most_256 profile))
      (omega (arith, at_most_256 profile)));
}
