use Rattle.std.proofs.Common.{arith, lit≤}
use Rattle.sixel_grammar.specs.Document.{most_bytes}
use Rattle.sixel_model.proofs.PictureLemmas.{at_most_256}
use Rattle.sixel_model.specs.Profiles.{count_of}
use Rattle.sixel_encode_laws.proofs.LengthLemmas
use Rattle.sixel_encode_laws.proofs.laws.texts_are_short.Goals as goal

pub returns : goal.returns
returns c = record {
  bound = λ profile. LengthLemmas.texts_are_short (count_of profile) (omega (arith, at_most_256 profile));
  most = LengthLemmas.texts_have_at_most 11234326 16 (lit≤ tt) (lit≤ tt);
  most_wide = LengthLemmas.texts_have_at_most 179748886 256 (lit≤ tt) (lit≤ tt);
  within_limit = λ profile.
      LengthLemmas.texts_have_at_most most_bytes (count_of profile) (omega (arith, at_most_256 profile))
      (omega (arith, at_most_256 profile));
}
