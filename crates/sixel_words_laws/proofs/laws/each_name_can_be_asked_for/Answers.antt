use Rattle.sixel_words_laws.proofs.WishLemmas.{name_asked, name_taken}
use Rattle.sixel_words_laws.proofs.laws.each_name_can_be_asked_for.Goals as goal

pub returns : goal.returns
returns c = record { taken = name_taken; asked = name_asked }
