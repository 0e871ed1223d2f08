use Rattle.sixel_mend.proofs.SizeLemmas.{one_size, some_size}
use Rattle.sixel_mend_laws.proofs.laws.lists_have_one_size.Goals as goal

pub returns : goal.returns
returns c = record { some = some_size; once = one_size }
