use Rattle.sixel_mend_laws.proofs.MendedLemmas as mended
use Rattle.sixel_mend_laws.proofs.laws.mended_is_portable.Goals as goal

pub returns : goal.returns
returns c = mended.mended_is_portable
