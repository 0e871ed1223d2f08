use Rattle.std.proofs.Common.{refl}
use Rattle.sixel_emulator.proofs.PlaceLemmas.{place_none}
use Rattle.sixel_emulator.proofs.place.Place.new.Goals as goal

pub returns : goal.returns
returns c = λ zero. place_none zero _ refl refl
