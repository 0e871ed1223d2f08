-- What a model makes of the event at a position.
use Rattle.std.proofs.Common.{◌≡◌, suc, ◌+◌, Some, List, [], ◌∷◌, ◌++◌, length, refl, arith}
use Rattle.std.specs.Prelude.{slice_get}
use Rattle.std.proofs.Math.Seq.{take-append_seam}
use Rattle.sixel_grammar.specs.declared.command.Event.{Event}
use Rattle.sixel_emulator.specs.Readings.{Model, read_at}

get_there : (before rest : List Event) (e : Event) → slice_get (before ++ e ∷ rest) (length before) ≡ Some e
get_there [] rest e = refl
get_there (b ∷ bs) rest e = get_there bs rest e

get_after : (before rest : List Event) (e : Event)
    → slice_get (before ++ e ∷ rest) (length before + 1) ≡ slice_get rest 0
get_after [] rest e = refl
get_after (b ∷ bs) rest e =
    let one : length (b ∷ bs) + 1 ≡ suc (length bs + 1) = omega arith in
    rw one (get_after bs rest e)

pub read_there : (m : Model) (before rest : List Event) (e : Event)
    → read_at m (before ++ e ∷ rest) (length before) ≡ m.rule before e (slice_get rest 0)
read_there m before rest e =
    rw (get_there before rest e, take-append_seam before (e ∷ rest), get_after before rest e) refl
