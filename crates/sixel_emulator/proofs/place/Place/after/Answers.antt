use Rattle.sixel_emulator.proofs.PlaceLemmas.{place_push}
use Rattle.sixel_emulator.proofs.place.Place.after.Goals as goal

pub returns : goal.returns
returns c = λ before s.
    place_push c.args.zero_columns c.args.self c.moved_by.result c.args.event.now s c.moved_by.ensures.column
    c.moved_by.ensures.band
