use Rattle.sixel_mend.proofs.MeasureLemmas.{measures_stretch}
use Rattle.sixel_mend.proofs.extent.Extent.follow_stretch.Goals as goal

pub returns-then-has_room : goal.returns-then-has_room
returns-then-has_room c = λ before s. measures_stretch c.args.bytes.now s (c.has_room.ensures.across c.if-has_room.true)
    (c.has_room.ensures.down c.if-has_room.true)
