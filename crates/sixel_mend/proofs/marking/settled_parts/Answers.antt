use Rattle.std.proofs.Common.{map}
use Rattle.sixel_model.specs.Profiles.{count_of}
use Rattle.sixel_terminal.specs.Screens.{colour_in_ink}
use Rattle.sixel_mend.proofs.SettleLemmas.{settled_for}
use Rattle.sixel_mend.proofs.marking.settled_parts.Goals as goal

pub returns-in-Ok-clause-settled : goal.returns-in-Ok-clause-settled
returns-in-Ok-clause-settled c =
    settled_for (count_of c.args.profile) c.args.mark c.args.background c.args.has_hls
    (map colour_in_ink c.args.pixels.now) c.in-Ok.parts c.settled.result c.in-Ok.ensures.numbered c.settled.ensures
