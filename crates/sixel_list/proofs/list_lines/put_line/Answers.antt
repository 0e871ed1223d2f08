use Rattle.std.proofs.Common.{◌∙◌}
use Rattle.sixel_list.proofs.ListingLemmas.{line-put}
use Rattle.sixel_list.proofs.list_lines.put_line.Goals as goal

pub returns : goal.returns
returns g c =
    line-put c.put.result c.args.placed.now (c.as_slice.ensures.value ∙ c.event_line-line.ensures) c.put.ensures
