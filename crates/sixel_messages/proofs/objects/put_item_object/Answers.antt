use Rattle.sixel_io.proofs.SinkLemmas.{writes-as}
use Rattle.sixel_messages.proofs.JsonLemmas.{object_written}
use Rattle.sixel_messages.proofs.MemberLemmas.{item_ends}
use Rattle.sixel_messages.proofs.objects.put_item_object.Goals as goal

pub returns : goal.returns
returns g c =
    writes-as (object_written _ _ (item_ends c.args.item.now))
    (rw (c.push_item.ensures.items, c.new-rest.ensures) at c.put_object.ensures)
