use Rattle.sixel_io.proofs.SinkLemmas.{writes-as}
use Rattle.sixel_messages.proofs.JsonLemmas.{object_written}
use Rattle.sixel_messages.proofs.MemberLemmas.{fault_ends}
use Rattle.sixel_messages.proofs.objects.put_fault_object.Goals as goal

pub returns : goal.returns
returns g c =
    writes-as (object_written _ _ (fault_ends c.args.fault.now))
    (rw (c.push_fault.ensures.items, c.new-rest.ensures) at c.put_object.ensures)
