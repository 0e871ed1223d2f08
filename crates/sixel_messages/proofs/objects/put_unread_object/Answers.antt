use Rattle.sixel_io.proofs.SinkLemmas.{writes-as}
use Rattle.sixel_messages.specs.Json.{unread_members}
use Rattle.sixel_messages.proofs.JsonLemmas.{object_written}
use Rattle.sixel_messages.proofs.MemberLemmas.{unread_ends}
use Rattle.sixel_messages.proofs.objects.put_unread_object.Goals as goal

pub returns : goal.returns
unfolding unread_members
returns g c =
    writes-as (object_written _ _ (unread_ends c.args.reason))
    (rw (c.push_not_read.ensures.items, c.reason_words.ensures.text, c.new-rest.ensures) at c.put_object.ensures)
