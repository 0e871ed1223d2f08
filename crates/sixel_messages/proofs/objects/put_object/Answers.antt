use Rattle.sixel_io.proofs.SinkLemmas.{writes-as}
use Rattle.sixel_messages.proofs.JsonLemmas.{pieces_with_name, pieces_without_name}
use Rattle.sixel_messages.proofs.objects.put_object.Goals as goal

pub returns-in-Some : goal.returns-in-Some
returns-in-Some g c =
    rw c.in-Some.is
    (writes-as (pieces_with_name _ _)
    (rw c.push_all.ensures.items at (rw c.as_slice.ensures.value at c.put_quoted.ensures)))

pub returns-in-None : goal.returns-in-None
returns-in-None g c =
    rw c.in-None.is
    (writes-as (pieces_without_name _)
    (rw c.push_all.ensures.items at (rw c.as_slice-in-None.ensures.value at c.put_quoted-in-None.ensures)))
