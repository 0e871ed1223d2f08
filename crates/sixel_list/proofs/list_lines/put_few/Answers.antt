use Rattle.std.proofs.Common.{◌∙◌, refl}
use Rattle.sixel_io.proofs.SinkLemmas.{through-added, through-as}
use Rattle.sixel_list.proofs.list_lines.put_few.Goals as goal

pub returns-then-try_put : goal.returns-then-try_put
returns-then-try_put g c =
    through-as (c.as_slice.ensures.text ∙ c.set.ensures) (through-added (c.if-try_put.ensures.put refl))

pub returns : goal.returns
returns g c = rw (c.if-try_put.ensures.full refl).0 at c.put_each-2.ensures
