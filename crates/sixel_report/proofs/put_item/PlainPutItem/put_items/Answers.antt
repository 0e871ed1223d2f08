use Rattle.sixel_report.proofs.put_item.PlainPutItem.put_items.Goals as goal

pub returns : goal.returns
returns g c = rw (c.as_slice.ensures.value, c.joined.ensures) at c.put_all.ensures
