use Rattle.sixel_check.proofs.checking.check.Goals as goal

pub returns : goal.returns
returns g c =
    let e = c.check_with.ensures in
    record { answer = e.answer; failures = e.failures; unread = e.unread; left = e.left; memory = e.memory }
