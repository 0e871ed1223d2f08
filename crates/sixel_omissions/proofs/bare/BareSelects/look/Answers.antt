use Rattle.std.proofs.Common.{arith, length}
use Rattle.sixel_omissions.proofs.BareLemmas.{count_fits, seen_more, some_bytes}
use Rattle.sixel_omissions.proofs.bare.BareSelects.look.Goals as goal

pub returns : goal.returns
returns c = λ before h.
    let some = some_bytes (length c.args.bytes.now) c.is_empty.result c.is_empty.ensures c.if-is_empty.false in
    rw (c.opened-self.ensures, c.or-self.ensures, c.or.ensures, c.offset_of.ensures, c.one_if.ensures, c.left_bare-left.ensures)
    (seen_more c.args.bytes.now c.find_bare-found.result.first c.find_bare-found.result.count some h
    c.find_bare-found.ensures.first c.find_bare-found.ensures.count)

pub overflow_add-self : goal.overflow_add-self
overflow_add-self c =
    let some = some_bytes (length c.args.bytes.now) c.is_empty.result c.is_empty.ensures c.if-is_empty.false in
    let fits = count_fits c.args.bytes.now c.find_bare-found.result.count some c.requires.seen.1
    c.find_bare-found.ensures.count in
    rw (c.one_if.ensures, c.left_bare-left.ensures) (omega (arith, fits, c.requires.room))

pub overflow_add-self-2 : goal.overflow_add-self-2
overflow_add-self-2 c =
    let some = some_bytes (length c.args.bytes.now) c.is_empty.result c.is_empty.ensures c.if-is_empty.false in
    let fits = count_fits c.args.bytes.now c.find_bare-found.result.count some c.requires.seen.1
    c.find_bare-found.ensures.count in
    rw (c.one_if.ensures, c.left_bare-left.ensures) (omega (arith, fits, c.requires.room))
