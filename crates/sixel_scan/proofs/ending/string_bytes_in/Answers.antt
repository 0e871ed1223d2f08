use Rattle.sixel_scan.proofs.StretchLemmas.{inside_off, inside_on}
use Rattle.sixel_scan.proofs.ending.string_bytes_in.Goals as goal

pub returns-then-eight-clause-inside : goal.returns-then-eight-clause-inside
returns-then-eight-clause-inside c =
    rw c.if-eight.true
    (inside_on c.args.piece.now c.memchr3.result c.memchr.result _ _ c.unwrap_or-count.ensures c.memchr3.ensures
    c.unwrap_or.ensures c.memchr.ensures)

pub returns-else-eight-clause-inside : goal.returns-else-eight-clause-inside
returns-else-eight-clause-inside c =
    rw c.if-eight.false (inside_off c.args.piece.now c.memchr3.result _ c.unwrap_or-count.ensures c.memchr3.ensures)
