use Rattle.std.proofs.Common.{◌≡◌, ◌+◌, ◌*◌, ◌≤◌, length, sym, ◌∙◌, arith}
use Rattle.std.proofs.Math.Nat.{add-mul, mul-le-mul_right}
use Rattle.std.proofs.lemmas.Bool.{le-leb}
use Rattle.sixel_encode.proofs.rows.is_there.Goals as goal

pub returns-then-is_whole : goal.returns-then-is_whole
returns-then-is_whole c =
    let row = c.args.row in
    let w = c.args.width in
    let all : 6 * w ≤ length c.args.rows.now = c.requires.whole c.if-is_whole.true in
    let more : (row + 1) * w ≤ 6 * w = mul-le-mul_right w (omega arith) in
    let split : (row + 1) * w ≡ row * w + 1 * w = add-mul row 1 w in
    c.if-is_whole.true ∙ sym (le-leb (row * w + w) (length c.args.rows.now) (omega arith))
