use Rattle.std.proofs.Common.{◌≡◌, ◌≢◌, ◌∙◌, ◌+◌, ◌-◌, ◌<◌, ◌≤◌, ap, arith, length, min, sym}
use Rattle.std.proofs.lemmas.Bool.{eqb-false}
use Rattle.sixel_xterm.specs.declared.pen.Pen.{Pen}
use Rattle.sixel_xterm.specs.XTerm.{pen_at, xterm_pen, xterm_side}
use Rattle.sixel_xterm.proofs.PenLemmas.{ended_over, pen_over}
use Rattle.sixel_xterm.proofs.pen.Pen.after_sixels.Goals as goal

pub returns-then-self : goal.returns-then-self
returns-then-self c = λ before is past.
    is ∙ sym (ended_over before c.args.bytes.now (ap (λ (p : Pen). p.ended) (sym is) ∙ c.if-self.true))

pub returns-then-bytes-from : goal.returns-then-bytes-from
returns-then-bytes-from c = λ before is past.
    let bytes = c.args.bytes.now in
    let column : (xterm_pen before).column ≡ c.args.self.column = ap (λ (p : Pen). p.column) (sym is) in
    let other : length bytes ≢ 0 = eqb-false (length bytes) 0 (sym c.is_empty.ensures ∙ c.if-is_empty.false) in
    let some : 0 < length bytes = omega (arith, other) in
    let left : c.columns_left.result ≡ xterm_side - c.args.self.column = c.columns_left.ensures in
    let le : (xterm_pen before).column + length bytes ≤ xterm_side =
    omega (arith, column, some, left, c.from.ensures, c.if-bytes-from.true) in
    let sum : min (c.args.self.column + length bytes) xterm_side ≡ (xterm_pen before).column + length bytes =
    omega (arith, column, le) in
    c.right.ensures
    ∙ (ap pen_at sum
    ∙ sym (pen_over before bytes (ap (λ (p : Pen). p.ended) (sym is) ∙ c.if-self.false) (sym past ∙ c.if-not-is_past.true) some le))

pub after_far-requires-clause-some : goal.after_far-requires-clause-some
after_far-requires-clause-some c =
    let other : length c.args.bytes.now ≢ 0 =
    eqb-false (length c.args.bytes.now) 0 (sym c.is_empty.ensures ∙ c.if-is_empty.false) in
    omega (arith, other)
