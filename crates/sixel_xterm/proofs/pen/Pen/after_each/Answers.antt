use Rattle.std.proofs.Common.{◌≡◌, ◌∙◌, ◌++◌, List, ap, append-nil, arith, sym, take, ℕ}
use Rattle.std.proofs.lemmas.List.{take_all}
use Rattle.sixel_terminal.specs.Stretches.{sixels_of}
use Rattle.sixel_xterm.specs.XTerm.{xterm_pen}
use Rattle.sixel_xterm.proofs.PenLemmas.{pen_more}
use Rattle.sixel_xterm.proofs.pen.Pen.after_each.Goals as goal

pub loop-byte-init : goal.loop-byte-init
loop-byte-init c = λ before is past. is ∙ ap xterm_pen (sym (append-nil before))

pub loop-byte-preserved : goal.loop-byte-preserved
loop-byte-preserved c = λ before is past.
    rw (c.after-pen.ensures, c.sixel.ensures)
    (pen_more before c.args.bytes.now c.loop-byte.byte-index c.args.is_past c.loop-byte-test.true past
    (c.loop-byte.invariant before is past))

pub returns : goal.returns
returns c = λ before is past.
    let all : take c.loop-byte.byte-index c.args.bytes.now ≡ c.args.bytes.now =
    take_all c.loop-byte.byte-index c.args.bytes.now (omega (arith, c.loop-byte-test.false)) in
    c.loop-byte.invariant before is past
    ∙ ap (λ (bytes : List ℕ). xterm_pen (before ++ sixels_of bytes)) all
