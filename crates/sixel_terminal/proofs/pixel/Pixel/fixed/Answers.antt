use Rattle.std.proofs.Common.{◌≡◌, ◌∙◌, sym, ap}
use Rattle.sixel_terminal.specs.declared.pixel.Ink.TheVariants.{Fixed}
use Rattle.sixel_terminal.specs.Pixels.{code_of, ink_of}
use Rattle.sixel_terminal.proofs.PixelCodeLemmas.{ink_back, is_code}
use Rattle.sixel_terminal.proofs.pixel.Pixel.fixed.Goals as goal
use Rattle.sixel_terminal.proofs.pixel.Pixel.fixed.Goals.{in-Rgb, in-Hls}

pub invariant_of-result : goal.invariant_of-result
invariant_of-result c =
    let code : c.match-parts.code ≡ code_of (Fixed c.args.colour) = elim c.match-parts.branch [
      | in-Rgb w ↦ rw (w.code-is, sym c.parts.ensures.same, w.in-Rgb.is) w.packed-code.ensures
      | in-Hls w ↦ rw (w.code-is, sym c.parts.ensures.same, w.in-Hls.is) w.packed-code-in-Hls.ensures
    ] in
    is_code (Fixed c.args.colour) c.match-parts.code c.parts.ensures.in_range code

pub returns : goal.returns
returns c =
    let code : c.match-parts.code ≡ code_of (Fixed c.args.colour) = elim c.match-parts.branch [
      | in-Rgb w ↦ rw (w.code-is, sym c.parts.ensures.same, w.in-Rgb.is) w.packed-code.ensures
      | in-Hls w ↦ rw (w.code-is, sym c.parts.ensures.same, w.in-Hls.is) w.packed-code-in-Hls.ensures
    ] in
    ap ink_of code ∙ ink_back (Fixed c.args.colour) c.parts.ensures.in_range
