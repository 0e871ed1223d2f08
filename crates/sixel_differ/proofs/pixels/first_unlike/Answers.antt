use Rattle.std.proofs.Common.{ℕ, ap, ◌∙◌}
use Rattle.std.specs.Prelude.{◌%◌, ◌/◌}
use Rattle.sixel_differ.proofs.PixelLemmas.{alike, differ_first}
use Rattle.sixel_differ.proofs.pixels.first_unlike.Goals as goal

pub returns-in-None : goal.returns-in-None
returns-in-None c =
    alike c.args.a.now c.args.b.now c.pixels.result.now c.pixels-2.result.now
    (record {
      first = c.pixels.ensures.pixels;
      second = c.pixels-2.ensures.pixels;
      width = c.requires.width;
      whole = c.requires.whole;
    })
    c.in-None.ensures

pub returns-in-Some : goal.returns-in-Some
returns-in-Some c =
    differ_first c.args.a.now c.args.b.now c.pixels.result.now c.pixels-2.result.now c.in-Some.at c.place_of.result.0
    c.place_of.result.1
    (record {
      first = c.pixels.ensures.pixels;
      second = c.pixels-2.ensures.pixels;
      width = c.requires.width;
      whole = c.requires.whole;
    })
    (c.place_of.ensures.0 ∙ ap (λ (w : ℕ). c.in-Some.at % w) c.width.ensures)
    (c.place_of.ensures.1 ∙ ap (λ (w : ℕ). c.in-Some.at / w) c.width.ensures) c.in-Some.ensures
