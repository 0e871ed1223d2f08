use Rattle.std.proofs.Common.{◌∙◌, ap}
use Rattle.sixel_terminal.specs.Pixels.{bytes_of}
use Rattle.sixel_terminal.proofs.PixelCodeLemmas.{bytes_back}
use Rattle.sixel_terminal.proofs.pixel.Pixel.bytes.Goals as goal

pub returns : goal.returns
returns c =
    c.to_le_bytes.ensures
    ∙ bytes_back _ c.self.inside.code c.self.invariant.ink c.self.invariant.same ∙ ap bytes_of c.self.view_is
