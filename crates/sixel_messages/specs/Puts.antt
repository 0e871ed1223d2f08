-- Texts that are put to a sink in turn.
use Rattle.std.specs.Prelude.{◌≡◌, ◌∷◌, List, []}
use Rattle.sixel_io.specs.Devices.{Change, SinkState, change}
use Rattle.sixel_report.specs.Exits.{IsPut}
use Rattle.sixel_report.specs.Texts.{Text}

-- the texts were put to a sink in turn, each whole, or a prefix of it if a call failed. A failure doesn't stop the next
-- text
unfoldable pub ArePut : List Text → Change SinkState → Type 0
ArePut [] sink = sink.new ≡ sink.old
ArePut (text ∷ rest) sink =
    (between : SinkState) × IsPut text (change sink.old between) × ArePut rest (change between sink.new)
