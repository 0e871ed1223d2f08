-- What is kept of the bytes of a document, for a terminal that hears some commands otherwise.
use Rattle.std.specs.Prelude.{◌≡◌, ℕ, List, ⊤}
use Rattle.sixel_grammar.specs.declared.command.Placed.{Placed}
use Rattle.sixel_grammar.specs.declared.reader.Reader.{Reader}
use Rattle.sixel_grammar.specs.Following.{AreFollowed}
use Rattle.sixel_omissions.specs.Rasters.{HasSeenRaster}
use Rattle.sixel_omissions.specs.Seen.{HasSeenBare}
use Rattle.sixel_emulator.specs.declared.hearing.Hearing.{Hearing}
use Rattle.sixel_emulator.specs.declared.hearing.Hears.{Hears}
use Rattle.sixel_emulator.specs.declared.hearing.Hears.TheVariants.{Boxes, Events, Selects, SelectsAndRasters}
use Rattle.sixel_emulator.specs.declared.looking.Looking.{Looking}
use Rattle.sixel_emulator.specs.Heard.{HasHeardOn, omitted_in}

-- it has seen of these bytes what such a terminal hears otherwise
abbrev pub HasSeenFor : Hears → Looking → List ℕ → Type 0
HasSeenFor Events l bytes = ⊤
HasSeenFor Selects l bytes = HasSeenBare l.bare bytes
HasSeenFor SelectsAndRasters l bytes = HasSeenBare l.bare bytes × HasSeenRaster l.raster bytes
HasSeenFor Boxes l bytes = HasSeenRaster l.raster bytes

-- it has looked at these bytes for such a terminal
abbrev pub HasLooked : Hears → Looking → List ℕ → Type 0
HasLooked hears l bytes = (l.hears ≡ hears) × HasSeenFor hears l bytes

-- what was `first`, and hears otherwise what is omitted in these bytes, has taken the events that are complete in them;
-- and the bytes were looked at
abbrev pub HasHeardPieces : {F : Type 0} → (F → F → List Placed → Type 0) → Hearing F → Looking → Reader → Hearing F
    → Looking → List ℕ → Type 0
HasHeardPieces has_taken first start reader hearing now bytes =
    HasLooked start.hears now bytes
    × AreFollowed (HasHeardOn has_taken (record first { omitted = omitted_in start.hears bytes })) reader hearing bytes
