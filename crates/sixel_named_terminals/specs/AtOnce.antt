-- The rectangle of a document that konsole draws while it is read. Only the contract of a private function cites this.
use Rattle.std.specs.Prelude.{◌≡◌, Option, Some, None, ⊤}
use Rattle.sixel_grammar.specs.declared.command.Command.{Command}
use Rattle.sixel_grammar.specs.declared.command.Command.TheVariants.{Raster}

-- no rectangle, or one whose sixel pixels are one pixel high
abbrev pub IsLow : Option Command → Type 0
IsLow None = ⊤
IsLow (Some (Raster pan pad width height)) = (pan ≡ 1) × (pad ≡ 1)
IsLow (Some _) = ⊥
