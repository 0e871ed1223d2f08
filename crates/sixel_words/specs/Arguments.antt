-- The arguments of a process.
use Rattle.std.specs.Prelude.{◌≡◌, ◌<◌, ℕ, List, None, Result, Ok, Err, Some, length, slice_get, take}
use Rattle.std.specs.declared.env.FillError.{FillError}
use Rattle.std.specs.declared.env.FillError.TheVariants.{NotPresent, TooLong}
use Rattle.sixel_report.specs.Texts.{Text}

-- what a copy of the argument with this index gave, and what was then in the room: the argument, of this length, is at
-- its start; or there is no such argument; or it is longer than the room
abbrev pub IsCopied : List Text → ℕ → Result ℕ FillError → Text → Type 0
IsCopied arguments index (Ok n) room = slice_get arguments index ≡ Some (take n room)
IsCopied arguments index (Err NotPresent) room = slice_get arguments index ≡ None
IsCopied arguments index (Err TooLong) room =
    (argument : Text) × (slice_get arguments index ≡ Some argument) × (length room < length argument)
