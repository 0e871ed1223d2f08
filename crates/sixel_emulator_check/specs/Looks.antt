-- What was looked at of the bytes of a string: rules of which events don't tell.
use Rattle.std.specs.Prelude.{ℕ, List}
use Rattle.sixel_grammar.specs.Following.{AreFollowed}
use Rattle.sixel_grammar.specs.declared.command.Placed.{Placed}
use Rattle.sixel_grammar.specs.declared.reader.Reader.{Reader}
use Rattle.sixel_omissions.specs.Seen.{HasSeenBare}
use Rattle.sixel_emulator_check.specs.Trailer.{HasSeenSpaces}
use Rattle.sixel_emulator_check.specs.declared.looks.Looks.{Looks}

-- these bytes were looked at
pub record HasLooked (looks : Looks) (bytes : List ℕ) : Type 0 where
  pub bare : HasSeenBare looks.bare bytes
  pub spaces : HasSeenSpaces looks.spaces bytes

-- the events that are complete in these bytes were taken, and these bytes were looked at
abbrev pub HasFollowed : {F : Type 0} → (F → F → List Placed → Type 0) → F → Looks → Reader → F → Looks → List ℕ
    → Type 0
HasFollowed has_taken first start reader follower now bytes =
    AreFollowed (has_taken first) reader follower bytes × HasLooked now bytes
