-- A source that is followed while its bytes are looked at.
use Rattle.std.proofs.Common.{ℕ, List}
use Rattle.sixel_grammar.specs.declared.command.Placed.{Placed}
use Rattle.sixel_grammar.specs.declared.reader.Reader.{Reader}
use Rattle.sixel_grammar.specs.Following.{AreFollowed}
use Rattle.sixel_omissions.specs.declared.bare.BareSelects.{BareSelects}
use Rattle.sixel_omissions.specs.Seen.{HasSeenBare}

-- the events that are complete in these bytes were taken, and these bytes were seen
abbrev pub HasNoted : {F : Type 0} → (F → F → List Placed → Type 0) → F → BareSelects → Reader → F → BareSelects
    → List ℕ → Type 0
HasNoted has_taken first start reader follower now bytes =
    AreFollowed (has_taken first) reader follower bytes × HasSeenBare now bytes
