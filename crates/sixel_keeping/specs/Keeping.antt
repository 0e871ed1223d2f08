-- A document whose bytes are kept while it is followed.
use Rattle.std.specs.Prelude.{◌≡◌, ℕ, List, IfSome}
use Rattle.sixel_grammar.specs.declared.command.Placed.{Placed}
use Rattle.sixel_grammar.specs.declared.reader.Reader.{Reader}
use Rattle.sixel_grammar.specs.Following.{AreFollowed}
use Rattle.sixel_keeping.specs.declared.keeping.Keeping.{Keeping}

-- the events that are complete in these bytes were taken, and the bytes are kept, if any are
abbrev pub HasKept : {F : Type 0} → (F → F → List Placed → Type 0) → F → Keeping → Reader → F → Keeping → List ℕ
    → Type 0
HasKept has_taken first start reader follower now bytes =
    AreFollowed (has_taken first) reader follower bytes × IfSome now.kept (λ kept. kept.items ≡ bytes)
