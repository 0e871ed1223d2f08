-- What the laws say.
use Rattle.std.specs.Prelude.{◌≡◌, Bool, false, List, [], ◌∷◌, ◌++◌, ℕ}
use Rattle.sixel_grammar.specs.Bytes.{introducer}
use Rattle.sixel_grammar.specs.Document.{Document}
use Rattle.sixel_grammar.specs.declared.command.Placed.{Placed}
use Rattle.sixel_scan.specs.Strings.{AreStrings, StringAt}

-- each stream has a list of strings
abbrev pub SomeStrings : Type 0
SomeStrings = (eight : Bool) (bytes : List ℕ) → (strings : List StringAt) × AreStrings eight strings bytes

-- no stream has two
abbrev pub OneListOfStrings : Type 0
OneListOfStrings =
    (eight : Bool) (first second : List StringAt) (bytes : List ℕ) → AreStrings eight first bytes
    → AreStrings eight second bytes → first ≡ second

-- a document that begins with ESC P, and has no filler after its end, is the only string of its bytes
abbrev pub DocumentIsOneString : Type 0
DocumentIsOneString =
    (eight : Bool) (events : List Placed) (bytes more : List ℕ) (document : Document events bytes)
    → bytes ≡ introducer false ++ more → document.parses.after ≡ []
    → AreStrings eight (record { place = 0; bytes = bytes } ∷ []) bytes
