-- What a scan knows of the bytes before a string. It is part of what a scan has told (Scans).
use Rattle.std.specs.Prelude.{◌≡◌, ◌≤◌, ◌↔◌, ℕ, Bool, true, false, List, [], ◌∷◌, ◌++◌, length, take}
use Rattle.sixel_grammar.specs.Bytes.{escape, introducer}
use Rattle.sixel_scan.specs.declared.answer.Scanned.{Scanned}
use Rattle.sixel_scan.specs.declared.opening.Opening.TheVariants.{Nothing, Escape, Letter, Control, Introduced}
use Rattle.sixel_scan.specs.declared.scanner.Scanner.{Scanner}
use Rattle.sixel_scan.specs.declared.scanner.Stage.{Stage}
use Rattle.sixel_scan.specs.declared.scanner.Stage.TheVariants.{Text, Inside, Escaped}
use Rattle.sixel_scan.specs.Strings.{EndsWith}
use Rattle.sixel_scan.specs.Wrapping.{AreMarked, IsWrapped}

-- the next string wouldn't be wrapped
abbrev pub IsPlain : List ℕ → Type 0
IsPlain bytes = IsWrapped bytes → ⊥

-- at this stage, the bytes read end with ESC, with ESC P or in neither
abbrev pub EndAs : Stage → List ℕ → Type 0
EndAs (Text Nothing) bytes = IsPlain bytes
EndAs (Text Escape) bytes = EndsWith bytes (escape ∷ [])
EndAs (Text Letter) bytes = EndsWith bytes (introducer false)
EndAs (Text Control) bytes = IsPlain bytes
EndAs (Text Introduced) bytes = IsPlain bytes
EndAs Inside bytes = IsPlain bytes
EndAs Escaped bytes = (string : List ℕ) × (bytes ≡ string ++ escape ∷ []) × IsPlain string

-- with these parts, a scan knows how the bytes read end, and whether the string is wrapped that it would report
pub record KnowsWith (stage : Stage) (read opened : ℕ) (wrapped : Bool) (bytes : List ℕ) : Type 0 where
  pub read_is : read ≡ length bytes
  pub within : opened ≤ length bytes
  pub ends : EndAs stage bytes
  pub marked : (wrapped ≡ true) ↔ IsWrapped (take opened bytes)

-- at this stage, the scan does
abbrev pub KnowsAt : Scanner → Stage → List ℕ → Type 0
KnowsAt s stage bytes = KnowsWith stage s.read s.opened s.wrapped bytes

-- at its own stage, it does
abbrev pub Knows : Scanner → List ℕ → Type 0
Knows s bytes = KnowsAt s s.stage bytes

-- the scan does after these bytes, and says so of the strings that it reports
pub record Marks (s : Scanner) (bytes : List ℕ) (reports : List Scanned) : Type 0 where
  pub knows : Knows s bytes
  pub marked : AreMarked bytes reports
