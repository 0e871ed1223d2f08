-- Whether a string stands in the pass-through of tmux or GNU Screen.
use Rattle.std.specs.Prelude.{◌≡◌, ◌≤◌, ◌↔◌, ◌⊎◌, ℕ, true, false, List, [], ◌∷◌, length, take}
use Rattle.std.specs.List.{AllByRecursion}
use Rattle.sixel_grammar.specs.Bytes.{escape, introducer}
use Rattle.sixel_scan.specs.declared.answer.Scanned.{Scanned}
use Rattle.sixel_scan.specs.Strings.{EndsWith}

-- the bytes before a string end as those before one in a pass-through: in that of tmux, which doubles each ESC of the
-- string, with ESC; in that of GNU Screen, which puts it after an introducer, with ESC P
abbrev pub IsWrapped : List ℕ → Type 0
IsWrapped before = EndsWith before (escape ∷ []) ⊎ EndsWith before (introducer false)

-- the report says whether its string, which begins within these bytes of the stream, is wrapped; all of them that stand
-- before it count, those of another string too
pub record IsMarked (bytes : List ℕ) (scanned : Scanned) : Type 0 where
  pub within : scanned.place ≤ length bytes
  pub marked : (scanned.wrapped ≡ true) ↔ IsWrapped (take scanned.place bytes)

-- so does each report
abbrev pub AreMarked : List ℕ → List Scanned → Type 0
AreMarked bytes reports = AllByRecursion (IsMarked bytes) reports
