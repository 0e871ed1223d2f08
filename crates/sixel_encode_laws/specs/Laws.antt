-- What the laws say.
use Rattle.std.specs.Prelude.{◌≡◌, ◌≢◌, ℕ, ◌+◌, ◌*◌, ◌≤◌, List, [], ◌∷◌, length, replicate, flat_map, count_by, is_some}
use Rattle.std.specs.List.{AllByRecursion}
use Rattle.sixel_grammar.specs.Document.{AreWhole, Document}
use Rattle.sixel_grammar.specs.FixedText.{CanWrite, fixed_places}
use Rattle.sixel_model.specs.Pictures.{PictureValue, IsPicture}
use Rattle.sixel_model.specs.Rules.{BreaksNone, last_rule, picture_left}
use Rattle.sixel_encode.specs.Canon.{Run, runs, bands, canon, canon_text}

-- ---- runs

-- the items of all runs, one run after another
abbrev pub items_of : List Run → List ℕ
items_of rs = flat_map (λ (r : Run). replicate r.count r.item) rs

-- each run has an item, and the next run has a different one
abbrev pub AreLongest : List Run → Type 0
AreLongest [] = Unit {0}
AreLongest (r ∷ []) = 1 ≤ r.count
AreLongest (r ∷ s ∷ rs) = (1 ≤ r.count) × (r.item ≢ s.item) × AreLongest (s ∷ rs)

-- the runs of a row, joined, are the row, and each run is as long as it can be
abbrev pub RunsGiveTheirRow : Type 0
RunsGiveTheirRow = (row : List ℕ) → items_of (runs row) ≡ row

abbrev pub RunsAreLongest : Type 0
RunsAreLongest = (row : List ℕ) → AreLongest (runs row)

-- ---- texts

-- how many registers of the palette have a colour
abbrev pub entries_of : PictureValue → ℕ
entries_of p = count_by is_some p.palette

-- the text of a picture with `registers` registers has at most this many bytes
abbrev pub TextsAreShort : ℕ → Type 0
TextsAreShort registers = (p : PictureValue) → IsPicture registers p
    → length (canon_text p) ≤ 22 + 18 * entries_of p + bands p * entries_of p * (p.width + 5)

-- the text of any such picture has at most `most` bytes
abbrev pub TextsHaveAtMost : ℕ → ℕ → Type 0
TextsHaveAtMost most registers = (p : PictureValue) → IsPicture registers p → length (canon_text p) ≤ most

-- ---- events

-- each event of a canonical list can be written: it is spellable, with its numbers in range
abbrev pub EventsCanBeWritten : ℕ → Type 0
EventsCanBeWritten registers = (p : PictureValue) → IsPicture registers p → AllByRecursion CanWrite (canon p)

-- a canonical list is a start, commands and a finish
abbrev pub ListsAreWhole : Type 0
ListsAreWhole = (p : PictureValue) → AreWhole (canon p)

-- the text of a picture is a document of its canonical list
abbrev pub TextsAreDocuments : ℕ → Type 0
TextsAreDocuments registers = (p : PictureValue) → IsPicture registers p
    → Document (fixed_places 0 (canon p)) (canon_text p)

-- ---- there and back

-- the canonical list of a picture breaks no rule
abbrev pub ListsBreakNoRule : ℕ → Type 0
ListsBreakNoRule registers = (p : PictureValue) → IsPicture registers p → BreaksNone registers last_rule (canon p)

-- the picture that the canonical list of a picture leaves is the same
abbrev pub ListsLeaveTheirPicture : ℕ → Type 0
ListsLeaveTheirPicture registers = (p : PictureValue) → IsPicture registers p → picture_left registers (canon p) ≡ p
