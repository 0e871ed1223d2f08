-- Prefixes of documents, and which events are complete in them.
use Rattle.std.specs.Prelude.{◌≡◌, ℕ, ◌+◌, List, [], ◌∷◌, ◌++◌, length, Contains, nat_le, if◌then◌else◌}
use Rattle.sixel_grammar.specs.declared.command.Placed.{Placed}
use Rattle.sixel_grammar.specs.Spelling.{is_open_ended}
use Rattle.sixel_grammar.specs.Document.{Piece, bytes_of, Parses}

-- the tails, with E for ESC: E P q E \, P q E \, q E \, E \, ~ E \, ; E \, ;; E \, ;;; E \, \, and the empty one
abbrev pub tails : List (List ℕ)
tails =
    (27 ∷ 80 ∷ 113 ∷ 27 ∷ 92 ∷ []) ∷ (80 ∷ 113 ∷ 27 ∷ 92 ∷ []) ∷ (113 ∷ 27 ∷ 92 ∷ []) ∷ (27 ∷ 92 ∷ [])
    ∷ (126 ∷ 27 ∷ 92 ∷ [])
    ∷ (59 ∷ 27 ∷ 92 ∷ []) ∷ (59 ∷ 59 ∷ 27 ∷ 92 ∷ []) ∷ (59 ∷ 59 ∷ 59 ∷ 27 ∷ 92 ∷ []) ∷ (92 ∷ []) ∷ [] ∷ []

-- how many bytes complete the event of a piece that begins at offset n: an open-ended event needs one byte after it
abbrev pub completed_at : ℕ → Piece → ℕ
completed_at n p = n + length (bytes_of p) + (if is_open_ended p.event then 1 else 0)

-- of the pieces from offset n on, the events that are complete in the first `held` bytes
abbrev pub complete_from : ℕ → ℕ → List Piece → List Placed
complete_from held n [] = []
complete_from held n (p ∷ ps) =
    if nat_le (completed_at n p) held
    then record { place = n + length p.filler; event = p.event } ∷ complete_from held (n + length (bytes_of p)) ps
    else []

-- the bytes followed by one of the tails are a document, ignoring the length limit,
-- and these of its events are complete in the bytes
pub record CompleteIn (events : List Placed) (bytes : List ℕ) : Type 0 where
  pub tail : List ℕ
  pub is_tail : Contains tails tail
  pub pieces : List Piece
  pub parses : Parses pieces (bytes ++ tail)
  pub complete : events ≡ complete_from (length bytes) 0 pieces

-- ignoring the length limit: the bytes followed by one of the tails are a document, so some document begins with them
abbrev pub IsViable : List ℕ → Type 0
IsViable bytes = (events : List Placed) × CompleteIn events bytes
