-- In a document each event has a greater offset than those before it.
use Rattle.std.proofs.Common.{◌≡◌, ◌<◌, ◌≤◌, ◌+◌, ℕ, zero, suc, Option, Some, List, [], ◌∷◌, length}
use Rattle.std.proofs.Common.{subst, arith, length-append}
use Rattle.std.specs.Prelude.{slice_get}
use Rattle.std.specs.List.{AllByRecursion}
use Rattle.std.specs.Option.{option_map}
use Rattle.sixel_grammar.specs.declared.command.Placed.{Placed}
use Rattle.sixel_grammar.specs.Document.{Document, IsPiece, Piece, bytes_of, placed_from}
use Rattle.sixel_grammar.proofs.ViableLemmas.{spells-some}

-- the offset of the event at this position, if there is one
abbrev pub place_at : List Placed → ℕ → Option ℕ
place_at placed i = option_map (λ (p : Placed). p.place) (slice_get placed i)

-- an event of the pieces isn't before their first byte
place_from : (n : ℕ) (ps : List Piece) (i a : ℕ) → place_at (placed_from n ps) i ≡ Some a → n ≤ a
place_from n [] i a h = cc
place_from n (p ∷ ps) zero a h = let same : n + length p.filler ≡ a = cc in omega arith
place_from n (p ∷ ps) (suc i) a h =
    let later : n + length (bytes_of p) ≤ a = place_from (n + length (bytes_of p)) ps i a h in
    omega arith

-- a later event has a greater offset
places_rise : (n : ℕ) (ps : List Piece) → AllByRecursion IsPiece ps → (i j a b : ℕ) → i < j
    → place_at (placed_from n ps) i ≡ Some a → place_at (placed_from n ps) j ≡ Some b → a < b
places_rise n [] each i j a b lt f g = cc
places_rise n (p ∷ ps) each i zero a b lt f g = absurd (omega arith)
places_rise n (p ∷ ps) each zero (suc j) a b lt f g =
    let same : n + length p.filler ≡ a = cc in
    let some : 0 < length p.text = spells-some p.event p.text each.0.spells in
    let long = length-append p.filler p.text in
    let later : n + length (bytes_of p) ≤ b = place_from (n + length (bytes_of p)) ps j b g in
    omega arith
places_rise n (p ∷ ps) each (suc i) (suc j) a b lt f g =
    places_rise (n + length (bytes_of p)) ps each.1 i j a b (omega arith) f g

-- of two events of a document, the later one has the greater offset
pub later_place : {events : List Placed} {bytes : List ℕ} → Document events bytes → (i j a b : ℕ) → i < j
    → place_at events i ≡ Some a → place_at events j ≡ Some b → a < b
later_place {events} d i j a b lt f g =
    let at : (k c : ℕ) → place_at events k ≡ Some c → place_at (placed_from 0 d.pieces) k ≡ Some c =
    λ k c h. subst (λ (l : List Placed). place_at l k ≡ Some c) d.events_are h in
    places_rise 0 d.pieces d.parses.each i j a b lt (at i a f) (at j b g)
