-- Joined fixed spellings are a document of exactly these events.
use Rattle.std.proofs.Common.{◌≡◌, ℕ, ◌+◌, ◌≤◌, List, [], ◌∷◌, ◌++◌, length, refl, sym, ap, subst, ◌∙◌, append_assoc}
use Rattle.std.proofs.Common.{arith}
use Rattle.std.specs.List.{AllByRecursion}
use Rattle.std.proofs.lemmas.List.{append-nil}
use Rattle.sixel_grammar.specs.declared.command.Event.{Event}
use Rattle.sixel_grammar.specs.declared.command.Placed.{Placed}
use Rattle.sixel_grammar.specs.Spelling.{fixed_spelling}
use Rattle.sixel_grammar.specs.Document.{Piece, IsPiece, joined, events_in, placed_from, AreWhole, Document, most_bytes}
use Rattle.sixel_grammar.specs.FixedText.{fixed_text, fixed_places, CanWrite}
use Rattle.sixel_grammar.proofs.SpelledLemmas.{fixed_spells}

pub fixed_text-append : (xs ys : List Event) → fixed_text (xs ++ ys) ≡ fixed_text xs ++ fixed_text ys
fixed_text-append [] ys = refl
fixed_text-append (x ∷ xs) ys =
    ap (λ (t : List ℕ). fixed_spelling x ++ t) (fixed_text-append xs ys)
    ∙ sym (append_assoc (fixed_spelling x) (fixed_text xs) (fixed_text ys))

abbrev fixed_pieces : List Event → List Piece
fixed_pieces [] = []
fixed_pieces (e ∷ es) = record { filler = []; text = fixed_spelling e; event = e } ∷ fixed_pieces es

joined_is : (es : List Event) → fixed_text es ≡ joined (fixed_pieces es)
joined_is [] = refl
joined_is (e ∷ es) = ap (λ (t : List ℕ). fixed_spelling e ++ t) (joined_is es)

said_is : (es : List Event) → es ≡ events_in (fixed_pieces es)
said_is [] = refl
said_is (e ∷ es) = ap (λ (t : List Event). e ∷ t) (said_is es)

each_is : (es : List Event) → AllByRecursion CanWrite es → AllByRecursion IsPiece (fixed_pieces es)
each_is [] h = tt
each_is (e ∷ es) h = (record { filler_is = tt; spells = fixed_spells e h.0.is_event h.0.spellable }, each_is es h.1)

places_are : (n : ℕ) (es : List Event) → fixed_places n es ≡ placed_from n (fixed_pieces es)
places_are n [] = refl
places_are n (e ∷ es) =
    let z : n ≡ n + 0 = omega arith in
    ap (λ (k : ℕ). record { place = k; event = e } ∷ fixed_places (n + length (fixed_spelling e)) es) z
    ∙ ap (λ (t : List Placed). record { place = n + 0; event = e } ∷ t) (places_are (n + length (fixed_spelling e)) es)

pub fixed_document : (es : List Event) → AllByRecursion CanWrite es → AreWhole es
    → length (fixed_text es) ≤ most_bytes → Document (fixed_places 0 es) (fixed_text es)
fixed_document es can whole short = record {
  pieces = fixed_pieces es;
  parses = record {
    after = [];
    bytes_are = joined_is es ∙ sym (append-nil (joined (fixed_pieces es)));
    each = each_is es can;
    whole = subst AreWhole (said_is es) whole;
    after_is = tt;
  };
  events_are = places_are 0 es;
  short = short;
}
