-- The string of `Bare` is a document of its events.
use Rattle.std.proofs.Common.{inl, ℕ, List, [], ◌∷◌, refl, lit≤, lit<, false}
use Rattle.std.specs.List.{AllByRecursion}
use Rattle.sixel_grammar.specs.Document.{Document, IsPiece, Piece}
use Rattle.sixel_grammar.specs.Number.{Fields, NumberText}
use Rattle.sixel_grammar.specs.declared.command.Event.{Event}
use Rattle.sixel_grammar.specs.declared.command.Event.TheVariants.{Finish}
use Rattle.sixel_emulator_rules_laws.specs.Witnesses.{black, box, introducer, select, six_pixels}
use Rattle.sixel_emulator_rules_laws.specs.Wrong.{bare_bytes, bare_placed}

missing : NumberText 0 []
missing = record { digits = tt; value = refl; small = lit≤ tt }

zero_text : NumberText 0 (48 ∷ [])
zero_text = record { digits = (lit< tt, tt); value = refl; small = lit≤ tt }

one_text : NumberText 1 (49 ∷ [])
one_text = record { digits = (lit< tt, tt); value = refl; small = lit≤ tt }

two_text : NumberText 2 (50 ∷ [])
two_text = record { digits = (lit< tt, tt); value = refl; small = lit≤ tt }

six_text : NumberText 6 (54 ∷ [])
six_text = record { digits = (lit< tt, tt); value = refl; small = lit≤ tt }

-- 1;1;1;6
box_fields : Fields (1 ∷ 1 ∷ 1 ∷ 6 ∷ []) (49 ∷ 59 ∷ 49 ∷ 59 ∷ 49 ∷ 59 ∷ 54 ∷ [])
box_fields = (
  49 ∷ [],
  49 ∷ 59 ∷ 49 ∷ 59 ∷ 54 ∷ [],
  refl,
  one_text,
  (49 ∷ [], 49 ∷ 59 ∷ 54 ∷ [], refl, one_text, (49 ∷ [], 54 ∷ [], refl, one_text, six_text)),
)

-- 0;2;0;0;0
black_fields : Fields (0 ∷ 2 ∷ 0 ∷ 0 ∷ 0 ∷ []) (48 ∷ 59 ∷ 50 ∷ 59 ∷ 48 ∷ 59 ∷ 48 ∷ 59 ∷ 48 ∷ [])
black_fields = (
  48 ∷ [],
  50 ∷ 59 ∷ 48 ∷ 59 ∷ 48 ∷ 59 ∷ 48 ∷ [],
  refl,
  zero_text,
  (
    50 ∷ [],
    48 ∷ 59 ∷ 48 ∷ 59 ∷ 48 ∷ [],
    refl,
    two_text,
    (48 ∷ [], 48 ∷ 59 ∷ 48 ∷ [], refl, zero_text, (48 ∷ [], 48 ∷ [], refl, zero_text, zero_text)),
  ),
)

abbrev piece : Event → List ℕ → Piece
piece e text = record { event = e; text = text; filler = [] }

abbrev pieces : List Piece
pieces =
    piece introducer (27 ∷ 80 ∷ 113 ∷ [])
    ∷ piece box (34 ∷ 49 ∷ 59 ∷ 49 ∷ 59 ∷ 49 ∷ 59 ∷ 54 ∷ [])
    ∷ piece black (35 ∷ 48 ∷ 59 ∷ 50 ∷ 59 ∷ 48 ∷ 59 ∷ 48 ∷ 59 ∷ 48 ∷ [])
    ∷ piece select (35 ∷ []) ∷ piece six_pixels (126 ∷ []) ∷ piece (Finish false) (27 ∷ 92 ∷ []) ∷ []

start_piece : IsPiece (piece introducer (27 ∷ 80 ∷ 113 ∷ []))
start_piece = record { filler_is = tt; spells = ([], 113 ∷ [], missing, lit≤ tt, inl refl, refl) }

box_piece : IsPiece (piece box (34 ∷ 49 ∷ 59 ∷ 49 ∷ 59 ∷ 49 ∷ 59 ∷ 54 ∷ []))
box_piece = record {
  filler_is = tt;
  spells = (1 ∷ 1 ∷ 1 ∷ 6 ∷ [], 49 ∷ 59 ∷ 49 ∷ 59 ∷ 49 ∷ 59 ∷ 54 ∷ [], box_fields, lit≤ tt, refl, refl);
}

black_piece : IsPiece (piece black (35 ∷ 48 ∷ 59 ∷ 50 ∷ 59 ∷ 48 ∷ 59 ∷ 48 ∷ 59 ∷ 48 ∷ []))
black_piece = record {
  filler_is = tt;
  spells = (48 ∷ 59 ∷ 50 ∷ 59 ∷ 48 ∷ 59 ∷ 48 ∷ 59 ∷ 48 ∷ [], black_fields, refl);
}

select_piece : IsPiece (piece select (35 ∷ []))
select_piece = record { filler_is = tt; spells = ([], missing, refl) }

six_piece : IsPiece (piece six_pixels (126 ∷ []))
six_piece = record { filler_is = tt; spells = (lit≤ tt, refl) }

finish_piece : IsPiece (piece (Finish false) (27 ∷ 92 ∷ []))
finish_piece = record { filler_is = tt; spells = refl }

each_piece : AllByRecursion IsPiece pieces
each_piece =
    (start_piece, (box_piece, (black_piece, (select_piece, (six_piece, (finish_piece, tt))))))

pub bare_document : Document bare_placed bare_bytes
bare_document = record {
  pieces = pieces;
  parses = record { after = []; bytes_are = refl; each = each_piece; whole = refl; after_is = tt };
  events_are = refl;
  short = lit≤ tt;
}
