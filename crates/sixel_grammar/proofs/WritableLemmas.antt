-- An event that some bytes spell can be written: numbers in range, six bits, and a parameter in each start.
use Rattle.std.proofs.Common.{ℕ, ◌+◌, ◌<◌, ◌≤◌, Bool, true, false, cond, leb, List, [], ◌∷◌, length, sym, subst, arith}
use Rattle.std.specs.List.{AllByRecursion}
use Rattle.sixel_grammar.specs.declared.command.Command.TheVariants.{Sixel, Repeat, Raster, Select, Define}
use Rattle.sixel_grammar.specs.declared.command.Command.TheVariants.{CarriageReturn, NextLine}
use Rattle.sixel_grammar.specs.declared.command.Event.{Event}
use Rattle.sixel_grammar.specs.declared.command.Event.TheVariants.{Start, Step, Finish}
use Rattle.sixel_grammar.specs.declared.command.Placed.{Placed}
use Rattle.sixel_grammar.specs.Number.{Fields}
use Rattle.sixel_grammar.specs.Spelling.{AreNumbers, IsEvent, IsSpellable, Spells, four_of}
use Rattle.sixel_grammar.specs.Document.{Piece, IsPiece, bytes_of}
use Rattle.sixel_grammar.specs.Prefixes.{completed_at, complete_from, CompleteIn}
use Rattle.sixel_grammar.specs.FixedText.{CanWrite, CanWriteAll}

fields_numbers : (ns text : List ℕ) → Fields ns text → AreNumbers ns
fields_numbers [] text f = absurd f
fields_numbers (n ∷ []) text f = (f.small, tt)
fields_numbers (n ∷ m ∷ ns) text f = (f.3.small, fields_numbers (m ∷ ns) f.1 f.4)

fields_some : (ns text : List ℕ) → Fields ns text → 0 < length ns
fields_some [] text f = absurd f
fields_some (n ∷ ns) text f = omega arith

four_numbers : (ns : List ℕ) → AreNumbers ns → length ns ≤ 4 → AreNumbers (four_of ns)
four_numbers [] h le = (omega arith, (omega arith, (omega arith, (omega arith, tt))))
four_numbers (a ∷ []) h le = (h.0, (omega arith, (omega arith, (omega arith, tt))))
four_numbers (a ∷ b ∷ []) h le = (h.0, (h.1.0, (omega arith, (omega arith, tt))))
four_numbers (a ∷ b ∷ c ∷ []) h le = (h.0, (h.1.0, (h.1.1.0, (omega arith, tt))))
four_numbers (a ∷ b ∷ c ∷ d ∷ []) h le = (h.0, (h.1.0, (h.1.1.0, (h.1.1.1.0, tt))))
four_numbers (a ∷ b ∷ c ∷ d ∷ e ∷ ns) h le = absurd (omega arith)

abbrev can : (e : Event) → IsEvent e → IsSpellable e → CanWrite e
can e is spellable = record { is_event = is; spellable = spellable }

pub spelled_can : (e : Event) (text : List ℕ) → Spells e text → CanWrite e
spelled_can (Start eight parameters) text h =
    can (Start eight parameters) (h.3, fields_numbers parameters.items h.0 h.2) (fields_some parameters.items h.0 h.2)
spelled_can (Step (Sixel bits)) text h = can (Step (Sixel bits)) (let le : bits ≤ 63 = h.0 in omega arith) h.0
spelled_can (Step (Repeat count bits)) text h =
    can (Step (Repeat count bits)) (h.1.small, let le : bits ≤ 63 = h.2 in omega arith) h.2
spelled_can (Step (Raster pan pad width height)) text h =
    can (Step (Raster pan pad width height))
    (subst AreNumbers h.4 (four_numbers h.0 (fields_numbers h.0 h.1 h.2) h.3)) tt
spelled_can (Step (Select register)) text h = can (Step (Select register)) (h.1.small) tt
spelled_can (Step (Define register system x y z)) text h =
    can (Step (Define register system x y z)) (fields_numbers (register ∷ system ∷ x ∷ y ∷ z ∷ []) h.0 h.1) tt
spelled_can (Step CarriageReturn) text h = can (Step CarriageReturn) tt tt
spelled_can (Step NextLine) text h = can (Step NextLine) tt tt
spelled_can (Finish eight) text h = can (Finish eight) tt tt

first_can : (b : Bool) (p : Placed) (ps : List Placed) → CanWrite p.event → CanWriteAll ps
    → CanWriteAll (cond b (p ∷ ps) [])
first_can true p ps h k = (h, k)
first_can false p ps h k = tt

complete_can : (held n : ℕ) (ps : List Piece) → AllByRecursion IsPiece ps → CanWriteAll (complete_from held n ps)
complete_can held n [] each = tt
complete_can held n (p ∷ ps) each =
    first_can (leb (completed_at n p) held) (record { place = n + length p.filler; event = p.event })
    (complete_from held (n + length (bytes_of p)) ps) (spelled_can p.event p.text each.0.spells)
    (complete_can held (n + length (bytes_of p)) ps each.1)

-- so can all events that are complete in some bytes
pub events_can : (events : List Placed) (bytes : List ℕ) → CompleteIn events bytes → CanWriteAll events
events_can events bytes c = subst CanWriteAll (sym c.complete) (complete_can (length bytes) 0 c.pieces c.parses.each)
