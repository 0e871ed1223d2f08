-- One more event on foot.
use Rattle.std.proofs.Common.{◌≡◌, ℕ, ◌<◌, ◌≤◌, ◌==◌, Bool, true, false, max, Option, Some, None, List, []}
use Rattle.std.proofs.Common.{◌∷◌, ◌++◌, refl, subst, append-nil, arith}
use Rattle.std.specs.Prelude.{slice_index_or, if◌then◌else◌}
use Rattle.std.proofs.lemmas.Bool.{leb-false}
use Rattle.sixel_grammar.specs.declared.command.Command.{Command}
use Rattle.sixel_grammar.specs.declared.command.Command.TheVariants.{Sixel, Repeat, Raster, Select, Define}
use Rattle.sixel_grammar.specs.declared.command.Command.TheVariants.{CarriageReturn, NextLine}
use Rattle.sixel_grammar.specs.declared.command.Event.{Event}
use Rattle.sixel_grammar.specs.declared.command.Event.TheVariants.{Start, Step, Finish}
use Rattle.sixel_model.specs.declared.colour.Parts.{Parts}
use Rattle.sixel_model.specs.declared.colour.Parts.TheVariants.{Rgb, Hls}
use Rattle.sixel_model.specs.declared.rule.Rule.TheVariants.{Uncovered}
use Rattle.sixel_model.specs.Events.{is_data_command, select_of}
use Rattle.sixel_model.specs.Rules.{BreaksNone, breaks_register, raster_before}
use Rattle.sixel_model.proofs.RuleLemmas.{Keeps}
use Rattle.sixel_terminal.specs.Drawing.{defined_on}
use Rattle.sixel_emulator.specs.declared.reading.Reads.TheVariants.{Nothing, Draws}
use Rattle.sixel_foot.specs.Foot.{foot, foot_colour, foot_register, foot_rows, foot_select}
use Rattle.sixel_emulator.specs.Readings.{drawn_by}
use Rattle.sixel_foot.specs.Settings.{foot_display}
use Rattle.sixel_emulator.specs.Words.{defining, kept}
use Rattle.sixel_emulator_rules.specs.Stale.{IsStale}
use Rattle.sixel_emulator_rules_laws.proofs.DrawingLemmas.{raster_drawn}
use Rattle.sixel_emulator_rules_laws.proofs.FallLemmas.{IsCell, IsSameCell, kept_is_same, repeat_cell, sixel_cell}
use Rattle.sixel_emulator_rules_laws.proofs.FollowLemmas.{HasPen, IsQuiet, Moves, moves_both, moves_data, moves_drawn}
use Rattle.sixel_emulator_rules_laws.proofs.FollowLemmas.{moves_event}
use Rattle.sixel_emulator_rules_laws.proofs.FollowLemmas.{moves_return, pen_drawn, pen_event, pen_select, pens_agree}
use Rattle.sixel_emulator_rules_laws.proofs.KeptLemmas.{count_some}
use Rattle.sixel_emulator_rules_laws.proofs.SizeLemmas.{IsSized, row_left}

-- the event, and what holds of the events before it
pub record IsNext (background : Parts) (w h n : ℕ) (before drawing : List Event) (e : Event) : Type 0 where
  pub few : n ≤ 1024
  pub unbroken : BreaksNone n Uncovered before
  pub keeps : Keeps n before e
  pub sized : IsSized before (raster_before before)
  pub fresh : ¬ IsStale before e
  pub moves : Moves background w h before drawing
  pub has : HasPen background w h before drawing

-- ---- data

sixel_same : {background : Parts} {w h n bits : ℕ} {before drawing : List Event}
    → IsNext background w h n before drawing (Step (Sixel bits))
    → IsSameCell drawing before (Step (Sixel bits)) (kept 1 (foot_rows before) (Sixel bits) 1 bits)
sixel_same {n = n} {bits} {before} {drawing} i =
    kept_is_same drawing before 1 (foot_rows before) bits (Sixel bits) (Sixel bits) (i.moves).line (i.moves).left
    (sixel_cell bits) (sixel_cell bits)
    (λ x y fell. row_left n before (Step (Sixel bits)) x y i.keeps i.sized refl fell)

repeat_same : {background : Parts} {w h n count bits : ℕ} {before drawing : List Event}
    → IsNext background w h n before drawing (Step (Repeat count bits))
    → IsSameCell drawing before (Step (Repeat count bits))
    (kept (max 1 count) (foot_rows before) (Repeat (max 1 count) bits) (max 1 count) bits)
repeat_same {n = n} {count} {bits} {before} {drawing} i =
    let some : 0 < count = count_some n count bits before i.keeps in
    let same : count ≡ max 1 count = omega (arith, some) in
    let most : 0 < max 1 count = omega arith in
    let own : IsCell (max 1 count) bits (Repeat count bits) =
    subst (λ (m : ℕ). IsCell m bits (Repeat count bits)) same (repeat_cell count bits some) in
    kept_is_same drawing before (max 1 count) (foot_rows before) bits (Repeat count bits) (Repeat (max 1 count) bits)
    (i.moves).line (i.moves).left own (repeat_cell (max 1 count) bits most)
    (λ x y fell. row_left n before (Step (Repeat count bits)) x y i.keeps i.sized refl fell)

data_moves : {background : Parts} {w h n : ℕ} {before drawing : List Event} {e : Event} (d : Command)
    → is_data_command e ≡ true → IsSameCell drawing before e d → IsNext background w h n before drawing e
    → Moves background w h (before ++ e ∷ []) (drawing ++ Step d ∷ [])
data_moves {background} {w} {h} {n} {before} {drawing} {e} d is_data cell i =
    moves_data e d is_data cell
    (λ x y fell. pens_agree background w h n before drawing e x y i.few i.unbroken i.keeps i.fresh i.has fell) i.moves

data_selects : (e : Event) → is_data_command e ≡ true → select_of e ≡ None
data_selects (Step (Select q)) h = cc
data_selects _ h = refl

data_defines : (background : Parts) (w h : ℕ) (e : Event) → is_data_command e ≡ true
    → defined_on (foot_display background w h) 0 e ≡ None
data_defines background w h (Step (Define r s x y z)) is = cc
data_defines background w h _ is = refl

data_pen : {background : Parts} {w h n : ℕ} {before drawing : List Event} {e : Event} (d : Command)
    → is_data_command e ≡ true → IsSameCell drawing before e d → IsNext background w h n before drawing e
    → HasPen background w h (before ++ e ∷ []) (drawing ++ Step d ∷ [])
data_pen {background} {w} {h} {n} {before} {drawing} {e} d is_data cell i =
    pen_event background w h before (drawing ++ Step d ∷ []) e (data_selects e is_data)
    (pen_drawn background w h before drawing (Step d) (data_selects (Step d) cell.is_data)
    (data_defines background w h (Step d) cell.is_data) i.has)

-- ---- the start and selects

introducer_moves : {background : Parts} {w h : ℕ} {before drawing : List Event} (b : Bool)
    → Moves background w h before drawing
    → Moves background w h before (drawing ++ drawn_by (if b then Nothing else Draws (Define 1 2 0 0 0)))
introducer_moves true m = rw append-nil m
introducer_moves false m = moves_drawn (Step (Define 1 2 0 0 0)) (record { no_data = refl; no_return = refl }) m

introducer_pen : (background : Parts) (w h : ℕ) (before drawing : List Event) (b : Bool)
    → HasPen background w h before drawing
    → HasPen background w h before (drawing ++ drawn_by (if b then Nothing else Draws (Define 1 2 0 0 0)))
introducer_pen background w h before drawing true has = rw append-nil has
introducer_pen background w h before drawing false has =
    pen_drawn background w h before drawing (Step (Define 1 2 0 0 0)) refl refl has

quiet_define : (register : ℕ) (c : Parts) → IsQuiet (Step (defining register c))
quiet_define register (Rgb r g b) = record { no_data = refl; no_return = refl }
quiet_define register (Hls r g b) = record { no_data = refl; no_return = refl }

select_moves : {background : Parts} {w h : ℕ} {before drawing : List Event} (q : ℕ) (o : Option Parts)
    → foot_colour before (foot_register q) ≡ o → Moves background w h before drawing
    → Moves background w h before (drawing ++ drawn_by (foot_select before q))
select_moves q None is m = rw is (moves_drawn (Step (Select 1)) (record { no_data = refl; no_return = refl }) m)
select_moves q (Some c) is m =
    rw is
    (moves_both (Step (defining 0 c)) (Step (Select 0)) (quiet_define 0 c) (record { no_data = refl; no_return = refl })
    m)

register_below : (n q : ℕ) (before : List Event) → Keeps n before (Step (Select q)) → q < n
unfolding breaks_register
register_below n q before k = leb-false n q k.register

-- ---- one more event

pub moves_push : {background : Parts} {w h n : ℕ} {before drawing : List Event} (e : Event)
    → IsNext background w h n before drawing e
    → Moves background w h (before ++ e ∷ []) (drawing ++ drawn_by (foot before e None))
moves_push {background} {w} {h} {n} {before} {drawing} (Start eight parameters) i =
    moves_event (Start eight parameters) (record { no_data = refl; no_return = refl })
    (introducer_moves (slice_index_or parameters.items 1 0 == 1) i.moves)
moves_push {background} {w} {h} {n} {before} {drawing} (Step (Raster pan pad width height)) i =
    rw (raster_drawn before pan pad width height None, append-nil)
    (moves_event (Step (Raster pan pad width height)) (record { no_data = refl; no_return = refl }) i.moves)
moves_push {background} {w} {h} {n} {before} {drawing} (Step (Define r s x y z)) i =
    rw append-nil (moves_event (Step (Define r s x y z)) (record { no_data = refl; no_return = refl }) i.moves)
moves_push {background} {w} {h} {n} {before} {drawing} (Step (Select q)) i =
    moves_event (Step (Select q)) (record { no_data = refl; no_return = refl }) (select_moves q _ refl i.moves)
moves_push (Step (Sixel bits)) i = data_moves _ refl (sixel_same i) i
moves_push (Step (Repeat count bits)) i = data_moves _ refl (repeat_same i) i
moves_push (Step CarriageReturn) i = moves_return (Step CarriageReturn) refl refl i.moves
moves_push (Step NextLine) i = moves_return (Step NextLine) refl refl i.moves
moves_push (Finish eight) i =
    rw append-nil (moves_event (Finish eight) (record { no_data = refl; no_return = refl }) i.moves)

pub pen_push : {background : Parts} {w h n : ℕ} {before drawing : List Event} (e : Event)
    → IsNext background w h n before drawing e
    → HasPen background w h (before ++ e ∷ []) (drawing ++ drawn_by (foot before e None))
pen_push {background} {w} {h} {n} {before} {drawing} (Start eight parameters) i =
    pen_event background w h before _ (Start eight parameters) refl
    (introducer_pen background w h before drawing (slice_index_or parameters.items 1 0 == 1) i.has)
pen_push {background} {w} {h} {n} {before} {drawing} (Step (Raster pan pad width height)) i =
    rw (raster_drawn before pan pad width height None, append-nil)
    (pen_event background w h before drawing (Step (Raster pan pad width height)) refl i.has)
pen_push {background} {w} {h} {n} {before} {drawing} (Step (Define r s x y z)) i =
    rw append-nil (pen_event background w h before drawing (Step (Define r s x y z)) refl i.has)
pen_push {background} {w} {h} {n} {before} {drawing} (Step (Select q)) i =
    pen_select background w h n q before drawing i.few (register_below n q before i.keeps) i.unbroken
pen_push (Step (Sixel bits)) i = data_pen _ refl (sixel_same i) i
pen_push (Step (Repeat count bits)) i = data_pen _ refl (repeat_same i) i
pen_push {background} {w} {h} {n} {before} {drawing} (Step CarriageReturn) i =
    pen_event background w h before _ (Step CarriageReturn) refl
    (pen_drawn background w h before drawing (Step CarriageReturn) refl refl i.has)
pen_push {background} {w} {h} {n} {before} {drawing} (Step NextLine) i =
    pen_event background w h before _ (Step NextLine) refl
    (pen_drawn background w h before drawing (Step NextLine) refl refl i.has)
pen_push {background} {w} {h} {n} {before} {drawing} (Finish eight) i =
    rw append-nil (pen_event background w h before drawing (Finish eight) refl i.has)
