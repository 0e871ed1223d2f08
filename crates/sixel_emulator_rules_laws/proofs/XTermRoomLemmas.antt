-- xterm has room for each data command, if no rule is broken, nor one that xterm asks for.
use Rattle.std.proofs.Common.{◌≡◌, ◌∙◌, ◌==◌, ◌%◌, ◌+◌, ◌*◌, ◌<◌, ◌≤◌, ◌&&◌, ℕ, Bool, true, false, cond}
use Rattle.std.proofs.Common.{List, [], ◌∷◌, ◌++◌, Some, ap, arith, min, refl, subst, sym}
use Rattle.std.specs.Prelude.{nat_lt}
use Rattle.std.proofs.lemmas.Bool.Decides.{nat_tests}
use Rattle.sixel_grammar.specs.declared.command.Command.{Command}
use Rattle.sixel_grammar.specs.declared.command.Command.TheVariants.{CarriageReturn, NextLine}
use Rattle.sixel_grammar.specs.declared.command.Event.{Event}
use Rattle.sixel_grammar.specs.declared.command.Event.TheVariants.{Step}
use Rattle.sixel_model.specs.Events.{Attributes, columns_of, is_data_command, is_painting, is_return}
use Rattle.sixel_model.specs.Geometry.{band, column}
use Rattle.sixel_model.specs.Positions.{since}
use Rattle.sixel_model.specs.Rules.{raster_before}
use Rattle.sixel_model.proofs.RuleLemmas.{Keeps}
use Rattle.sixel_model.proofs.StepLemmas.{column_push}
use Rattle.sixel_judge.proofs.CoverLemmas.{box_at_data}
use Rattle.sixel_judge.proofs.OptionLemmas.{some_value}
use Rattle.sixel_xterm.specs.declared.pen.Pen.{Pen}
use Rattle.sixel_xterm.specs.XTerm.{is_past_rows, pen_after, pen_after_data, pen_at, runs_out, xterm_painting}
use Rattle.sixel_xterm.specs.XTerm.{xterm_pen, xterm_rows, xterm_side}
use Rattle.sixel_xterm.proofs.PenLemmas.{pen_none, pen_push}
use Rattle.sixel_xterm.proofs.XTermLemmas.{with_room}
use Rattle.sixel_emulator_rules_laws.proofs.FallLemmas.{IsCell, no_columns}
use Rattle.sixel_emulator_rules_laws.proofs.KeptLemmas.{IsFit, fit}
use Rattle.sixel_emulator_rules_laws.proofs.XTermSidesLemmas.{IsSided, IsSidedBy}

-- the pen stands where the next sixel goes, and the string goes on
abbrev pub IsRoomy : List Event → Type 0
IsRoomy before = xterm_pen before ≡ pen_at (min (column 0 before) xterm_side)

pub roomy_none : IsRoomy []
unfolding column since
roomy_none = sym pen_none

-- a painting command ends in the columns, and its band in the rows
record Ends (before : List Event) (e : Event) : Type 0 where
  pub across : column 0 before + columns_of 0 e ≤ xterm_side
  pub down : is_past_rows before ≡ false

ends : (n : ℕ) (before : List Event) (e : Event) → Keeps n before e → IsSided before (raster_before before)
    → is_data_command e ≡ true → is_painting e ≡ true → Ends before e
ends n before e k s is_data paints =
    let a : (a : Attributes) × (raster_before before ≡ Some a) = some_value _ (box_at_data n before e k is_data) in
    let sides : IsSidedBy a.0 before = subst (IsSided before) a.1 s in
    let within : IsFit a.0 before e = fit n before e a.0 k a.1 paints in
    let right : column 0 before + columns_of 0 e ≤ a.0.width = within.across in
    let low : 6 * band before < a.0.height = within.down in
    let wide : a.0.width ≤ 1000 = sides.across in
    let high : a.0.height ≤ 996 = sides.down in
    let rows : 6 ≤ xterm_rows before = omega (arith, low, high) in
    record { across = omega (arith, right, wide); down = grind (arith, nat_tests) }

and_false : (b : Bool) → (b && false) ≡ false
and_false true = refl
and_false false = refl

-- it doesn't run out of room
runs_on : (n : ℕ) (before : List Event) (e : Event) → Keeps n before e → IsSided before (raster_before before)
    → is_data_command e ≡ true → runs_out (min (column 0 before) xterm_side) (is_past_rows before) e ≡ false
runs_on n before e k s is_data = by (is_painting e) refl
  where
    by : (b : Bool) → is_painting e ≡ b → runs_out (min (column 0 before) xterm_side) (is_past_rows before) e ≡ false
    by false blank = rw blank refl
    by true paints =
        let m : Ends before e = ends n before e k s is_data paints in
        let across : column 0 before + columns_of 0 e ≤ xterm_side = m.across in
        let short : nat_lt xterm_side (min (column 0 before) xterm_side + columns_of 0 e) ≡ false =
        grind (arith, nat_tests) in
        rw (m.down, short) (and_false (is_painting e))

-- ---- one more event

moved : (column count : ℕ) → min (min column 1000 + count) 1000 ≡ min (column + count) 1000
moved column count = omega arith

after_data : (column : ℕ) (is_past : Bool) (e : Event) → runs_out (min column xterm_side) is_past e ≡ false
    → pen_after_data (pen_at (min column xterm_side)) is_past e ≡ pen_at (min (column + columns_of 0 e) xterm_side)
after_data column is_past e on = rw on (ap pen_at (moved column (columns_of 0 e)))

not_return : (e : Event) → is_data_command e ≡ true → is_return e ≡ false
not_return (Step NextLine) h = cc
not_return (Step CarriageReturn) h = cc
not_return _ h = refl

after_kind : (column : ℕ) (is_past : Bool) (e : Event) (back draws : Bool) → is_return e ≡ back
    → is_data_command e ≡ draws
    → (is_data_command e ≡ true → runs_out (min column xterm_side) is_past e ≡ false)
    → pen_after (pen_at (min column xterm_side)) is_past e ≡ pen_at (min (cond back 0 (column + columns_of 0 e)) xterm_side)
after_kind column is_past e true draws back_is draws_is on = rw back_is refl
after_kind column is_past e false true back_is draws_is on =
    rw (back_is, draws_is) (after_data column is_past e (on draws_is))
after_kind column is_past e false false back_is draws_is on =
    let none : columns_of 0 e ≡ 0 = no_columns e draws_is in
    let same : column + 0 ≡ column = omega arith in
    rw (back_is, draws_is, none, same) refl

pub roomy_push : (n : ℕ) (before : List Event) (e : Event) → Keeps n before e → IsSided before (raster_before before)
    → IsRoomy before → IsRoomy (before ++ e ∷ [])
roomy_push n before e k s room =
    pen_push before e
    ∙ (ap (λ (p : Pen). pen_after p (is_past_rows before) e) room
    ∙ (after_kind (column 0 before) (is_past_rows before) e (is_return e) (is_data_command e) refl refl
    (runs_on n before e k s)
    ∙ ap (λ (m : ℕ). pen_at (min m xterm_side)) (sym (column_push 0 before e))))

-- ---- what is painted

-- a data command is painted as it is
pub painted_whole : (n : ℕ) (before : List Event) (c : Command) (count bits : ℕ) → Keeps n before (Step c)
    → IsSided before (raster_before before) → IsRoomy before → IsCell count bits c
    → xterm_painting before c count bits ≡ c
painted_whole n before c count bits k s room cell = by (bits % 64 == 0) refl
  where
    by : (b : Bool) → (bits % 64 == 0) ≡ b → xterm_painting before c count bits ≡ c
    by true blank = rw blank refl
    by false set =
        let paints : is_painting (Step c) ≡ true = rw (cell.bits_is, set) refl in
        let m : Ends before (Step c) = ends n before (Step c) k s cell.is_data paints in
        let here : (xterm_pen before).column ≡ min (column 0 before) xterm_side = ap (λ (p : Pen). p.column) room in
        let columns : columns_of 0 (Step c) ≡ count = cell.columns_is in
        let across : column 0 before + columns_of 0 (Step c) ≤ xterm_side = m.across in
        with_room before c count bits m.down (omega (arith, here, columns, across))
