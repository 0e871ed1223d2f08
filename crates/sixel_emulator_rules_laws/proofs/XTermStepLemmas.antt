-- One more event on xterm.
use Rattle.std.proofs.Common.{◌≡◌, ℕ, ◌==◌, Bool, true, false, not, Option, Some, List, []}
use Rattle.std.proofs.Common.{◌∷◌, ◌++◌, refl, sym, subst, append_assoc, append-nil}
use Rattle.std.specs.List.{list_any}
use Rattle.std.proofs.lemmas.Bool.{and_parts, not-true}
use Rattle.sixel_grammar.specs.declared.command.Command.{Command}
use Rattle.sixel_grammar.specs.declared.command.Command.TheVariants.{Sixel, Repeat, Raster, Select, Define}
use Rattle.sixel_grammar.specs.declared.command.Command.TheVariants.{CarriageReturn, NextLine}
use Rattle.sixel_grammar.specs.declared.command.Event.{Event}
use Rattle.sixel_grammar.specs.declared.command.Event.TheVariants.{Start, Step, Finish}
use Rattle.sixel_model.specs.declared.colour.Parts.{Parts}
use Rattle.sixel_model.specs.Events.{Attributes, is_data_command, is_in_box}
use Rattle.sixel_model.specs.Geometry.{falls}
use Rattle.sixel_model.specs.Rules.{raster_before}
use Rattle.sixel_model.proofs.RuleLemmas.{Keeps}
use Rattle.sixel_emulator.specs.Words.{second_parameter}
use Rattle.sixel_xterm.specs.XTerm.{fills_xterm, xterm_box}
use Rattle.sixel_judge.proofs.CoverLemmas.{box_at_data}
use Rattle.sixel_judge.proofs.OptionLemmas.{some_value}
use Rattle.sixel_emulator_rules_laws.proofs.SizeLemmas.{inside}
use Rattle.sixel_emulator_rules_laws.proofs.XTermFollowLemmas.{IsAlong, IsInside, along_box, along_data, along_quiet}
use Rattle.sixel_emulator_rules_laws.proofs.XTermFollowLemmas.{along_self}
use Rattle.sixel_emulator_rules_laws.proofs.XTermReadLemmas.{data_draws, xterm_draws}
use Rattle.sixel_emulator_rules_laws.proofs.XTermSidesLemmas.{IsSided, IsSidedBy}

-- ---- data

-- the box before a data command, and where the command falls
record IsPlacedIn (a : Attributes) (before : List Event) (e : Event) : Type 0 where
  pub box : raster_before before ≡ Some a
  pub sides : IsSidedBy a before
  pub falls_in : (x y : ℕ) → falls before e x y ≡ true → is_in_box a x y ≡ true

placed_in : (n : ℕ) (before : List Event) (e : Event) → Keeps n before e → is_data_command e ≡ true
    → IsSided before (raster_before before) → (a : Attributes) × IsPlacedIn a before e
placed_in n before e k is_data s =
    let a : (a : Attributes) × (raster_before before ≡ Some a) = some_value _ (box_at_data n before e k is_data) in (
      a.0,
      record {
        box = a.1;
        sides = subst (IsSided before) a.1 s;
        falls_in = λ x y fell. inside before e a.0 x y k.outside a.1 fell;
      },
    )

is_inside : (o : Option Attributes) (a : Attributes) (x y : ℕ) → o ≡ Some a → is_in_box a x y ≡ true → IsInside o x y
is_inside o a x y is inside = subst (λ (p : Option Attributes). IsInside p x y) (sym is) inside

painting_push : {background : Parts} {w h : ℕ} {before drawing : List Event} (a : Attributes) (c : Command)
    → is_data_command (Step c) ≡ true → IsPlacedIn a before (Step c) → IsAlong background w h before drawing
    → IsAlong background w h (before ++ Step c ∷ []) (drawing ++ Step c ∷ [])
painting_push {before = before} a c is_data p f =
    along_data (Step c) is_data (λ x y fell. is_inside (raster_before before) a x y p.box (p.falls_in x y fell)) f

data_by : {background : Parts} {w h : ℕ} {before drawing : List Event} (a : Attributes) (c : Command) (fills : Bool)
    → fills_xterm before ≡ fills → is_data_command (Step c) ≡ true → IsPlacedIn a before (Step c)
    → IsAlong background w h before drawing
    → IsAlong background w h (before ++ Step c ∷ []) (drawing ++ data_draws before c)
data_by {background} {w} {h} {before} {drawing} a c true is is_data p f =
    let none : list_any is_data_command before ≡ false =
    not-true _ (and_parts (not (list_any is_data_command before)) (not (second_parameter before == 1)) is).0 in
    rw is
    (subst (IsAlong background w h (before ++ Step c ∷ []))
    (append_assoc drawing (Step (xterm_box before) ∷ []) (Step c ∷ []))
    (painting_push a c is_data p (along_box a p.box p.sides none f)))
data_by a c false is is_data p f = rw is (painting_push a c is_data p f)

data_push : {background : Parts} {w h n : ℕ} {before drawing : List Event} (c : Command) → Keeps n before (Step c)
    → IsSided before (raster_before before) → is_data_command (Step c) ≡ true → IsAlong background w h before drawing
    → IsAlong background w h (before ++ Step c ∷ []) (drawing ++ data_draws before c)
data_push {background} {w} {h} {n} {before} {drawing} c k s is_data f =
    let a = placed_in n before (Step c) k is_data s in
    data_by a.0 c (fills_xterm before) refl is_data a.1 f

-- ---- all events

pub along_push : {background : Parts} {w h n : ℕ} {before drawing : List Event} (e : Event) → Keeps n before e
    → IsSided before (raster_before before) → IsAlong background w h before drawing
    → IsAlong background w h (before ++ e ∷ []) (drawing ++ xterm_draws before e)
along_push {background} {w} {h} {n} {before} {drawing} (Start eight parameters) k s f =
    rw append-nil
    (along_quiet (Start eight parameters) (record { no_data = refl; no_return = refl })
    (record { selects = refl; defines = λ r. refl }) f)
along_push {background} {w} {h} {n} {before} {drawing} (Step (Raster pan pad width height)) k s f =
    rw append-nil
    (along_quiet (Step (Raster pan pad width height)) (record { no_data = refl; no_return = refl })
    (record { selects = refl; defines = λ r. refl }) f)
along_push {n = n} {before} (Step (Sixel bits)) k s f = data_push {n = n} (Sixel bits) k s refl f
along_push {n = n} {before} (Step (Repeat count bits)) k s f = data_push {n = n} (Repeat count bits) k s refl f
along_push (Step (Define r t x y z)) k s f = along_self (Step (Define r t x y z)) refl refl f
along_push (Step (Select r)) k s f = along_self (Step (Select r)) refl refl f
along_push (Step CarriageReturn) k s f = along_self (Step CarriageReturn) refl refl f
along_push (Step NextLine) k s f = along_self (Step NextLine) refl refl f
along_push {background} {w} {h} {n} {before} {drawing} (Finish eight) k s f =
    rw append-nil
    (along_quiet (Finish eight) (record { no_data = refl; no_return = refl })
    (record { selects = refl; defines = λ r. refl }) f)
