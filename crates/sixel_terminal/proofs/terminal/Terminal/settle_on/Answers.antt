use Rattle.std.proofs.Common.{◌≡◌, ◌<◌, ◌∙◌, false, length, map, sym, ap, subst, arith, get_or, List}
use Rattle.std.proofs.lemmas.List.{get_or-map, length-map}
use Rattle.sixel_model.specs.declared.colour.Parts.TheVariants.{Rgb}
use Rattle.sixel_terminal.specs.declared.pixel.Ink.{Ink}
use Rattle.sixel_terminal.specs.Canvases.{black}
use Rattle.sixel_terminal.specs.Displays.{Display, IsGroundBelow}
use Rattle.sixel_terminal.specs.Screens.{colour_in_ink}
use Rattle.sixel_terminal.specs.Standing.{IsInkBelow, shown_over}
use Rattle.sixel_terminal.specs.Steps.{ink_over}
use Rattle.sixel_terminal.proofs.DrawnLemmas.{all_fixed, bound_shown, seen_by, seen_by_controls, stands_below}
use Rattle.sixel_terminal.proofs.DrawnLemmas.{unseen_by, unseen_shown}
use Rattle.sixel_terminal.proofs.FixLemmas.{below_over, over_first}
use Rattle.sixel_terminal.proofs.RunLemmas.{Runs, runs_seen}
use Rattle.sixel_terminal.proofs.terminal.Terminal.settle_on.Goals as goal
use Rattle.sixel_terminal.proofs.terminal.Terminal.settle_on.Goals.{
  else-has_eight_bit-via-then-has_eight_bit+else-not-self,
}
use Rattle.sixel_terminal.proofs.terminal.Terminal.settle_on.Goals.{else-has_eight_bit-via-else-has_eight_bit}

pub lay-requires : goal.lay-requires
lay-requires c =
    sym (length-map c.args.inks.now (ink_over c.args.under)) ∙ c.requires.stands.2.pixels

pub returns-then-not-self-clause-fixed : goal.returns-then-not-self-clause-fixed
returns-then-not-self-clause-fixed c =
    rw c.lay.ensures (all_fixed (λ c. c) c.args.self.now.screen (Rgb 0 0 0))

pub returns-then-not-self-clause-shown : goal.returns-then-not-self-clause-shown
returns-then-not-self-clause-shown c = λ pen events s is.
    let known : Runs c.args.self.now = runs_seen _ _ _ _ c.self.view_is c.self.invariant in
    let none : c.args.self.now.choices.eight_bit ≡ false =
    sym (ap (λ (t : Display). t.choices.eight_bit) c.self.view_is) ∙ c.if-not-self.true in
    rw c.lay.ensures
    (unseen_shown c.args.self.now events known
    (unseen_by c.args.self.now events c.args.has_eight_bit is c.if-has_eight_bit.true none))

pub fix-requires-clause-below : goal.fix-requires-clause-below
fix-requires-clause-below c = λ i lt.
    let under = c.args.under in
    let inks = c.args.inks.now in
    let known : Runs c.args.self.now = runs_seen _ _ _ _ c.self.view_is c.self.invariant in
    let stands = c.requires.stands in
    let within : i < length (map (ink_over under) inks) = omega (arith, lt, length-map inks (ink_over under)) in
    below_over (length c.args.colours.now) under (get_or inks i black)
    (subst (λ (x : Ink). IsInkBelow (length c.args.colours.now) x) (get_or-map (ink_over under) inks i black black lt)
    (stands_below c.args.self.now stands.1 stands.0 c.args.colours.now (map (ink_over under) inks) i known stands.2
    within))

pub fix-requires-clause-under : goal.fix-requires-clause-under
fix-requires-clause-under c =
    subst (λ n. IsGroundBelow n c.args.under) (sym c.requires.stands.2.registers) c.requires.under

pub returns-else-has_eight_bit-clause-fixed : goal.returns-else-has_eight_bit-clause-fixed
returns-else-has_eight_bit-clause-fixed c =
    rw c.fix.ensures (all_fixed (shown_over c.args.colours.now c.args.under) c.args.inks.now black)

pub returns-else-has_eight_bit-clause-shown : goal.returns-else-has_eight_bit-clause-shown
returns-else-has_eight_bit-clause-shown c = λ pen events s is.
    let under = c.args.under in
    let known : Runs c.args.self.now = runs_seen _ _ _ _ c.self.view_is c.self.invariant in
    ap (λ (inks : List Ink). map colour_in_ink inks)
    (c.fix.ensures ∙ over_first c.args.colours.now under c.args.inks.now)
    ∙ elim c.else-has_eight_bit.branch [
      | else-has_eight_bit-via-then-has_eight_bit+else-not-self w ↦
          bound_shown c.args.self.now events pen c.args.colours.now (map (ink_over under) c.args.inks.now) known
          (seen_by_controls c.args.self.now events
          (sym (ap (λ (t : Display). t.choices.eight_bit) c.self.view_is) ∙ w.if-not-self.false)) s
      | else-has_eight_bit-via-else-has_eight_bit w ↦
          bound_shown c.args.self.now events pen c.args.colours.now (map (ink_over under) c.args.inks.now) known
          (seen_by c.args.self.now events c.args.has_eight_bit is w.if-has_eight_bit.false) s
    ]
