use Rattle.std.proofs.Common.{◌≡◌, false, sym, ap, ◌∙◌}
use Rattle.sixel_terminal.specs.Displays.{Display}
use Rattle.sixel_terminal.specs.Canvases.{black}
use Rattle.sixel_terminal.specs.Standing.{shown_in}
use Rattle.sixel_model.specs.declared.colour.Parts.TheVariants.{Rgb}
use Rattle.sixel_terminal.proofs.DrawnLemmas.{all_fixed, bound_shown, painted_fixed, painted_shown, seen_by}
use Rattle.sixel_terminal.proofs.DrawnLemmas.{seen_by_controls, stands_below, unseen_by, unseen_shown}
use Rattle.sixel_terminal.proofs.RunLemmas.{Runs, runs_seen}
use Rattle.sixel_terminal.proofs.terminal.Terminal.settle.Goals as goal
use Rattle.sixel_terminal.proofs.terminal.Terminal.settle.Goals.{
  else-has_eight_bit-via-then-has_eight_bit+else-not-self,
}
use Rattle.sixel_terminal.proofs.terminal.Terminal.settle.Goals.{else-has_eight_bit-via-else-has_eight_bit}

pub returns-then-not-self-clause-fixed : goal.returns-then-not-self-clause-fixed
returns-then-not-self-clause-fixed c =
    rw c.lay.ensures (all_fixed (λ c. c) c.args.self.now.screen (Rgb 0 0 0))

pub returns-then-not-self-clause-shown : goal.returns-then-not-self-clause-shown
returns-then-not-self-clause-shown c = λ pen events s is.
    let known : Runs c.args.self.now = runs_seen _ _ _ _ c.self.view_is c.self.invariant in
    let none : c.args.self.now.choices.eight_bit ≡ false =
    sym (ap (λ (t : Display). t.choices.eight_bit) c.self.view_is) ∙ c.if-not-self.true in
    rw c.lay.ensures
    (unseen_shown c.args.self.now events known
    (unseen_by c.args.self.now events c.args.has_eight_bit is c.if-has_eight_bit.true none))

pub fix-requires-clause-below : goal.fix-requires-clause-below
fix-requires-clause-below c = λ i lt.
    let known : Runs c.args.self.now = runs_seen _ _ _ _ c.self.view_is c.self.invariant in
    stands_below c.args.self.now c.requires.1 c.requires.0 c.args.colours.now c.args.inks.now i known c.requires.2 lt

pub returns-then-self-clause-fixed : goal.returns-then-self-clause-fixed
returns-then-self-clause-fixed c =
    rw c.fix.ensures (all_fixed (shown_in c.args.colours.now) c.args.inks.now black)

pub returns-then-self-clause-shown : goal.returns-then-self-clause-shown
returns-then-self-clause-shown c = λ pen events s is.
    let known : Runs c.args.self.now = runs_seen _ _ _ _ c.self.view_is c.self.invariant in
    rw c.fix.ensures
    (elim c.else-has_eight_bit.branch [
      | else-has_eight_bit-via-then-has_eight_bit+else-not-self w ↦
          bound_shown c.args.self.now events pen c.args.colours.now c.args.inks.now known
          (seen_by_controls c.args.self.now events
          (sym (ap (λ (t : Display). t.choices.eight_bit) c.self.view_is) ∙ w.if-not-self.false)) s
      | else-has_eight_bit-via-else-has_eight_bit w ↦
          bound_shown c.args.self.now events pen c.args.colours.now c.args.inks.now known
          (seen_by c.args.self.now events c.args.has_eight_bit is w.if-has_eight_bit.false) s
    ])

pub returns-else-self-clause-fixed : goal.returns-else-self-clause-fixed
returns-else-self-clause-fixed c =
    let plain : c.args.self.now.choices.binds_at_showing ≡ false =
    sym (ap (λ (t : Display). t.choices.binds_at_showing) c.self.view_is) ∙ c.if-self.false in
    painted_fixed c.args.self.now c.requires.1 c.requires.0 c.args.colours.now c.args.inks.now plain c.requires.2

pub returns-else-self-clause-shown : goal.returns-else-self-clause-shown
returns-else-self-clause-shown c = λ pen events s is.
    let known : Runs c.args.self.now = runs_seen _ _ _ _ c.self.view_is c.self.invariant in
    let plain : c.args.self.now.choices.binds_at_showing ≡ false =
    sym (ap (λ (t : Display). t.choices.binds_at_showing) c.self.view_is) ∙ c.if-self.false in
    elim c.else-has_eight_bit.branch [
      | else-has_eight_bit-via-then-has_eight_bit+else-not-self w ↦
          painted_shown c.args.self.now events pen c.args.colours.now c.args.inks.now known
          (seen_by_controls c.args.self.now events
          (sym (ap (λ (t : Display). t.choices.eight_bit) c.self.view_is) ∙ w.if-not-self.false)) plain s
      | else-has_eight_bit-via-else-has_eight_bit w ↦
          painted_shown c.args.self.now events pen c.args.colours.now c.args.inks.now known
          (seen_by c.args.self.now events c.args.has_eight_bit is w.if-has_eight_bit.false) plain s
    ]
