use Rattle.std.proofs.Common.{◌≡◌, ◌<◌, ◌+◌, ◌++◌, ◌∙◌, ℕ, true, List, length, refl, subst, sym, take}
use Rattle.std.proofs.lemmas.Bool.{ltb-true}
use Rattle.std.proofs.lemmas.List.{length-take-le}
use Rattle.sixel_grammar.specs.Stretches.{sixels_from}
use Rattle.sixel_emulator_rules.specs.Asking.{HasAskedBy}
use Rattle.sixel_emulator_rules.specs.Counts.{IsCalmBefore, is_calm_in}
use Rattle.sixel_emulator_rules.specs.Notes.{passed}
use Rattle.sixel_emulator_rules.specs.declared.notes.Notes.{Notes}
use Rattle.sixel_emulator_rules.proofs.TakingLemmas.{calm_push, not_some}
use Rattle.sixel_emulator_rules.proofs.asking.Asking.push_stretch.Goals as goal

pub returns-then-is_calm : goal.returns-then-is_calm
returns-then-is_calm c = (
  refl,
  λ seen h.
      let a = c.args.self.now in
      let bytes : List ℕ = take c.args.count c.args.bytes.now in
      let long : length bytes ≡ c.args.count = length-take-le c.args.count c.args.bytes.now c.requires.within.1 in
      let calm : is_calm_in a.terminals a.notes (length bytes) ≡ true =
      subst (λ (k : ℕ). is_calm_in a.terminals a.notes k ≡ true) (sym long)
      (h.1 (a.notes.column + c.args.count) (ltb-true _ _ (sym c.is_calm.ensures ∙ c.if-is_calm.true))) in
      let some : 0 < length bytes = subst (λ (k : ℕ). 0 < k) (sym long) c.requires.within.0 in (
        subst (λ (n : Notes). HasAskedBy a.terminals n a.finding (seen ++ sixels_from c.args.place bytes))
            (sym c.pass.ensures)
            (subst (λ (k : ℕ). HasAskedBy a.terminals (passed a.notes k) a.finding
            (seen ++ sixels_from c.args.place bytes)) long
            (calm_push a.terminals a.notes a.finding seen c.args.place bytes
            (not_some a.finding (sym c.is_some.ensures ∙ c.if-is_some.false)) some calm h.0)),
        subst (λ (m : Notes). IsCalmBefore a.terminals m a.calm) (sym c.pass.ensures) h.1,
      ),
)
