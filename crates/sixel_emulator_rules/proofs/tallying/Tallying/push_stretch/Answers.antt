use Rattle.std.proofs.Common.{◌≡◌, ◌<◌, ◌∙◌, ℕ, true, List, length, refl, subst, sym, take}
use Rattle.std.proofs.lemmas.List.{length-take-le}
use Rattle.sixel_emulator_rules.specs.Counts.{is_calm_in}
use Rattle.sixel_emulator_rules.proofs.TallyLemmas.{tallying_calm}
use Rattle.sixel_emulator_rules.proofs.tallying.Tallying.push_stretch.Goals as goal

pub returns-then-is_calm : goal.returns-then-is_calm
returns-then-is_calm c = (
  refl,
  λ seen h.
      let old = c.args.self.now in
      let bytes : List ℕ = take c.args.count c.args.bytes.now in
      let long : length bytes ≡ c.args.count = length-take-le c.args.count c.args.bytes.now c.requires.within.1 in
      let calm : is_calm_in old.terminals old.notes (length bytes) ≡ true =
      subst (λ (k : ℕ). is_calm_in old.terminals old.notes k ≡ true) (sym long)
      (sym c.is_calm.ensures ∙ c.if-is_calm.true) in
      let some : 0 < length bytes = subst (λ (k : ℕ). 0 < k) (sym long) c.requires.within.0 in
      tallying_calm old _ seen c.args.place bytes (rw (c.pass.ensures, long) refl) some calm h,
)
