use Rattle.std.proofs.Common.{◌≡◌, ◌∙◌, ◌+◌, ◌-◌, ◌^◌, ℕ, length, min, ap, arith, refl}
use Rattle.sixel_emulator.specs.Places.{most}
use Rattle.sixel_emulator.proofs.PlainLemmas.{place_over}
use Rattle.sixel_emulator.proofs.place.Place.after_sixels.Goals as goal

pub returns : goal.returns
returns c = λ zero_columns before bytes long s.
    let capped : min (min (c.args.self.column + c.args.count) (2 ^ 64 - 1)) most
    ≡ min (c.args.self.column + length bytes) most = omega (arith, long) in
    place_over zero_columns c.args.self _ bytes s
    (c.min.ensures ∙ (ap (λ (n : ℕ). min n most) c.saturating_add-column.ensures ∙ capped)) refl
