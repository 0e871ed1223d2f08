-- The place after one more event.
use Rattle.std.proofs.Common.{◌≡◌, ℕ, ◌+◌, Bool, true, false, cond, min, List, [], ◌∷◌, ◌++◌, sym, ap, ◌∙◌, arith}
use Rattle.sixel_grammar.specs.declared.command.Event.{Event}
use Rattle.sixel_model.specs.Events.{columns_of, is_next_line, is_return}
use Rattle.sixel_model.specs.Geometry.{band, column}
use Rattle.sixel_model.specs.Positions.{since}
use Rattle.sixel_model.proofs.StepLemmas.{band_push, column_push}
use Rattle.sixel_emulator.specs.declared.place.Place.{Place}
use Rattle.sixel_emulator.specs.Places.{IsPlaceAfter, most, next_band, next_column}

capped_column : (b : Bool) (c n : ℕ) → cond b 0 (min (min c most + n) most) ≡ min (cond b 0 (c + n)) most
capped_column true c n = omega arith
capped_column false c n = omega arith

capped_sum : (b n : ℕ) → min (min b most + n) most ≡ min (b + n) most
capped_sum b n = omega arith

pub place_push : (zero_columns : ℕ) (p q : Place) {before : List Event} (e : Event) → IsPlaceAfter zero_columns p before
    → q.column ≡ next_column zero_columns p e → q.band ≡ next_band p e
    → IsPlaceAfter zero_columns q (before ++ e ∷ [])
place_push zero_columns p q {before} e s c b = record {
  column_is =
      c ∙ ap (λ (n : ℕ). cond (is_return e) 0 (min (n + columns_of zero_columns e) most)) s.column_is
      ∙ capped_column (is_return e) (column zero_columns before) (columns_of zero_columns e)
      ∙ ap (λ (n : ℕ). min n most) (sym (column_push zero_columns before e));
  band_is =
      b ∙ ap (λ (n : ℕ). min (n + cond (is_next_line e) 1 0) most) s.band_is
      ∙ capped_sum (band before) (cond (is_next_line e) 1 0)
      ∙ ap (λ (n : ℕ). min n most) (sym (band_push before e));
}

pub place_none : (zero_columns : ℕ) (p : Place) → p.column ≡ 0 → p.band ≡ 0 → IsPlaceAfter zero_columns p []
unfolding column band since
place_none zero_columns p c b = record { column_is = c; band_is = b }
