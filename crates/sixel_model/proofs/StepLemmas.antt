-- How one more event changes what holds before the next.
use Rattle.std.proofs.Common.{◌≡◌, ℕ, ◌+◌, Bool, true, false, ◌&&◌, ◌||◌, cond, Option, Some, None, List, [], ◌∷◌, ◌++◌}
use Rattle.std.proofs.Common.{refl, ap, ◌∙◌, arith}
use Rattle.std.specs.Prelude.{◌==◌, sum_by, count_by, if◌then◌else◌}
use Rattle.std.specs.Option.{option_flatten, option_or}
use Rattle.std.proofs.lemmas.List.Sums.{sum_by-append}
use Rattle.sixel_grammar.specs.declared.command.Event.{Event}
use Rattle.sixel_model.specs.Positions.{last_at, since}
use Rattle.sixel_model.specs.Events.{columns_of, definition_where, is_next_line, is_painting, is_return, raster_of}
use Rattle.sixel_model.specs.Geometry.{band, column, falls}
use Rattle.sixel_model.specs.Rules.{definition_of, is_covered, is_painted_in, is_that, known, raster_before}
use Rattle.sixel_model.specs.Rules.{register_at}
use Rattle.sixel_model.proofs.PositionLemmas.{any_at_push, earliest_push, last_at_push, latest_push, since_push}

pub band_push : (before : List Event) (e : Event) → band (before ++ e ∷ []) ≡ band before + cond (is_next_line e) 1 0
unfolding band
band_push before e =
    sum_by-append (λ x. cond (is_next_line x) 1 0) before (e ∷ [])
    ∙ ap (λ n. count_by is_next_line before + n) (omega arith)

sum_cond : (z : ℕ) (b : Bool) (xs : List Event) (e : Event)
    → sum_by (columns_of z) (cond b [] (xs ++ e ∷ [])) ≡ cond b 0 (sum_by (columns_of z) xs + columns_of z e)
sum_cond z true xs e = refl
sum_cond z false xs e =
    sum_by-append (columns_of z) xs (e ∷ []) ∙ ap (λ n. sum_by (columns_of z) xs + n) (omega arith)

pub column_push : (z : ℕ) (before : List Event) (e : Event)
    → column z (before ++ e ∷ []) ≡ cond (is_return e) 0 (column z before + columns_of z e)
unfolding column
column_push z before e =
    ap (sum_by (columns_of z)) (since_push is_return before e) ∙ sum_cond z (is_return e) (since is_return before) e

pub raster_push : (before : List Event) (e : Event)
    → raster_before (before ++ e ∷ []) ≡ option_or (raster_before before) (raster_of e)
unfolding raster_before
raster_push before e = earliest_push raster_of before e

pub definition_push : (before : List Event) (e : Event) (r : ℕ)
    → definition_of (before ++ e ∷ []) r ≡ option_or (definition_where (λ q. q == r) e) (definition_of before r)
unfolding definition_of
definition_push before e r = latest_push (definition_where (λ q. q == r)) before e

pub painted_in_push : (before : List Event) (e : Event) (r : ℕ)
    → is_painted_in (before ++ e ∷ []) r ≡ ((is_painting e && is_that r (known before)) || is_painted_in before r)
unfolding is_painted_in
painted_in_push before e r = any_at_push (λ earlier d. is_painting d && is_that r (known earlier)) before e

flat_or : (b : Bool) (o : Option ℕ) (p : Option (Option ℕ))
    → option_flatten (option_or (if b then Some o else None) p) ≡ (if b then o else option_flatten p)
flat_or true o p = refl
flat_or false o p = refl

pub register_push : (before : List Event) (e : Event) (x y : ℕ)
    → register_at (before ++ e ∷ []) x y ≡ (if falls before e x y then known before else register_at before x y)
unfolding register_at
register_push before e x y =
    ap option_flatten (last_at_push (λ earlier d. if falls earlier d x y then Some (known earlier) else None) before e)
    ∙ flat_or (falls before e x y) (known before)
    (last_at (λ earlier d. if falls earlier d x y then Some (known earlier) else None) before)

pub covered_push : (before : List Event) (e : Event) (x y : ℕ)
    → is_covered (before ++ e ∷ []) x y ≡ (falls before e x y || is_covered before x y)
unfolding is_covered
covered_push before e x y = any_at_push (λ earlier d. falls earlier d x y) before e
