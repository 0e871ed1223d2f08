use Rattle.std.proofs.Common.{◌∙◌, ◌∷◌, ◌≡◌, ◌||◌, [], Bool, List, ap, map, refl, sym, true}
use Rattle.std.specs.List.{list_any}
use Rattle.std.specs.String.{string_bytes}
use Rattle.std.proofs.lemmas.List.Folds.{list_any_at}
use Rattle.sixel_program.specs.Files.{is_dash}
use Rattle.sixel_program.proofs.dashes.names_input.Goals as goal

-- a test of a list that was mapped
any_of_mapped : {X Y : Type 0} (test : Y → Bool) (f : X → Y) (xs : List X)
    → list_any (λ x. test (f x)) xs ≡ list_any test (map f xs)
any_of_mapped test f [] = refl
any_of_mapped test f (x ∷ xs) = ap (λ b. test (f x) || b) (any_of_mapped test f xs)

pub returns-then-eq : goal.returns-then-eq
returns-then-eq c =
    let dash : is_dash (string_bytes c.name-item.result) ≡ true =
    ap is_dash (sym c.as_str.ensures.value) ∙ sym c.eq.ensures ∙ c.if-eq.true in
    sym (sym (any_of_mapped is_dash string_bytes c.args.names.now)
    ∙ list_any_at (λ s. is_dash (string_bytes s)) c.args.names.now c.loop-name.name-index c.name-item.result
    c.loop-name-test.true (ap (λ s. is_dash (string_bytes s)) (sym c.name-item.is) ∙ dash))
