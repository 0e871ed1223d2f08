-- Each pixel of a picture has a colour.
use Rattle.std.proofs.Common.{◌≡◌, ℕ, true, ◌&&◌, Option, Some, None, List, [], ◌∷◌, length, refl, ap}
use Rattle.std.specs.Prelude.{◌==◌, ◌*◌, is_some, map, nat_lt}
use Rattle.std.specs.List.{cons_option, filter_map, list_all}
use Rattle.sixel_model.specs.Colours.{palette_at}
use Rattle.sixel_model.specs.Pictures.{is_side}
use Rattle.sixel_model.specs.declared.picture.PictureReason.TheVariants.{Size, Count, Register, NoColour}
use Rattle.sixel_ppm.proofs.PpmLemmas.{last_test}
use Rattle.sixel_ppm_laws.specs.Laws.{PixelsHaveColours}

all_given_step : {X : Type 0} (f : ℕ → Option X) (x : ℕ) (xs : List ℕ) (o : Option X)
    → (is_some o && list_all (λ y. is_some (f y)) xs) ≡ true
    → (list_all (λ y. is_some (f y)) xs ≡ true → map (λ c. Some c) (filter_map f xs) ≡ map f xs)
    → map (λ c. Some c) (cons_option o (filter_map f xs)) ≡ o ∷ map f xs
all_given_step f x xs None all more = cc
all_given_step f x xs (Some c) all more = ap (λ (os : List _). Some c ∷ os) (more all)

-- if each item has a result, none is left out
all_given : {X : Type 0} (f : ℕ → Option X) (xs : List ℕ)
    → list_all (λ y. is_some (f y)) xs ≡ true → map (λ c. Some c) (filter_map f xs) ≡ map f xs
all_given f [] all = refl
all_given f (x ∷ xs) all = all_given_step f x xs (f x) all (all_given f xs)

pub pixels_have_colours : (registers : ℕ) → PixelsHaveColours registers
pixels_have_colours registers p is =
    let size = is_side p.width && is_side p.height in
    let count = length p.registers == p.width * p.height in
    let known = list_all (λ r. nat_lt r registers) p.registers in
    let coloured = list_all (λ r. is_some (palette_at p.palette r)) p.registers in
    all_given (palette_at p.palette) p.registers
    (last_test size count known coloured Size Count Register NoColour is.accepted)
