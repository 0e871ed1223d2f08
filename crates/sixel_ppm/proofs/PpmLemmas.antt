-- The colours of a picture, and the text of its file.
use Rattle.std.proofs.Common.{◌≡◌, ℕ, Bool, true, false, ◌&&◌, Option, Some, None, List, [], ◌∷◌, refl, ap}
use Rattle.std.specs.Prelude.{not, if◌then◌else◌}
use Rattle.std.specs.Option.{option_map_or}
use Rattle.std.specs.List.{cons_option, filter_map, flat_map, list_all}
use Rattle.sixel_model.specs.Colours.{palette_at}
use Rattle.sixel_model.specs.Pictures.{PictureValue}
use Rattle.sixel_ppm.specs.Ppm.{is_rgb, are_rgb, samples_of, colours_of}
use Rattle.sixel_model.specs.declared.colour.Parts.{Parts}
use Rattle.sixel_model.specs.declared.picture.PictureReason.{PictureReason}

-- ---- which colours are RGB

list_all_step : (o : Option Parts) (cs : List Parts) (b : Bool) → list_all is_rgb cs ≡ b
    → list_all is_rgb (cons_option o cs) ≡ (option_map_or is_rgb o true && b)
list_all_step None cs b e = e
list_all_step (Some c) cs b e = ap (λ (t : Bool). is_rgb c && t) e

list_all_of : (f : ℕ → Option Parts) (xs : List ℕ)
    → list_all is_rgb (filter_map f xs) ≡ list_all (λ x. option_map_or is_rgb (f x) true) xs
list_all_of f [] = refl
list_all_of f (x ∷ xs) =
    list_all_step (f x) (filter_map f xs) (list_all (λ y. option_map_or is_rgb (f y) true) xs) (list_all_of f xs)

pub are_rgb_of : (p : PictureValue)
    → are_rgb (colours_of p) ≡ list_all (λ r. option_map_or is_rgb (palette_at p.palette r) true) p.registers
are_rgb_of p = list_all_of (palette_at p.palette) p.registers

-- ---- four tests

-- if none of four tests failed, the last one passed
pub last_test : (t u v w : Bool) (a b c d : PictureReason)
    → (if not t then Some a else if not u then Some b else if not v then Some c else if not w then Some d else None)
    ≡ None → w ≡ true
last_test true true true true a b c d e = refl
last_test true true true false a b c d e = cc
last_test true true false w a b c d e = cc
last_test true false v w a b c d e = cc
last_test false u v w a b c d e = cc

-- ---- the text

-- the samples of the pixels with these registers
abbrev pub samples_by : List (Option Parts) → List ℕ → List ℕ
samples_by palette registers = flat_map samples_of (filter_map (palette_at palette) registers)
