-- The pixels of a screen.
use Rattle.std.proofs.Common.{◌≡◌, true, List, ℕ, [], ◌∷◌, ◌++◌, ◌&&◌, map, take, suc, arith, refl, sym, ap₂}
use Rattle.std.specs.List.{flat_map, list_all}
use Rattle.std.proofs.lemmas.Bool.{and_parts}
use Rattle.sixel_model.specs.declared.colour.Parts.TheVariants.{Rgb, Hls}
use Rattle.sixel_ppm.specs.Ppm.{are_rgb, is_rgb, samples_of}
use Rattle.sixel_ppm.specs.PpmTables.{samples_from}
use Rattle.sixel_terminal.specs.declared.pixel.Ink.{Ink}
use Rattle.sixel_terminal.specs.declared.pixel.Ink.TheVariants.{Fixed, Bound}
use Rattle.sixel_terminal.specs.Pixels.{bytes_of, is_rgb_ink}
use Rattle.sixel_terminal.specs.Screens.{IsAllFixed, IsFixed, colour_in_ink}

rgb_ink : (ink : Ink) → IsFixed ink → is_rgb (colour_in_ink ink) ≡ is_rgb_ink ink
rgb_ink (Fixed (Rgb red green blue)) fixed = refl
rgb_ink (Fixed (Hls hue lightness saturation)) fixed = refl
rgb_ink (Bound register) fixed = absurd fixed

pub rgb_inks : (inks : List Ink) → IsAllFixed inks → list_all is_rgb_ink inks ≡ are_rgb (map colour_in_ink inks)
rgb_inks [] fixed = refl
rgb_inks (ink ∷ inks) fixed =
    ap₂ (λ a b. a && b) (sym (rgb_ink ink (fixed 0 ink (omega arith))))
    (rgb_inks inks (λ k d lt. fixed (suc k) d (omega (arith, lt))))

ink_samples : (ink : Ink) → is_rgb_ink ink ≡ true → take 3 (bytes_of ink) ≡ samples_of (colour_in_ink ink)
ink_samples (Fixed (Rgb red green blue)) rgb = refl
ink_samples (Fixed (Hls hue lightness saturation)) rgb = cc
ink_samples (Bound register) rgb = cc

-- the samples of RGB pixels are those of their colours
pub inks_samples : (inks : List Ink) → list_all is_rgb_ink inks ≡ true
    → samples_from bytes_of inks ≡ flat_map samples_of (map colour_in_ink inks)
inks_samples [] rgb = refl
inks_samples (ink ∷ inks) rgb =
    let both = and_parts (is_rgb_ink ink) (list_all is_rgb_ink inks) rgb in
    ap₂ (λ (a b : List ℕ). a ++ b) (ink_samples ink both.0) (inks_samples inks both.1)
