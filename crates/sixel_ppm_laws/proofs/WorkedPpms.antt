-- Worked examples of reading picture files.
use Rattle.std.proofs.Common.{◌≡◌, ◌+◌, ◌≤◌, ◌∙◌, ℕ, zero, suc, true, false, nat_lt, List, [], ◌∷◌, ◌++◌, Result, Ok}
use Rattle.std.proofs.Common.{refl, ap, arith}
use Rattle.std.specs.Prelude.{Some, None, codes, replicate}
use Rattle.std.specs.List.{flat_map, range_with_len}
use Rattle.sixel_model.specs.Pictures.{picture_of_parts, most_side}
use Rattle.sixel_ppm.specs.PpmReading.{◌>>=◌, Head, after_filler, at_fault, begins_filler, head_of, height_on}
use Rattle.sixel_ppm.specs.PpmReading.{most_header, number, picture_of, ppm_read}
use Rattle.sixel_model.specs.declared.colour.Parts.TheVariants.{Rgb}
use Rattle.sixel_ppm.specs.declared.ppm.PpmFault.{PpmFault}
use Rattle.sixel_ppm.specs.declared.ppm.PpmReason.TheVariants.{Header, Size, Maxval, Sample, Short, Trailing}
use Rattle.sixel_ppm.specs.declared.ppm.PpmReason.TheVariants.{TooManyColours}
use Rattle.sixel_ppm.proofs.PpmSampleLemmas.{below_limit}

empty : ppm_read 16 [] ≡ at_fault Short 0
empty = refl

other_digit : ppm_read 16 (codes "P5 1 1 100") ≡ at_fault Header 1
other_digit = refl

size : ppm_read 16 (codes "P6 0 1 100\n") ≡ at_fault Size 3
size = refl

maxval : ppm_read 16 (codes "P6 1 1 256\n") ≡ at_fault Maxval 7
maxval = refl

sample_above : ppm_read 16 (codes "P6 1 1 100\n" ++ 100 ∷ 101 ∷ []) ≡ at_fault Sample 12
sample_above = refl

short_samples : ppm_read 16 (codes "P6 1 1 100\n" ++ 0 ∷ 0 ∷ []) ≡ at_fault Short 13
short_samples = refl

trailing_sample : ppm_read 16 (codes "P6 1 1 100\n" ++ 0 ∷ 0 ∷ 0 ∷ 0 ∷ []) ≡ at_fault Trailing 14
trailing_sample = refl

seventeenth_colour : ppm_read 16 (codes "P6 17 1 100\n" ++ flat_map (λ i. i ∷ 0 ∷ 0 ∷ []) (range_with_len 0 17))
    ≡ at_fault TooManyColours 60
seventeenth_colour = refl

sixteen_colours : ppm_read 16 (codes "P6 16 1 100\n" ++ flat_map (λ i. i ∷ 0 ∷ 0 ∷ []) (range_with_len 0 16))
    ≡ Ok (picture_of 16 16 1 (flat_map (λ i. Rgb i 0 0 ∷ []) (range_with_len 0 16)))
sixteen_colours = refl

scaled : ppm_read 16 (codes "P6\n# x\n1 1\n255\n" ++ 128 ∷ 255 ∷ 2 ∷ [])
    ≡ Ok (picture_of_parts 1 1 (Some (Rgb 50 100 1) ∷ replicate 15 None) (0 ∷ []))
scaled = refl

-- registers are numbered in the order in which their colours first appear, after scaling
numbered : ppm_read 4 (codes "P6 2 2 200\n" ++ 9 ∷ 9 ∷ 9 ∷ 200 ∷ 0 ∷ 0 ∷ 10 ∷ 10 ∷ 9 ∷ 200 ∷ 0 ∷ 0 ∷ [])
    ≡ Ok (picture_of_parts 2 2 (Some (Rgb 5 5 5) ∷ Some (Rgb 100 0 0) ∷ None ∷ None ∷ []) (0 ∷ 1 ∷ 0 ∷ 1 ∷ []))
numbered = refl

five_pixels : ppm_read 16 (codes "P6 5 1 100\n" ++ flat_map (λ i. 100 ∷ 0 ∷ 0 ∷ []) (range_with_len 0 5))
    ≡ Ok (picture_of 16 5 1 (Rgb 100 0 0 ∷ Rgb 100 0 0 ∷ Rgb 100 0 0 ∷ Rgb 100 0 0 ∷ Rgb 100 0 0 ∷ []))
five_pixels = refl

-- a number is judged only at the byte after it
open_number : ppm_read 16 (codes "P6 0") ≡ at_fault Short 4
open_number = refl

-- the byte after a number is judged before the number
bad_end_of_bad_number : ppm_read 16 (codes "P6 0x") ≡ at_fault Header 4
bad_end_of_bad_number = refl

-- a comment directly after the maximum is refused, even if the maximum is bad
comment_after_maxval : ppm_read 16 (codes "P6 1 1 256#\n") ≡ at_fault Header 10
comment_after_maxval = refl

comment_after_width : ppm_read 16 (codes "P6#a\n0#b\n1 1\n") ≡ at_fault Size 5
comment_after_width = refl

-- one whitespace byte ends the header: the next one is a sample
second_space : ppm_read 16 (codes "P6 1 1 100\n " ++ 0 ∷ 0 ∷ []) ≡ Ok (picture_of 16 1 1 (Rgb 32 0 0 ∷ []))
second_space = refl

no_filler : ppm_read 16 (codes "P61 1 100\n") ≡ at_fault Header 2
no_filler = refl

sample_before_colour : ppm_read 0 (codes "P6 1 1 100\n" ++ 0 ∷ 0 ∷ 101 ∷ []) ≡ at_fault Sample 13
sample_before_colour = refl

-- ---- the limit of a header

spaces_pass : (n at : ℕ) (rest : List ℕ) → at + n ≤ 65536
    → after_filler false at (replicate n 32 ++ rest) ≡ after_filler false (at + n) rest
spaces_pass zero at rest le = ap (λ (k : ℕ). after_filler false k rest) (omega arith)
spaces_pass (suc n) at rest le =
    let within : nat_lt at most_header ≡ true = below_limit at 65536 (omega arith) in
    rw within (spaces_pass n (at + 1) rest (omega arith) ∙ ap (λ (k : ℕ). after_filler false k rest) (omega arith))

-- what follows `P6` and n + 1 spaces, from offset `at` on
abbrev numbered_after : ℕ → List ℕ → Result Head PpmFault
numbered_after at rest = do
  n ← number begins_filler Size most_side (after_filler false at rest).0 (after_filler false at rest).1
  height_on n.0 n.1 n.2

after_spaces : (n : ℕ) (rest : List ℕ) → 3 + n ≤ 65536
    → head_of (80 ∷ 54 ∷ replicate (suc n) 32 ++ rest) ≡ numbered_after (3 + n) rest
after_spaces n rest le = rw (spaces_pass n 3 rest le) refl

-- 65,526 spaces: the line feed is the last byte that a header may have
longest_header : head_of (80 ∷ 54 ∷ replicate (suc 65525) 32 ++ codes "1 1 100\n" ++ 7 ∷ 8 ∷ 9 ∷ [])
    ≡ Ok (record { width = 1; height = 1; maxval = 100; place = 65536; samples = 7 ∷ 8 ∷ 9 ∷ [] })
longest_header = after_spaces 65525 (codes "1 1 100\n" ++ 7 ∷ 8 ∷ 9 ∷ []) (omega arith)

-- one more space: the header is one byte too long
header_too_long : head_of (80 ∷ 54 ∷ replicate (suc 65526) 32 ++ codes "1 1 100\n" ++ 7 ∷ 8 ∷ 9 ∷ [])
    ≡ at_fault Header 65536
header_too_long = after_spaces 65526 (codes "1 1 100\n" ++ 7 ∷ 8 ∷ 9 ∷ []) (omega arith)

-- 65,536 bytes of an incomplete header, then the end
unfinished_header : head_of (80 ∷ 54 ∷ replicate (suc 65533) 32 ++ []) ≡ at_fault Short 65536
unfinished_header = after_spaces 65533 [] (omega arith)
