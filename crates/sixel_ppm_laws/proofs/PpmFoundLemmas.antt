-- Bytes that are read as a picture are a picture file.
use Rattle.std.proofs.Common.{◌≡◌, ◌==◌, ◌+◌, ◌*◌, ◌≤◌, ℕ, zero, suc, true, false, nat_le, Result, Ok, List, [], ◌∷◌}
use Rattle.std.proofs.Common.{◌++◌, length, refl, sym, ap, subst, ◌∙◌, append_assoc, arith, length-append}
use Rattle.std.specs.Prelude.{IfOk, if◌then◌else◌}
use Rattle.std.specs.List.{AllByRecursion}
use Rattle.std.proofs.lemmas.Bool.Decides.{nat_tests}
use Rattle.std.proofs.lemmas.List.{append-nil}
use Rattle.sixel_ppm_laws.specs.Laws.{PictureFilesAreRead}
use Rattle.sixel_model.specs.Pictures.{PictureValue, most_side}
use Rattle.sixel_ppm_laws.specs.PpmFiles.{IsHeader, IsPictureFile, colours_of_samples}
use Rattle.sixel_ppm.specs.PpmReading.{Head, at_fault, begins_filler, colour_of, coloured, distinct, filled_number}
use Rattle.sixel_ppm.specs.PpmReading.{head_of, is_space, picture_of, pixels, ppm_read, sample, wanted}
use Rattle.sixel_model.specs.declared.colour.Parts.{Parts}
use Rattle.sixel_ppm.specs.declared.ppm.PpmFault.{PpmFault}
use Rattle.sixel_ppm.specs.declared.ppm.PpmReason.TheVariants as reason
use Rattle.sixel_ppm.specs.declared.ppm.PpmReason.TheVariants.{Header, Sample, Size, TooManyColours}
use Rattle.sixel_ppm_laws.proofs.PpmFileLemmas.{file_read, grouped}
use Rattle.sixel_ppm.proofs.PpmHeaderLemmas.{if_then}
use Rattle.sixel_ppm_laws.proofs.PpmPartLemmas.{FilledFound, Taken, filled_found, if_so, same_byte, wanted_found}

-- ---- the header

-- a header, then the samples
record HeadFound (bytes : List ℕ) (h : Head) : Type 0 where
  header : List ℕ
  is : IsHeader h.width h.height h.maxval header
  bytes_are : bytes ≡ header ++ h.samples

length-grouped : (a b c d e f g : List ℕ)
    → length (a ++ b ++ c ++ d ++ e ++ f ++ g)
    ≡ length a + length b + length c + length d + length e + length f + length g
length-grouped a b c d e f g = simp length-append

head_with : (bytes : List ℕ) (letter version end : ℕ × List ℕ) (width height maxval : ℕ × ℕ × List ℕ)
    → Taken (λ b. b == 80) 0 bytes letter → Taken (λ b. b == 54) letter.0 letter.1 version
    → FilledFound most_side version.0 version.1 width → FilledFound most_side width.1 width.2 height
    → FilledFound 255 height.1 height.2 maxval → Taken is_space maxval.1 maxval.2 end
    → HeadFound bytes (record {
      width = width.0;
      height = height.0;
      maxval = maxval.0;
      place = end.0;
      samples = end.1;
    })
head_with bytes letter version end width height maxval l v w h m e =
    let parts = w.filler ++ w.text ++ h.filler ++ h.text ++ m.filler ++ m.text ++ e.byte ∷ [] in
    let long = length-grouped w.filler w.text h.filler h.text m.filler m.text (e.byte ∷ []) in
    let joined : version.1 ≡ parts ++ end.1 =
    w.bytes_are
    ∙ ap (λ (t : List ℕ). w.filler ++ (w.text ++ t)) (h.bytes_are
    ∙ ap (λ (t : List ℕ). h.filler ++ (h.text ++ t)) (m.bytes_are
    ∙ ap (λ (t : List ℕ). m.filler ++ (m.text ++ t)) e.rest_is))
    ∙ sym (grouped w.filler w.text h.filler h.text m.filler m.text (e.byte ∷ []) end.1) in
    record {
      header = 80 ∷ 54 ∷ parts;
      is = record {
        before_width = w.filler;
        width_text = w.text;
        before_height = h.filler;
        height_text = h.text;
        before_maxval = m.filler;
        maxval_text = m.text;
        end = e.byte;
        bytes_are = refl;
        first_filler = w.is_filler;
        width_is = w.is_text;
        second_filler = h.is_filler;
        height_is = h.is_text;
        third_filler = m.is_filler;
        maxval_is = m.is_text;
        end_is = e.passed;
        wide = w.range;
        high = h.range;
        scaled = m.range;
        short = omega (arith, long, l.place, v.place, w.place, h.place, m.place, e.within);
      };
      bytes_are = l.rest_is ∙ ap (λ (k : ℕ). k ∷ letter.1) (same_byte l.byte 80 l.passed)
          ∙ ap (λ (t : List ℕ). 80 ∷ t) (v.rest_is ∙ ap (λ (k : ℕ). k ∷ version.1) (same_byte v.byte 54 v.passed)
          ∙ ap (λ (t : List ℕ). 54 ∷ t) joined);
    }

head_found : (bytes : List ℕ) → IfOk (head_of bytes) (HeadFound bytes)
head_found bytes =
    if_then (wanted (λ b. b == 80) 0 bytes) _ (Taken (λ b. b == 80) 0 bytes) (HeadFound bytes)
    (wanted_found (λ b. b == 80) 0 bytes) (λ letter l.
    if_then (wanted (λ b. b == 54) letter.0 letter.1) _ (Taken (λ b. b == 54) letter.0 letter.1) (HeadFound bytes)
    (wanted_found (λ b. b == 54) letter.0 letter.1) (λ version v.
    if_then (filled_number begins_filler Size most_side version.0 version.1) _
    (FilledFound most_side version.0 version.1)
    (HeadFound bytes) (filled_found begins_filler Size most_side version.0 version.1) (λ width w.
    if_then (filled_number begins_filler Size most_side width.1 width.2) _ (FilledFound most_side width.1 width.2)
    (HeadFound bytes) (filled_found begins_filler Size most_side width.1 width.2) (λ height h.
    if_then (filled_number is_space reason.Maxval 255 height.1 height.2) _ (FilledFound 255 height.1 height.2)
    (HeadFound bytes) (filled_found is_space reason.Maxval 255 height.1 height.2) (λ maxval m.
    if_then (wanted is_space maxval.1 maxval.2) _ (Taken is_space maxval.1 maxval.2) (HeadFound bytes)
    (wanted_found is_space maxval.1 maxval.2) (λ end e.
    head_with bytes letter version end width height maxval l v w h m e))))))

-- ---- the samples

least : (v most : ℕ) → nat_le v most ≡ true → v ≤ most
least v most e = grind (arith, nat_tests)

abbrev SampleFound : ℕ → List ℕ → ℕ × List ℕ → Type 0
SampleFound maxval rest r = (rest ≡ r.0 ∷ r.1) × (r.0 ≤ maxval)

sample_found : (maxval at : ℕ) (rest : List ℕ) → IfOk (sample maxval at rest) (SampleFound maxval rest)
sample_found maxval at [] = tt
sample_found maxval at (v ∷ rest) =
    elim (nat_le v maxval) as (λ t. nat_le v maxval ≡ t
    → IfOk (if t then Ok (v, rest) else at_fault Sample at) (SampleFound maxval (v ∷ rest)))
    [ true ↦ (λ e. (refl, least v maxval e)) | false ↦ (λ e. tt) ] refl

abbrev ColouredFound : ℕ → List Parts → List Parts → Type 0
ColouredFound registers more all = (all ≡ more) × (length (distinct all) ≤ registers)

coloured_found : (registers at : ℕ) (colours : List Parts) (colour : Parts)
    → IfOk (coloured registers at colours colour) (ColouredFound registers (colours ++ colour ∷ []))
coloured_found registers at colours colour =
    let more = colours ++ colour ∷ [] in
    elim (nat_le (length (distinct more)) registers) as (λ t. nat_le (length (distinct more)) registers ≡ t
    → IfOk (if t then Ok more else at_fault TooManyColours at) (ColouredFound registers more))
    [ true ↦ (λ e. (refl, least (length (distinct more)) registers e)) | false ↦ (λ e. tt) ] refl

-- there are three samples for each pixel, and their colours are added
record PixelsFound (registers maxval n : ℕ) (colours : List Parts) (rest : List ℕ) (all : List Parts) : Type 0 where
  whole : length rest ≡ 3 * n
  within : AllByRecursion (λ v. v ≤ maxval) rest
  all_are : all ≡ colours ++ colours_of_samples maxval rest
  few : length (distinct all) ≤ registers

one_more_pixel : (registers maxval n : ℕ) (colours more all : List Parts) (rest : List ℕ) (red green blue : ℕ × List ℕ)
    → SampleFound maxval rest red → SampleFound maxval red.1 green → SampleFound maxval green.1 blue
    → more ≡ colours ++ colour_of maxval red.0 green.0 blue.0 ∷ []
    → PixelsFound registers maxval n more blue.1 all → PixelsFound registers maxval (suc n) colours rest all
one_more_pixel registers maxval n colours more all rest red green blue r g b m p =
    let c = colour_of maxval red.0 green.0 blue.0 in
    let joined : rest ≡ red.0 ∷ green.0 ∷ blue.0 ∷ blue.1 =
    r.0 ∙ ap (λ (t : List ℕ). red.0 ∷ t) (g.0 ∙ ap (λ (t : List ℕ). green.0 ∷ t) b.0) in
    subst (λ (t : List ℕ). PixelsFound registers maxval (suc n) colours t all) (sym joined) (record {
      whole = omega (arith, p.whole);
      within = (r.1, (g.1, (b.1, p.within)));
      all_are = p.all_are ∙ ap (λ (t : List Parts). t ++ colours_of_samples maxval blue.1) m
          ∙ append_assoc colours (c ∷ []) (colours_of_samples maxval blue.1);
      few = p.few;
    })

pixels_found : (registers maxval n at : ℕ) (colours : List Parts) (rest : List ℕ)
    → length (distinct colours) ≤ registers
    → IfOk (pixels registers maxval n colours at rest) (PixelsFound registers maxval n colours rest)
pixels_found registers maxval zero at colours [] few =
    record { whole = omega arith; within = tt; all_are = sym (append-nil colours); few = few }
pixels_found registers maxval zero at colours (b ∷ rest) few = tt
pixels_found registers maxval (suc n) at colours rest few =
    if_then (sample maxval at rest) _ (SampleFound maxval rest) (PixelsFound registers maxval (suc n) colours rest)
    (sample_found maxval at rest) (λ red r.
    if_then (sample maxval (at + 1) red.1) _ (SampleFound maxval red.1)
    (PixelsFound registers maxval (suc n) colours rest) (sample_found maxval (at + 1) red.1) (λ green g.
    if_then (sample maxval (at + 2) green.1) _ (SampleFound maxval green.1)
    (PixelsFound registers maxval (suc n) colours rest) (sample_found maxval (at + 2) green.1) (λ blue b.
    if_then (coloured registers at colours (colour_of maxval red.0 green.0 blue.0)) _
    (ColouredFound registers (colours ++ colour_of maxval red.0 green.0 blue.0 ∷ []))
    (PixelsFound registers maxval (suc n) colours rest)
    (coloured_found registers at colours (colour_of maxval red.0 green.0 blue.0)) (λ more m.
    if_so (pixels registers maxval n more (at + 3) blue.1) (PixelsFound registers maxval n more blue.1)
    (PixelsFound registers maxval (suc n) colours rest)
    (pixels_found registers maxval n (at + 3) more blue.1 m.1)
    (λ all p. one_more_pixel registers maxval n colours more all rest red green blue r g b m.0 p)))))

-- ---- the whole

read_found : (registers : ℕ) (bytes : List ℕ)
    → IfOk (ppm_read registers bytes) (λ picture. IsPictureFile registers picture bytes)
read_found registers bytes =
    if_then (head_of bytes) _ (HeadFound bytes) (λ picture. IsPictureFile registers picture bytes) (head_found bytes)
    (λ h f.
    if_then (pixels registers h.maxval (h.width * h.height) [] h.place h.samples) _
    (PixelsFound registers h.maxval (h.width * h.height) [] h.samples)
    (λ picture. IsPictureFile registers picture bytes)
    (pixels_found registers h.maxval (h.width * h.height) h.place [] h.samples (omega arith))
    (λ colours p. record {
      width = h.width;
      height = h.height;
      maxval = h.maxval;
      header = f.header;
      samples = h.samples;
      bytes_are = f.bytes_are;
      header_is = f.is;
      whole = p.whole;
      within = p.within;
      few = subst (λ (all : List Parts). length (distinct all) ≤ registers) p.all_are p.few;
      picture_is = ap (picture_of registers h.width h.height) p.all_are;
    }))

pub read_is_file : (registers : ℕ) (picture : PictureValue) (bytes : List ℕ) → ppm_read registers bytes ≡ Ok picture
    → IsPictureFile registers picture bytes
read_is_file registers picture bytes e =
    subst (λ (r : Result PictureValue PpmFault). IfOk r (λ p. IsPictureFile registers p bytes)) e
    (read_found registers bytes)

pub picture_files_are_read : (registers : ℕ) → PictureFilesAreRead registers
picture_files_are_read registers = λ bytes picture. (
  file_read registers picture bytes,
  read_is_file registers picture bytes,
)
