-- A bound on the length of a picture's text.
use Rattle.std.proofs.Common.{◌≡◌, ℕ, zero, suc, ◌+◌, ◌*◌, ◌<◌, ◌≤◌, false, cond, Option, Some, None, List, [], ◌∷◌}
use Rattle.std.proofs.Common.{◌++◌, length, replicate, decimal, refl, ap, ◌∙◌, arith, lit<, lit≤, le_trans}
use Rattle.std.proofs.Common.{length-append, mul-le-mul_right, mul_assoc, mul-le-mul, subst, suc-mul}
use Rattle.std.specs.Fmt.{digits}
use Rattle.std.specs.Prelude.{nat_le, flat_map, filter_map, IfSome, is_some}
use Rattle.std.specs.Option.{option_map}
use Rattle.std.specs.List.{join_by, range_with_len, cons_option, AllByRecursion}
use Rattle.std.proofs.lemmas.Bool.{cond_both, leb-true}
use Rattle.std.proofs.lemmas.Bool.Decides.{nat_tests}
use Rattle.std.proofs.lemmas.Fmt.{length-decimal-le}
use Rattle.std.proofs.lemmas.List.{length-replicate}
use Rattle.std.proofs.lemmas.List.Sums.{count_by-le-length}
use Rattle.std.proofs.lemmas.List.FromFn.{length-map-range_with_len, length-range_with_len}
use Rattle.sixel_grammar.specs.declared.command.Command.{Command}
use Rattle.sixel_grammar.specs.declared.command.Command.TheVariants.{Repeat, Raster, Select, Define, CarriageReturn}
use Rattle.sixel_grammar.specs.declared.command.Command.TheVariants.{NextLine}
use Rattle.sixel_grammar.specs.declared.command.Event.TheVariants.{Finish}
use Rattle.sixel_grammar.specs.Lengths.{digit_count}
use Rattle.sixel_grammar.specs.Spelling.{fixed_command, fixed_fields, fixed_spelling}
use Rattle.sixel_grammar_laws.proofs.LengthLemmas.{decimal_within}
use Rattle.sixel_model.specs.declared.colour.Parts.{Parts}
use Rattle.sixel_model.specs.declared.colour.Parts.TheVariants.{Rgb, Hls}
use Rattle.sixel_model.specs.Colours.{palette_at, IsColour}
use Rattle.sixel_model.specs.Pictures.{PictureValue, most_side}
use Rattle.sixel_encode.specs.Canon.{most_bands, Run, all_columns, band_columns, band_commands, band_registers, bands}
use Rattle.sixel_encode.specs.Canon.{below, canon_commands, canon_start, canon_text, column_bits, commands_text}
use Rattle.sixel_encode.specs.Canon.{define_command, define_commands, has_bits, picture_commands, register_commands}
use Rattle.sixel_encode.specs.Canon.{run_commands, runs, without_blanks}
use Rattle.sixel_encode_laws.specs.Laws.{TextsAreShort, TextsHaveAtMost, entries_of, items_of}
use Rattle.sixel_encode_laws.proofs.LongestLemmas.{runs_joined}
use Rattle.sixel_encode_laws.proofs.OccurringLemmas.{band_length, band_some, band_used, entries, entries_are}
use Rattle.sixel_encode.proofs.PartedLemmas.{IsUsed, Parted, parted}
use Rattle.sixel_encode.proofs.StepLemmas.{canon-parts}
use Rattle.sixel_encode.proofs.TextLemmas.{text-append, text-sixels}

-- ---- numbers

three_digits : (n : ℕ) → n < 1000 → length (decimal n) ≤ 3
three_digits n h = length-decimal-le 3 n (lit< tt) h (omega arith)

four_digits : (n : ℕ) → n < 10000 → length (decimal n) ≤ 4
four_digits n h = length-decimal-le 4 n (lit< tt) h (omega arith)

-- a repeat of 4 or more isn't longer than its columns as single sixels
repeat_short : (n : ℕ) → 4 ≤ n → 2 + digit_count n ≤ n
repeat_short n h = grind (arith, nat_tests)

-- ---- commands

abbrev size : List Command → ℕ
size cs = length (commands_text cs)

size_append : (xs ys : List Command) → size (xs ++ ys) ≡ size xs + size ys
size_append xs ys = ap length (text-append xs ys) ∙ length-append (commands_text xs) (commands_text ys)

size_cons : (c : Command) (cs : List Command) → size (c ∷ cs) ≡ length (fixed_command c) + size cs
unfolding commands_text
size_cons c cs = length-append (fixed_command c) (commands_text cs)

size_none : size [] ≡ 0
unfolding commands_text
size_none = refl

run_size : (r : Run) → r.count ≤ 65535 → size (run_commands r) ≤ r.count
run_size r h =
    cond_both (nat_le 4 r.count) _ _ (λ cs. size cs ≤ r.count)
    (λ t. let l : 4 ≤ r.count = leb-true 4 r.count t in
    omega (
      arith,
      size_cons (Repeat r.count r.item) [],
      size_none,
      decimal_within r.count h,
      repeat_short r.count l,
      length-append (decimal r.count) ((63 + r.item) ∷ []),
    ))
    (λ t. omega (arith, ap length (text-sixels r.count r.item), length-replicate r.count (63 + r.item)))

runs_size : (rs : List Run) → length (items_of rs) ≤ 65535 → size (flat_map run_commands rs) ≤ length (items_of rs)
runs_size [] h = omega (arith, size_none)
runs_size (r ∷ rs) h =
    let long : length (replicate r.count r.item ++ items_of rs) ≡ r.count + length (items_of rs) =
    length-append (replicate r.count r.item) (items_of rs)
    ∙ ap (λ n. n + length (items_of rs)) (length-replicate r.count r.item) in
    let one : size (run_commands r) ≤ r.count = run_size r (omega arith) in
    let rest : size (flat_map run_commands rs) ≤ length (items_of rs) = runs_size rs (omega arith) in
    omega (arith, size_append (run_commands r) (flat_map run_commands rs))

-- ---- a register

without_length : (bs : List ℕ) → length (without_blanks bs) ≤ length bs
without_length [] = lit≤ tt
without_length (b ∷ bs) =
    let rest : length (without_blanks bs) ≤ length bs = without_length bs in
    cond_both (has_bits (b ∷ bs)) (b ∷ without_blanks bs) [] (λ cs. length cs ≤ suc (length bs)) (λ t. omega arith)
    (λ t. omega arith)

pub columns_length : (p : PictureValue) (band r : ℕ) → length (band_columns p band r) ≤ p.width
unfolding band_columns
columns_length p band r =
    omega (arith, without_length (all_columns p band r), length-map-range_with_len (column_bits p band r) 0 p.width)

register_size : (p : PictureValue) (band r : ℕ) → r < 1000 → p.width ≤ most_side
    → size (register_commands p band r) ≤ p.width + 4
unfolding register_commands
register_size p band r h w =
    let columns = band_columns p band r in
    let short : length columns ≤ p.width = columns_length p band r in
    let joined : length (items_of (runs columns)) ≡ length columns = ap length (runs_joined columns) in
    let rest : size (flat_map run_commands (runs columns)) ≤ length (items_of (runs columns)) =
    runs_size (runs columns) (omega arith) in
    let select : length (decimal r) ≤ 3 = three_digits r h in
    omega (arith, size_cons (Select r) (flat_map run_commands (runs columns)))

-- ---- texts joined by a command of one byte

-- each text has at most w bytes with that command
abbrev AreShort : (ℕ → List Command) → ℕ → List ℕ → Type 0
AreShort f w xs = AllByRecursion (λ x. size (f x) + 1 ≤ w) xs

others_size : (f : ℕ → List Command) (c : Command) (w : ℕ) (xs : List ℕ) → length (fixed_command c) ≡ 1
    → AreShort f w xs → size (flat_map (λ x. c ∷ f x) xs) ≤ length xs * w
others_size f c w [] e h = omega (arith, size_none)
others_size f c w (x ∷ xs) e h =
    let others = flat_map (λ x. c ∷ f x) xs in
    let one : size (f x) + 1 ≤ w = h.0 in
    let rest : size others ≤ length xs * w = others_size f c w xs e h.1 in
    rw (suc-mul (length xs) w) (omega (arith, e, size_cons c (f x ++ others), size_append (f x) others))

joined_size : (f : ℕ → List Command) (c : Command) (w : ℕ) (xs : List ℕ) → length (fixed_command c) ≡ 1
    → AreShort f w xs → 1 ≤ length xs → size (join_by f (c ∷ []) xs) + 1 ≤ length xs * w
joined_size f c w [] e h k = absurd (omega arith)
joined_size f c w (x ∷ xs) e h k =
    let others = flat_map (λ x. c ∷ f x) xs in
    let one : size (f x) + 1 ≤ w = h.0 in
    let rest : size others ≤ length xs * w = others_size f c w xs e h.1 in
    rw (suc-mul (length xs) w) (omega (arith, size_append (f x) others))

-- ---- bands

registers_short : (rs : List ℕ) (registers : ℕ) (p : PictureValue) (band : ℕ) → registers ≤ 1000 → p.width ≤ most_side
    → AllByRecursion (IsUsed registers p) rs → AreShort (register_commands p band) (p.width + 5) rs
registers_short [] registers p band n w h = tt
registers_short (r ∷ rs) registers p band n w h =
    let under : r < registers = (h.0).under in
    let one : size (register_commands p band r) ≤ p.width + 4 = register_size p band r (omega arith) w in
    (omega arith, registers_short rs registers p band n w h.1)

band_size : {registers : ℕ} {p : PictureValue} (band : ℕ) → registers ≤ 1000 → Parted registers p → band < bands p
    → size (band_commands p band) + 1 ≤ entries_of p * (p.width + 5)
unfolding band_commands
band_size {registers} {p} band n h l =
    le_trans
    (joined_size (register_commands p band) CarriageReturn (p.width + 5) (band_registers p band) refl
    (registers_short (band_registers p band) registers p band n h.most_width (band_used band h)) (band_some band h l))
    (mul-le-mul_right (p.width + 5) (band_length band h))

bands_short : (n a : ℕ) {registers : ℕ} {p : PictureValue} → registers ≤ 1000 → Parted registers p → a + n ≤ bands p
    → AreShort (band_commands p) (entries_of p * (p.width + 5)) (range_with_len a n)
bands_short zero a m h l = tt
bands_short (suc n) a m h l = (band_size a m h (omega arith), bands_short n (a + 1) m h (omega arith))

bands_size : {registers : ℕ} {p : PictureValue} → registers ≤ 1000 → Parted registers p
    → size (picture_commands p) + 1 ≤ bands p * (entries_of p * (p.width + 5))
unfolding picture_commands
bands_size {p} m h =
    let some : 1 ≤ bands p = omega (arith, h.some_height) in
    let long : length (below (bands p)) ≡ bands p = length-range_with_len 0 (bands p) in
    subst (λ n. size (join_by (band_commands p) (NextLine ∷ []) (below (bands p))) + 1
    ≤ n * (entries_of p * (p.width + 5))) long
    (joined_size (band_commands p) NextLine (entries_of p * (p.width + 5)) (below (bands p)) refl
    (bands_short (bands p) 0 m h (omega arith)) (omega arith))

-- ---- definitions

fields_more : (n m : ℕ) (ns : List ℕ)
    → length (fixed_fields (n ∷ m ∷ ns)) ≡ length (decimal n) + 1 + length (fixed_fields (m ∷ ns))
fields_more n m ns = omega (arith, length-append (decimal n) (59 ∷ fixed_fields (m ∷ ns)))

fields_one : (n : ℕ) → length (fixed_fields (n ∷ [])) ≡ length (decimal n)
fields_one n = refl

define_size : (r s x y z : ℕ) → r < 1000 → s < 10 → x < 1000 → y < 1000 → z < 1000
    → length (fixed_command (Define r s x y z)) ≤ 18
define_size r s x y z a b c d e =
    omega (
      arith,
      three_digits r a,
      length-decimal-le 1 s (lit< tt) b (omega arith),
      three_digits x c,
      three_digits y d,
      three_digits z e,
      fields_more r s (x ∷ y ∷ z ∷ []),
      fields_more s x (y ∷ z ∷ []),
      fields_more x y (z ∷ []),
      fields_more y z [],
      fields_one z,
    )

colour_size : (r : ℕ) (c : Parts) → r < 1000 → IsColour c → length (fixed_command (define_command r c)) ≤ 18
colour_size r (Rgb x y z) l h = define_size r 2 x y z l (lit< tt) (omega arith) (omega arith) (omega arith)
colour_size r (Hls x y z) l h = define_size r 1 x y z l (lit< tt) (omega arith) (omega arith) (omega arith)

entry_size : (r : ℕ) (o : Option Parts) (rest : List Command) (m : ℕ) → r < 1000 → IfSome o IsColour
    → size rest ≤ 18 * m → size (cons_option (option_map (define_command r) o) rest) ≤ 18 * cond (is_some o) (1 + m) m
entry_size r None rest m l c h = h
entry_size r (Some colour) rest m l c h =
    omega (arith, colour_size r colour l c, size_cons (define_command r colour) rest)

pub entry_colour : (xs : List (Option Parts)) (r : ℕ) → AllByRecursion (λ o. IfSome o IsColour) xs
    → IfSome (palette_at xs r) IsColour
entry_colour [] r h = tt
entry_colour (x ∷ xs) zero h = h.0
entry_colour (x ∷ xs) (suc r) h = entry_colour xs r h.1

abbrev pub defines_from : List (Option Parts) → ℕ → ℕ → List Command
defines_from palette a n = filter_map (λ r. option_map (define_command r) (palette_at palette r)) (range_with_len a n)

defines_size : (n a : ℕ) {registers : ℕ} {p : PictureValue} → registers ≤ 1000 → Parted registers p → a + n ≤ registers
    → size (defines_from p.palette a n) ≤ 18 * entries (λ i. is_some (palette_at p.palette i)) a n
defines_size zero a m h l = omega (arith, size_none)
defines_size (suc n) a {p} m h l =
    entry_size a (palette_at p.palette a) (defines_from p.palette (a + 1) n)
    (entries (λ i. is_some (palette_at p.palette i)) (a + 1) n) (omega arith) (entry_colour p.palette a h.in_range)
    (defines_size n (a + 1) m h (omega arith))

entries_size : {registers : ℕ} {p : PictureValue} → registers ≤ 1000 → Parted registers p
    → size (define_commands p.palette) ≤ 18 * entries_of p
unfolding define_commands
entries_size {registers} {p} n h =
    let long : length p.palette ≡ registers = h.entries in
    let counted : entries (λ i. is_some (palette_at p.palette i)) 0 (length p.palette) ≡ entries_of p =
    entries_are p.palette in
    omega (arith, defines_size (length p.palette) 0 n h (omega arith))

-- ---- the whole

raster_size : (w h : ℕ) → w ≤ most_side → h ≤ most_side → length (fixed_command (Raster 1 1 w h)) ≤ 14
raster_size w h l m =
    let one : length (decimal 1) ≤ 1 = length-decimal-le 1 1 (lit< tt) (lit< tt) (lit< tt) in
    omega (
      arith,
      four_digits w (omega arith),
      four_digits h (omega arith),
      fields_more 1 1 (w ∷ h ∷ []),
      fields_more 1 w (h ∷ []),
      fields_more w h [],
      fields_one h,
    )

start_size : length (fixed_spelling canon_start) ≡ 6
unfolding digits
start_size = refl

parts_size : (p : PictureValue) → length (canon_text p)
    ≡ 6 + (length (fixed_command (Raster 1 1 p.width p.height)) +
    (size (define_commands p.palette) + size (picture_commands p))) + 2
unfolding canon_commands
parts_size p =
    let box = Raster 1 1 p.width p.height in
    let commands : size (box ∷ (define_commands p.palette ++ picture_commands p))
    ≡ length (fixed_command box) + (size (define_commands p.palette) + size (picture_commands p)) =
    size_cons box (define_commands p.palette ++ picture_commands p)
    ∙ ap (λ m. length (fixed_command box) + m) (size_append (define_commands p.palette) (picture_commands p)) in
    ap length (canon-parts p)
    ∙ length-append (fixed_spelling canon_start ++ commands_text (canon_commands p)) (fixed_spelling (Finish false))
    ∙ ap (λ m. m + 2) (length-append (fixed_spelling canon_start) (commands_text (canon_commands p))
    ∙ ap (λ m. m + size (canon_commands p)) start_size ∙ ap (λ m. 6 + m) commands)

-- the text of a picture isn't longer than the bound
pub texts_are_short : (registers : ℕ) → registers ≤ 1000 → TextsAreShort registers
texts_are_short registers n p picture =
    let h : Parted registers p = parted picture in
    let bytes : size (picture_commands p) + 1 ≤ bands p * (entries_of p * (p.width + 5)) =
    bands_size n h in
    let times : bands p * entries_of p * (p.width + 5) ≡ bands p * (entries_of p * (p.width + 5)) =
    mul_assoc (bands p) (entries_of p) (p.width + 5) in
    omega (arith, parts_size p, raster_size p.width p.height h.most_width h.most_height, entries_size n h)

-- a bound for any picture
most_of : (bands k w registers : ℕ) → bands ≤ most_bands → k ≤ registers → w ≤ most_side
    → 22 + 18 * k + bands * k * (w + 5) ≤ 22 + 18 * registers + most_bands * registers * 2053
most_of bands k w registers a b c =
    let d : bands * k ≤ most_bands * registers = mul-le-mul a b in
    let e : w + 5 ≤ 2053 = omega arith in
    let f : bands * k * (w + 5) ≤ most_bands * registers * 2053 = mul-le-mul d e in
    omega arith

pub texts_have_at_most : (most registers : ℕ) → registers ≤ 1000
    → 22 + 18 * registers + most_bands * registers * 2053 ≤ most → TextsHaveAtMost most registers
texts_have_at_most most registers n l p picture =
    let h : Parted registers p = parted picture in
    let long : length p.palette ≡ registers = h.entries in
    let k : entries_of p ≤ length p.palette = count_by-le-length is_some p.palette in
    let high : p.height ≤ most_side = h.most_height in
    let b : bands p ≤ most_bands = omega arith in
    le_trans (le_trans (texts_are_short registers n p picture)
    (most_of (bands p) (entries_of p) p.width registers b (omega arith) h.most_width)) l
