-- The samples of a sheet.
use Rattle.std.proofs.Common.{◌≡◌, ◌∙◌, ◌<◌, ◌+◌, ◌++◌, ◌∷◌, ℕ, zero, suc, true, Bool, List, [], length, map, take}
use Rattle.std.proofs.Common.{drop, append_assoc, get_or, refl, sym, ap, arith, flat_map}
use Rattle.std.specs.Prelude.{◌&&◌, ◌-◌, Result, Ok, Err, slice_range}
use Rattle.std.specs.List.{list_all, range_with_len}
use Rattle.std.proofs.lemmas.Bool.{and_parts}
use Rattle.std.proofs.lemmas.Grind.{flat_map-append}
use Rattle.std.proofs.lemmas.List.{append-nil, take-append-drop, take_more}
use Rattle.sixel_io.specs.Blocks.{Drains, WritesThrough, in_all}
use Rattle.sixel_io.specs.Devices.{CountsFailure, Puts, SinkState, Writes, one_more}
use Rattle.sixel_io.proofs.DeviceLemmas.{TakesMore-then, prefix-more}
use Rattle.sixel_io.proofs.SinkLemmas.{Appends-keeps, drained, put_from_empty, puts-joined, through-failed, writes-then}
use Rattle.sixel_io.proofs.SinkLemmas.{writes-longer}
use Rattle.sixel_model.specs.declared.colour.Parts.{Parts}
use Rattle.sixel_ppm.specs.Ppm.{samples_of}
use Rattle.sixel_ppm.specs.PpmTables.{samples_from}
use Rattle.sixel_terminal.specs.declared.pixel.Ink.{Ink}
use Rattle.sixel_terminal.specs.Pixels.{bytes_of, is_rgb_ink}
use Rattle.sixel_terminal.specs.Screens.{colour_in_ink}
use Rattle.sixel_named_terminals.specs.declared.named.Named.{Named}
use Rattle.sixel_differ.specs.declared.view.View.{View}
use Rattle.sixel_differ.specs.declared.view.View.TheVariants.{Screen, Unmodelled as Ends}
use Rattle.sixel_differ.specs.declared.view.Views.{Views}
use Rattle.sixel_differ.specs.Views.{HaveSides, view_in}
use Rattle.sixel_sheet.specs.Sheets.{HasRow, grey_pixels, next_row, row_of, sheet_row}
use Rattle.sixel_screen.proofs.ScreenLemmas.{inks_samples}

abbrev pub samples : List Parts → List ℕ
samples colours = flat_map samples_of colours

-- ---- grey pixels

abbrev pub grey_step : ℕ → List ℕ
grey_step n = 50 ∷ 50 ∷ 50 ∷ []

greys_after : (n : ℕ) → samples (grey_pixels (suc n)) ≡ samples (grey_pixels n) ++ (50 ∷ 50 ∷ 50 ∷ [])
greys_after zero = refl
greys_after (suc n) = ap (λ (t : List ℕ). 50 ∷ 50 ∷ 50 ∷ t) (greys_after n)

pub greys_next : (n : ℕ) → samples (grey_pixels (n + 1)) ≡ samples (grey_pixels n) ++ (50 ∷ 50 ∷ 50 ∷ [])
greys_next n =
    let same : n + 1 ≡ suc n = omega arith in ap (λ (k : ℕ). samples (grey_pixels k)) same ∙ greys_after n

-- ---- pixels

pub pixels_next : (pixels : List Ink) (i : ℕ) (d : Ink) → i < length pixels
    → samples_from bytes_of (take (i + 1) pixels)
    ≡ samples_from bytes_of (take i pixels) ++ take 3 (bytes_of (get_or pixels i d))
pixels_next pixels i d short =
    let f = λ (p : Ink). take 3 (bytes_of p) in
    ap (flat_map f) (take_more pixels i d short) ∙ flat_map-append f (take i pixels) _
    ∙ ap (λ (t : List ℕ). flat_map f (take i pixels) ++ t) (append-nil (f (get_or pixels i d)))

pub pixels_whole : (pixels : List Ink) (i : ℕ) (d : Ink) → i < length pixels
    → samples_from bytes_of pixels
    ≡ (samples_from bytes_of (take i pixels) ++ take 3 (bytes_of (get_or pixels i d)))
    ++ samples_from bytes_of (drop (i + 1) pixels)
pixels_whole pixels i d short =
    let f = λ (p : Ink). take 3 (bytes_of p) in
    ap (flat_map f) (sym (take-append-drop (i + 1) pixels)) ∙ flat_map-append f (take (i + 1) pixels) _
    ∙ ap (λ (t : List ℕ). t ++ flat_map f (drop (i + 1) pixels)) (pixels_next pixels i d short)

all_drop : (n : ℕ) (inks : List Ink) → list_all is_rgb_ink inks ≡ true → list_all is_rgb_ink (drop n inks) ≡ true
all_drop zero inks all = all
all_drop (suc n) [] all = refl
all_drop (suc n) (ink ∷ inks) all = all_drop n inks (and_parts (is_rgb_ink ink) (list_all is_rgb_ink inks) all).1

all_take : (n : ℕ) (inks : List Ink) → list_all is_rgb_ink inks ≡ true → list_all is_rgb_ink (take n inks) ≡ true
all_take zero inks all = refl
all_take (suc n) [] all = refl
all_take (suc n) (ink ∷ inks) all =
    let both = and_parts (is_rgb_ink ink) (list_all is_rgb_ink inks) all in
    let rest = all_take n inks both.1 in
    ap (λ (b : Bool). b && list_all is_rgb_ink (take n inks)) both.0 ∙ rest

map_dropped : (n : ℕ) (inks : List Ink) → map colour_in_ink (drop n inks) ≡ drop n (map colour_in_ink inks)
map_dropped zero inks = refl
map_dropped (suc n) [] = refl
map_dropped (suc n) (ink ∷ inks) = map_dropped n inks

map_taken : (n : ℕ) (inks : List Ink) → map colour_in_ink (take n inks) ≡ take n (map colour_in_ink inks)
map_taken zero inks = refl
map_taken (suc n) [] = refl
map_taken (suc n) (ink ∷ inks) = ap (λ (t : List Parts). colour_in_ink ink ∷ t) (map_taken n inks)

pub row_samples : (inks : List Ink) (colours : List Parts) (from to : ℕ) → map colour_in_ink inks ≡ colours
    → list_all is_rgb_ink inks ≡ true
    → samples_from bytes_of (slice_range inks from to) ≡ samples (slice_range colours from to)
row_samples inks colours from to are all =
    inks_samples (take (to - from) (drop from inks)) (all_take (to - from) (drop from inks) (all_drop from inks all))
    ∙ ap samples
    (map_taken (to - from) (drop from inks) ∙ ap (take (to - from)) (map_dropped from inks ∙ ap (drop from) are))

-- ---- rows

-- a terminal's view has the row
pub has_row : (v : Views) (named : Named) (view : View) (y : ℕ) → view_in v named ≡ view → HaveSides v → y < v.height
    → HasRow view v.width y
has_row v named (Screen s) y is sides lt = (v.height, sides named s is, lt)
has_row v named (Ends place) y is sides lt = tt

pub next_samples : (width y : ℕ) (view : View)
    → samples (next_row width y view) ≡ samples (grey_pixels 8) ++ samples (row_of width y view)
next_samples width y view = flat_map-append samples_of (grey_pixels 8) (row_of width y view)

-- the parts of a row
abbrev pub part_1 : Views → ℕ → List ℕ
part_1 v y = samples (row_of v.width y v.xterm)

abbrev pub part_2 : Views → ℕ → List ℕ
part_2 v y = samples (next_row v.width y v.mlterm)

abbrev pub part_3 : Views → ℕ → List ℕ
part_3 v y = samples (next_row v.width y v.foot)

abbrev pub part_4 : Views → ℕ → List ℕ
part_4 v y = samples (next_row v.width y v.konsole)

pub row_from_1 : (v : Views) (y : ℕ) → samples (sheet_row v y) ≡ part_1 v y ++ (part_2 v y ++ (part_3 v y ++ part_4 v y))
row_from_1 v y =
    let a = row_of v.width y v.xterm in
    let b = next_row v.width y v.mlterm in
    let c = next_row v.width y v.foot in
    let d = next_row v.width y v.konsole in
    flat_map-append samples_of a (b ++ (c ++ d))
    ∙ ap (λ (t : List ℕ). samples a ++ t)
    (flat_map-append samples_of b (c ++ d) ∙ ap (λ (t : List ℕ). samples b ++ t) (flat_map-append samples_of c d))

pub row_from_2 : (v : Views) (y : ℕ)
    → samples (sheet_row v y) ≡ (part_1 v y ++ part_2 v y) ++ (part_3 v y ++ part_4 v y)
row_from_2 v y = row_from_1 v y ∙ sym (append_assoc (part_1 v y) (part_2 v y) (part_3 v y ++ part_4 v y))

pub row_from_3 : (v : Views) (y : ℕ)
    → samples (sheet_row v y) ≡ ((part_1 v y ++ part_2 v y) ++ part_3 v y) ++ part_4 v y
row_from_3 v y = row_from_2 v y ∙ sym (append_assoc (part_1 v y ++ part_2 v y) (part_3 v y) (part_4 v y))

range_after : (a n : ℕ) → range_with_len a (suc n) ≡ range_with_len a n ++ (a + n) ∷ []
range_after a zero = ap (λ (k : ℕ). k ∷ []) (omega arith)
range_after a (suc n) =
    let same : a + 1 + n ≡ a + suc n = omega arith in
    ap (λ (t : List ℕ). a ∷ t)
    (range_after (a + 1) n ∙ ap (λ (k : ℕ). range_with_len (a + 1) n ++ k ∷ []) same)

pub rows_next : (v : Views) (n : ℕ) → samples (flat_map (sheet_row v) (range_with_len 0 (n + 1)))
    ≡ samples (flat_map (sheet_row v) (range_with_len 0 n)) ++ samples (sheet_row v n)
rows_next v n =
    let same : n + 1 ≡ suc n = omega arith in
    let rows = flat_map (sheet_row v) (range_with_len 0 n) in
    ap (λ (k : ℕ). samples (flat_map (sheet_row v) (range_with_len 0 k))) same
    ∙ ap (λ (t : List ℕ). samples (flat_map (sheet_row v) t))
    (range_after 0 n ∙ ap (λ (k : ℕ). range_with_len 0 n ++ k ∷ []) (omega arith))
    ∙ ap samples (flat_map-append (sheet_row v) (range_with_len 0 n) (n ∷ []))
    ∙ flat_map-append samples_of rows (sheet_row v n ++ [])
    ∙ ap (λ (t : List Parts). samples rows ++ samples t) (append-nil (sheet_row v n))

-- ---- the sheet

-- what became of a text: it was put, or on an `Err` a prefix of it
pub record Becomes {A E : Type 0} (result : Result A E) (old new : SinkState) (text : List ℕ) : Type 0 where
  pub taken : Puts result old.taken new.taken text
  pub failures : CountsFailure result old.failures new.failures

put_after : {A E : Type 0} (result : Result A E) (a b c : SinkState) (none v w rows : List ℕ) → none ≡ []
    → WritesThrough {A = Unit {0}} {E = Unit {0}} (Ok tt) a b none v rows → Drains result b c v w
    → Puts result a.taken c.taken rows
put_after result a b c none v w rows empty put drain =
    drained result a.taken c.taken w rows drain.empty
    (Appends-keeps a.taken (in_all b.taken v) (in_all c.taken w) rows
    (put_from_empty a.taken (in_all b.taken v) none rows empty put.put) drain.bytes)
    (TakesMore-then a.taken b.taken c.taken put.more (prefix-more b.taken c.taken v w [] drain.prefix))

pub sheet_drained : {A E : Type 0} (result : Result A E) (a b c d : SinkState) (head none v w rows : List ℕ)
    → none ≡ [] → Writes {A = Unit {0}} {E = Unit {0}} (Ok tt) a b head
    → WritesThrough {A = Unit {0}} {E = Unit {0}} (Ok tt) b c none v rows → Drains result c d v w
    → Becomes result a d (head ++ rows)
sheet_drained {A} {E} (Ok x) a b c d head none v w rows empty first put drain = record {
  taken = puts-joined {A = A} {E = E} (Ok x) a.taken b.taken d.taken head rows (head ++ rows) refl first.taken
      (put_after {A = A} {E = E} (Ok x) b c d none v w rows empty put drain);
  failures = drain.failures ∙ put.failures ∙ first.failures;
}
sheet_drained {A} {E} (Err f) a b c d head none v w rows empty first put drain = record {
  taken = puts-joined {A = A} {E = E} (Err f) a.taken b.taken d.taken head rows (head ++ rows) refl first.taken
      (put_after {A = A} {E = E} (Err f) b c d none v w rows empty put drain);
  failures = drain.failures ∙ ap one_more (put.failures ∙ first.failures);
}

pub rows_stopped : {A E : Type 0} (f : E) (a b c : SinkState) (head none v rows : List ℕ) → none ≡ []
    → Writes {A = Unit {0}} {E = Unit {0}} (Ok tt) a b head
    → WritesThrough {A = A} {E = E} (Err f) b c none v rows
    → Becomes (let k : Result A E = Err f in k) a c (head ++ rows)
rows_stopped {A} {E} f a b c head none v rows empty first put =
    let failed : Writes {A = A} {E = E} (Err f) b c rows = through-failed empty put in
    let whole : Writes {A = A} {E = E} (Err f) a c (head ++ rows) = writes-then (Err f) refl first failed in
    record { taken = whole.taken; failures = whole.failures }

pub header_stopped : {A E : Type 0} (f : E) (a b : SinkState) (head rows : List ℕ)
    → Writes {A = A} {E = E} (Err f) a b head → Becomes (let k : Result A E = Err f in k) a b (head ++ rows)
header_stopped {A} {E} f a b head rows first =
    let whole : Writes {A = A} {E = E} (Err f) a b (head ++ rows) = writes-longer rows first in
    record { taken = whole.taken; failures = whole.failures }
