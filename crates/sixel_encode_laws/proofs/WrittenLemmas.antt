-- Each event of a canonical list can be written.
use Rattle.std.proofs.Common.{◌≡◌, ℕ, zero, suc, ◌+◌, ◌<◌, ◌≤◌, false, Option, Some, None, List, [], ◌∷◌, ◌++◌, map}
use Rattle.std.proofs.Common.{length, replicate, refl, sym, ap, ◌∙◌, subst, arith, lit≤, length-append}
use Rattle.std.specs.Prelude.{nat_le, flat_map, IfSome}
use Rattle.std.specs.Option.{option_map}
use Rattle.std.specs.List.{join_by, cons_option, AllByRecursion}
use Rattle.std.proofs.lemmas.Bool.{cond_both, leb-true}
use Rattle.std.proofs.lemmas.List.{length-replicate}
use Rattle.sixel_grammar.specs.declared.command.Command.{Command}
use Rattle.sixel_grammar.specs.declared.command.Command.TheVariants.{Sixel, CarriageReturn, NextLine}
use Rattle.sixel_grammar.specs.declared.command.Event.TheVariants.{Step, Finish}
use Rattle.sixel_grammar.specs.Document.{AreRest, most_bytes}
use Rattle.sixel_grammar.specs.FixedText.{CanWrite}
use Rattle.sixel_grammar.proofs.FixedTextLemmas.{fixed_document}
use Rattle.sixel_grammar.proofs.PieceLemmas.{all-append}
use Rattle.sixel_model.specs.declared.colour.Parts.{Parts}
use Rattle.sixel_model.specs.declared.colour.Parts.TheVariants.{Rgb, Hls}
use Rattle.sixel_model.specs.Colours.{palette_at, IsColour}
use Rattle.sixel_model.specs.Pictures.{PictureValue, most_side}
use Rattle.sixel_encode.specs.Canon.{Run, all_columns, band_columns, band_commands, band_registers, bands, below, canon}
use Rattle.sixel_encode.specs.Canon.{canon_commands, column_bits, define_command, define_commands, has_bits}
use Rattle.sixel_encode.specs.Canon.{picture_commands, register_commands, run_commands, runs, without_blanks}
use Rattle.sixel_encode_laws.specs.Laws.{EventsCanBeWritten, ListsAreWhole, TextsAreDocuments, TextsHaveAtMost}
use Rattle.sixel_encode_laws.specs.Laws.{items_of}
use Rattle.sixel_encode.proofs.BitLemmas.{column_most}
use Rattle.sixel_encode_laws.proofs.LengthLemmas.{columns_length, defines_from, entry_colour}
use Rattle.sixel_encode_laws.proofs.LongestLemmas.{runs_joined}
use Rattle.sixel_encode_laws.proofs.OccurringLemmas.{band_used}
use Rattle.sixel_encode.proofs.PartedLemmas.{IsUsed, Parted, parted}

-- each command can be written
abbrev AreWritable : List Command → Type 0
AreWritable cs = AllByRecursion (λ c. CanWrite (Step c)) cs

first_part : (P : ℕ → Type 0) (xs ys : List ℕ) → AllByRecursion P (xs ++ ys) → AllByRecursion P xs
first_part P [] ys h = tt
first_part P (x ∷ xs) ys h = (h.0, first_part P xs ys h.1)

second_part : (P : ℕ → Type 0) (xs ys : List ℕ) → AllByRecursion P (xs ++ ys) → AllByRecursion P ys
second_part P [] ys h = h
second_part P (x ∷ xs) ys h = second_part P xs ys h.1

steps : (cs : List Command) → AreWritable cs → AllByRecursion CanWrite (map Step cs)
steps [] h = tt
steps (c ∷ cs) h = (h.0, steps cs h.1)

-- ---- runs

sixels_writable : (n b : ℕ) → AllByRecursion (λ c. c ≤ 63) (replicate n b) → AreWritable (replicate n (Sixel b))
sixels_writable zero b h = tt
sixels_writable (suc n) b h =
    let small : b ≤ 63 = h.0 in (record { is_event = omega arith; spellable = small }, sixels_writable n b h.1)

item_within : (n b : ℕ) → 4 ≤ n → AllByRecursion (λ c. c ≤ 63) (replicate n b) → b ≤ 63
item_within zero b l h = absurd (omega arith)
item_within (suc n) b l h = h.0

run_writable : (r : Run) → r.count ≤ 65535 → AllByRecursion (λ c. c ≤ 63) (replicate r.count r.item)
    → AreWritable (run_commands r)
run_writable r l h =
    cond_both (nat_le 4 r.count) _ _ AreWritable
    (λ t. let small : r.item ≤ 63 = item_within r.count r.item (leb-true 4 r.count t) h in
    (record { is_event = (l, omega arith); spellable = small }, tt))
    (λ t. sixels_writable r.count r.item h)

runs_writable : (rs : List Run) → length (items_of rs) ≤ 65535 → AllByRecursion (λ c. c ≤ 63) (items_of rs)
    → AreWritable (flat_map run_commands rs)
runs_writable [] l h = tt
runs_writable (r ∷ rs) l h =
    let items = replicate r.count r.item in
    let long : length (items ++ items_of rs) ≡ r.count + length (items_of rs) =
    length-append items (items_of rs) ∙ ap (λ n. n + length (items_of rs)) (length-replicate r.count r.item) in
    all-append (λ c. CanWrite (Step c)) (run_commands r) (flat_map run_commands rs)
    (run_writable r (omega arith) (first_part (λ c. c ≤ 63) items (items_of rs) h))
    (runs_writable rs (omega arith) (second_part (λ c. c ≤ 63) items (items_of rs) h))

-- ---- a register

without_each : (P : ℕ → Type 0) (bs : List ℕ) → AllByRecursion P bs → AllByRecursion P (without_blanks bs)
without_each P [] h = tt
without_each P (b ∷ bs) h =
    cond_both (has_bits (b ∷ bs)) (b ∷ without_blanks bs) [] (AllByRecursion P) (λ t. (h.0, without_each P bs h.1))
    (λ t. tt)

map_each : (P : ℕ → Type 0) (f : ℕ → ℕ) (xs : List ℕ) → ((x : ℕ) → P (f x)) → AllByRecursion P (map f xs)
map_each P f [] h = tt
map_each P f (x ∷ xs) h = (h x, map_each P f xs h)

columns_within : (p : PictureValue) (band r : ℕ) → AllByRecursion (λ c. c ≤ 63) (band_columns p band r)
unfolding band_columns
columns_within p band r =
    without_each _ (all_columns p band r)
    (map_each (λ c. c ≤ 63) (column_bits p band r) (below p.width) (column_most p band r))

register_writable : (p : PictureValue) (band r : ℕ) → r ≤ 65535 → p.width ≤ most_side
    → AreWritable (register_commands p band r)
unfolding register_commands
register_writable p band r l w =
    let joined = runs_joined (band_columns p band r) in
    let e : length (items_of (runs (band_columns p band r))) ≡ length (band_columns p band r) = ap length joined in
    let c : length (band_columns p band r) ≤ p.width = columns_length p band r in (
      record { is_event = l; spellable = tt },
      runs_writable (runs (band_columns p band r)) (omega arith)
          (subst (AllByRecursion (λ c. c ≤ 63)) (sym joined) (columns_within p band r)),
    )

-- ---- bands

rest_writable : (f : ℕ → List Command) (c : Command) (P : ℕ → Type 0) (rs : List ℕ) → CanWrite (Step c)
    → AllByRecursion P rs → ((r : ℕ) → P r → AreWritable (f r)) → AreWritable (flat_map (λ r. c ∷ f r) rs)
rest_writable f c P [] s h k = tt
rest_writable f c P (r ∷ rs) s h k = (
  s,
  all-append (λ c. CanWrite (Step c)) (f r) (flat_map (λ r. c ∷ f r) rs) (k r h.0)
      (rest_writable f c P rs s h.1 k),
)

join_writable : (f : ℕ → List Command) (c : Command) (P : ℕ → Type 0) (rs : List ℕ) → CanWrite (Step c)
    → AllByRecursion P rs → ((r : ℕ) → P r → AreWritable (f r)) → AreWritable (join_by f (c ∷ []) rs)
join_writable f c P [] s h k = tt
join_writable f c P (r ∷ rs) s h k =
    all-append (λ c. CanWrite (Step c)) (f r) (flat_map (λ r. c ∷ f r) rs) (k r h.0) (rest_writable f c P rs s h.1 k)

band_writable : {registers : ℕ} {p : PictureValue} (band : ℕ) → registers ≤ 65535 → Parted registers p
    → AreWritable (band_commands p band)
unfolding band_commands
band_writable {registers} {p} band n h =
    join_writable (register_commands p band) CarriageReturn (IsUsed registers p) (band_registers p band)
    (record { is_event = tt; spellable = tt }) (band_used band h)
    (λ r u. (let under : r < registers = u.under in register_writable p band r (omega arith) h.most_width))

every : (xs : List ℕ) → AllByRecursion (λ x. Unit {0}) xs
every [] = tt
every (x ∷ xs) = (tt, every xs)

bands_writable : {registers : ℕ} {p : PictureValue} → registers ≤ 65535 → Parted registers p
    → AreWritable (picture_commands p)
unfolding picture_commands
bands_writable {p} n h =
    join_writable (band_commands p) NextLine (λ l. Unit {0}) (below (bands p))
    (record { is_event = tt; spellable = tt }) (every (below (bands p))) (λ l u. band_writable l n h)

-- ---- definitions

colour_writable : (r : ℕ) (c : Parts) → r ≤ 65535 → IsColour c → CanWrite (Step (define_command r c))
colour_writable r (Rgb x y z) l h = record {
  is_event = (l, (lit≤ tt, (omega arith, (omega arith, (omega arith, tt)))));
  spellable = tt;
}
colour_writable r (Hls x y z) l h = record {
  is_event = (l, (lit≤ tt, (omega arith, (omega arith, (omega arith, tt)))));
  spellable = tt;
}

entry_writable : (r : ℕ) (o : Option Parts) (rest : List Command) → r ≤ 65535 → IfSome o IsColour → AreWritable rest
    → AreWritable (cons_option (option_map (define_command r) o) rest)
entry_writable r None rest l c h = h
entry_writable r (Some colour) rest l c h = (colour_writable r colour l c, h)

defines_writable : (n a : ℕ) {registers : ℕ} {p : PictureValue} → registers ≤ 65535 → Parted registers p
    → a + n ≤ registers → AreWritable (defines_from p.palette a n)
defines_writable zero a m h l = tt
defines_writable (suc n) a {p} m h l =
    entry_writable a (palette_at p.palette a) (defines_from p.palette (a + 1) n) (omega arith)
    (entry_colour p.palette a h.in_range) (defines_writable n (a + 1) m h (omega arith))

entries_writable : {registers : ℕ} {p : PictureValue} → registers ≤ 65535 → Parted registers p
    → AreWritable (define_commands p.palette)
unfolding define_commands
entries_writable {registers} {p} n h =
    let long : length p.palette ≡ registers = h.entries in
    defines_writable (length p.palette) 0 n h (omega arith)

-- ---- the whole

pub events_can_be_written : (registers : ℕ) → registers ≤ 65535 → EventsCanBeWritten registers
unfolding canon canon_commands
events_can_be_written registers n p picture =
    let h : Parted registers p = parted picture in
    let u : p.width ≤ most_side = h.most_width in
    let v : p.height ≤ most_side = h.most_height in
    let defines = entries_writable n h in
    let bits = bands_writable n h in (
      record { is_event = (lit≤ tt, (lit≤ tt, (lit≤ tt, tt))); spellable = omega arith },
      (
        record { is_event = (lit≤ tt, (lit≤ tt, (omega arith, (omega arith, tt)))); spellable = tt },
        all-append CanWrite (map Step (define_commands p.palette ++ picture_commands p)) (Finish false ∷ [])
            (steps (define_commands p.palette ++ picture_commands p)
            (all-append (λ c. CanWrite (Step c)) (define_commands p.palette) (picture_commands p) defines bits))
            (record { is_event = tt; spellable = tt }, tt),
      ),
    )

rest_are : (cs : List Command) → AreRest (map Step cs ++ Finish false ∷ [])
rest_are [] = refl
rest_are (c ∷ cs) = rest_are cs

pub lists_are_whole : ListsAreWhole
unfolding canon
lists_are_whole p = rest_are (canon_commands p)

-- the text is a document if it is within the limit
pub texts_are_documents : (registers : ℕ) → registers ≤ 65535 → TextsHaveAtMost most_bytes registers
    → TextsAreDocuments registers
texts_are_documents registers n short p picture =
    fixed_document (canon p) (events_can_be_written registers n p picture) (lists_are_whole p) (short p picture)
