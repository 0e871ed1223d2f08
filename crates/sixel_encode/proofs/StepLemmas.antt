-- The texts of a picture's parts, one after another.
use Rattle.std.proofs.Common.{◌≡◌, ℕ, zero, suc, ◌+◌, Bool, true, false, cond, Option, Some, None, List, [], ◌∷◌, ◌++◌}
use Rattle.std.proofs.Common.{length, map, refl, sym, ap, ◌∙◌, append_assoc}
use Rattle.std.specs.Prelude.{◌==◌, filter, flat_map, filter_map, if◌then◌else◌}
use Rattle.std.specs.Option.{option_map, option_to_list}
use Rattle.std.specs.List.{cons_option, join_by}
use Rattle.std.proofs.lemmas.Bool.{ne_eqb}
use Rattle.std.proofs.lemmas.Grind.{flat_map-append}
use Rattle.std.proofs.lemmas.List.{append-nil}
use Rattle.std.proofs.lemmas.List.Elements.{filter-append, filter_map-append}
use Rattle.sixel_grammar.specs.declared.command.Command.{Command}
use Rattle.sixel_grammar.specs.declared.command.Command.TheVariants.{Raster, Select, CarriageReturn, NextLine}
use Rattle.sixel_grammar.specs.declared.command.Event.TheVariants.{Step, Finish}
use Rattle.sixel_grammar.specs.Spelling.{fixed_spelling}
use Rattle.sixel_grammar.specs.FixedText.{fixed_text}
use Rattle.sixel_grammar.proofs.FixedTextLemmas.{fixed_text-append}
use Rattle.sixel_model.specs.declared.colour.Parts.{Parts}
use Rattle.sixel_model.specs.Colours.{palette_at}
use Rattle.sixel_model.specs.Pictures.{PictureValue}
use Rattle.sixel_encode.specs.Canon.{all_columns, band_commands, band_registers, bands, below, canon}
use Rattle.sixel_encode.specs.Canon.{canon_commands, canon_start, canon_text, commands_text, define_command}
use Rattle.sixel_encode.specs.Canon.{define_commands, occurs, picture_commands, register_commands}
use Rattle.sixel_encode.proofs.RangeLemmas.{below_then}
use Rattle.sixel_encode.specs.Columns.{padded, sixel_commands, sixels_of}
use Rattle.sixel_encode.proofs.StretchLemmas.{register_is}
use Rattle.sixel_encode.proofs.TextLemmas.{text-append}

-- ---- registers and bands, one after another

abbrev pub is_nil : List ℕ → Bool
is_nil [] = true
is_nil (x ∷ xs) = false

-- one more item, after a separator
join-then : (f : ℕ → List Command) (between : List Command) (xs : List ℕ) (x : ℕ)
    → join_by f between (xs ++ x ∷ []) ≡ join_by f between xs ++ ((if is_nil xs then [] else between) ++ f x)
join-then f between [] x = append-nil (f x)
join-then f between (y ∷ ys) x =
    ap (λ (t : List Command). f y ++ t)
    (flat_map-append (λ z. between ++ f z) ys (x ∷ [])
    ∙ ap (λ (t : List Command). flat_map (λ z. between ++ f z) ys ++ t)
    (append-nil (between ++ f x)))
    ∙ sym (append_assoc (f y) (flat_map (λ z. between ++ f z) ys) (between ++ f x))

-- the text of the first bands
abbrev pub bands_above : PictureValue → ℕ → List ℕ
bands_above p band = commands_text (join_by (band_commands p) (NextLine ∷ []) (below band))

-- the text of the next band
abbrev pub band_step : PictureValue → ℕ → List ℕ
band_step p band = commands_text ((if band == 0 then [] else NextLine ∷ []) ++ band_commands p band)

below_nil : (n : ℕ) → is_nil (below n) ≡ (n == 0)
below_nil zero = refl
below_nil (suc n) = sym (ne_eqb (suc n) 0 (λ e. cc e))

pub bands-then : (p : PictureValue) (band : ℕ) → bands_above p (band + 1) ≡ bands_above p band ++ band_step p band
bands-then p band =
    ap (λ (ks : List ℕ). commands_text (join_by (band_commands p) (NextLine ∷ []) ks)) (below_then band)
    ∙ ap commands_text (join-then (band_commands p) (NextLine ∷ []) (below band) band)
    ∙ text-append (join_by (band_commands p) (NextLine ∷ []) (below band)) _
    ∙ ap (λ (t : Bool). bands_above p band ++ commands_text ((if t then [] else NextLine ∷ []) ++ band_commands p band))
    (below_nil band)

-- the text of the first registers of a band
abbrev pub registers_above : PictureValue → ℕ → ℕ → List ℕ
registers_above p band register =
    commands_text (join_by (register_commands p band) (CarriageReturn ∷ []) (filter (occurs p band) (below register)))

-- no register occurs before this one
abbrev pub is_first_of : PictureValue → ℕ → ℕ → Bool
is_first_of p band register = is_nil (filter (occurs p band) (below register))

-- the text of a register that occurs
abbrev pub next_text : PictureValue → ℕ → ℕ → Bool → List ℕ
next_text p band register is_first =
    commands_text ((if is_first then [] else CarriageReturn ∷ []) ++ register_commands p band register)

-- the text of a register, which is empty if it doesn't occur
abbrev pub register_step : PictureValue → ℕ → ℕ → List ℕ
register_step p band register =
    if occurs p band register then next_text p band register (is_first_of p band register) else []

registers_step : (p : PictureValue) (band register : ℕ) (t : Bool)
    → commands_text (join_by (register_commands p band) (CarriageReturn ∷ [])
    (filter (occurs p band) (below register) ++ cond t (register ∷ []) []))
    ≡ registers_above p band register ++ (if t then next_text p band register (is_first_of p band register) else [])
registers_step p band register true =
    ap commands_text (join-then (register_commands p band) (CarriageReturn ∷ [])
    (filter (occurs p band) (below register)) register)
    ∙ text-append (join_by (register_commands p band) (CarriageReturn ∷ []) (filter (occurs p band) (below register))) _
registers_step p band register false =
    ap (λ (ks : List ℕ). commands_text (join_by (register_commands p band) (CarriageReturn ∷ []) ks))
    (append-nil (filter (occurs p band) (below register)))
    ∙ sym (append-nil (registers_above p band register))

filter_then : (p : PictureValue) (band register : ℕ)
    → filter (occurs p band) (below (register + 1))
    ≡ filter (occurs p band) (below register) ++ cond (occurs p band register) (register ∷ []) []
filter_then p band register =
    ap (filter (occurs p band)) (below_then register) ∙ filter-append (occurs p band) (below register) (register ∷ [])

pub registers-then : (p : PictureValue) (band register : ℕ)
    → registers_above p band (register + 1) ≡ registers_above p band register ++ register_step p band register
registers-then p band register =
    ap (λ (ks : List ℕ). commands_text (join_by (register_commands p band) (CarriageReturn ∷ []) ks))
    (filter_then p band register)
    ∙ registers_step p band register (occurs p band register)

first_step : (xs : List ℕ) (x : ℕ) → is_nil (xs ++ x ∷ []) ≡ false
first_step [] x = refl
first_step (y ∷ ys) x = refl

-- after a register that occurs, the next one isn't the first
pub first-after : (p : PictureValue) (band register : ℕ) → occurs p band register ≡ true
    → false ≡ is_first_of p band (register + 1)
first-after p band register h =
    sym (ap is_nil (filter_then p band register)
    ∙ ap (λ (t : Bool). is_nil (filter (occurs p band) (below register) ++ cond t (register ∷ []) [])) h
    ∙ first_step (filter (occurs p band) (below register)) register)

-- a register that doesn't occur changes nothing
pub first-same : (p : PictureValue) (band register : ℕ) → occurs p band register ≡ false
    → is_first_of p band register ≡ is_first_of p band (register + 1)
first-same p band register h =
    sym (ap is_nil (filter_then p band register)
    ∙ ap (λ (t : Bool). is_nil (filter (occurs p band) (below register) ++ cond t (register ∷ []) [])) h
    ∙ ap is_nil (append-nil (filter (occurs p band) (below register))))

-- ---- definitions, one after another

-- the text of the definition of an entry
abbrev pub entry_step : List (Option Parts) → ℕ → List ℕ
entry_step palette register =
    commands_text (option_to_list (option_map (define_command register) (palette_at palette register)))

abbrev pub entries_above : List (Option Parts) → ℕ → List ℕ
entries_above palette register =
    commands_text (filter_map (λ r. option_map (define_command r) (palette_at palette r)) (below register))

one_option : {A : Type 0} (o : Option A) → cons_option o [] ≡ option_to_list o
one_option None = refl
one_option (Some x) = refl

pub entries-then : (palette : List (Option Parts)) (register : ℕ)
    → entries_above palette (register + 1) ≡ entries_above palette register ++ entry_step palette register
entries-then palette register =
    let f = λ (r : ℕ). option_map (define_command r) (palette_at palette r) in
    ap (λ (ks : List ℕ). commands_text (filter_map f ks)) (below_then register)
    ∙ ap commands_text (filter_map-append f (below register) (register ∷ []))
    ∙ text-append (filter_map f (below register)) _
    ∙ ap (λ (t : List Command). entries_above palette register ++ commands_text t) (one_option (f register))

-- ---- all of them

pub entries-all : (palette : List (Option Parts)) (n : ℕ) → length palette ≡ n
    → commands_text (define_commands palette) ≡ entries_above palette n
unfolding define_commands
entries-all palette n e = ap (entries_above palette) e

pub registers-all : (p : PictureValue) (band n : ℕ) → length p.palette ≡ n
    → commands_text (band_commands p band) ≡ registers_above p band n
unfolding band_commands band_registers
registers-all p band n e = ap (registers_above p band) e

pub bands-all : (p : PictureValue) → commands_text (picture_commands p) ≡ bands_above p (bands p)
unfolding picture_commands
bands-all p = refl

-- the text of a register that occurs
pub step-is : (p : PictureValue) (band register : ℕ) (is_first : Bool) → occurs p band register ≡ true
    → is_first ≡ is_first_of p band register → next_text p band register is_first ≡ register_step p band register
step-is p band register is_first h first =
    ap (next_text p band register) first
    ∙ ap (λ (t : Bool). if t then next_text p band register (is_first_of p band register) else []) (sym h)

-- the same, from the sixels of its columns
pub step-found : (p : PictureValue) (band register long : ℕ) (sixels : List ℕ) (is_first : Bool)
    → sixels ≡ sixels_of (padded long (all_columns p band register)) → occurs p band register ≡ true
    → is_first ≡ is_first_of p band register
    → commands_text ((if is_first then [] else CarriageReturn ∷ []) ++ (Select register ∷ sixel_commands sixels))
    ≡ register_step p band register
step-found p band register long sixels is_first found h first =
    ap (λ (t : List Command). commands_text ((if is_first then [] else CarriageReturn ∷ []) ++ t))
    (register_is p band register long sixels found)
    ∙ step-is p band register is_first h first

-- a register that doesn't occur adds no text
pub step-none : (p : PictureValue) (band register : ℕ) → occurs p band register ≡ false
    → registers_above p band register ≡ registers_above p band (register + 1)
step-none p band register h =
    sym (registers-then p band register
    ∙ ap (λ (t : Bool). registers_above p band register
    ++ (if t then next_text p band register (is_first_of p band register) else [])) h
    ∙ append-nil (registers_above p band register))

-- ---- the whole text

pub opening-parts : (p : PictureValue) → commands_text (Raster 1 1 p.width p.height ∷ define_commands p.palette)
    ≡ commands_text (Raster 1 1 p.width p.height ∷ []) ++ commands_text (define_commands p.palette)
opening-parts p = text-append (Raster 1 1 p.width p.height ∷ []) (define_commands p.palette)

pub commands-parts : (p : PictureValue) → commands_text (canon_commands p)
    ≡ commands_text (Raster 1 1 p.width p.height ∷ define_commands p.palette) ++ commands_text (picture_commands p)
unfolding canon_commands
commands-parts p = text-append (Raster 1 1 p.width p.height ∷ define_commands p.palette) (picture_commands p)

-- the start, the commands, the finish
pub canon-parts : (p : PictureValue) → canon_text p
    ≡ (fixed_spelling canon_start ++ commands_text (canon_commands p)) ++ fixed_spelling (Finish false)
unfolding canon commands_text
canon-parts p =
    ap (λ (t : List ℕ). fixed_spelling canon_start ++ t)
    (fixed_text-append (map Step (canon_commands p)) (Finish false ∷ []))
    ∙ sym (append_assoc (fixed_spelling canon_start) (fixed_text (map Step (canon_commands p)))
    (fixed_spelling (Finish false)))
