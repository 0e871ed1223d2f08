-- What holds of each event of a canonical list. No definition comes after a select.
use Rattle.std.proofs.Common.{◌≡◌, ℕ, zero, suc, ◌+◌, false, Option, Some, None, List, [], ◌∷◌, ◌++◌, map, length}
use Rattle.std.proofs.Common.{replicate, refl, subst, append_assoc}
use Rattle.std.specs.Prelude.{nat_le, flat_map}
use Rattle.std.specs.Option.{option_map}
use Rattle.std.specs.List.{join_by, cons_option, AllByRecursion}
use Rattle.std.proofs.lemmas.Bool.{cond_both}
use Rattle.std.proofs.lemmas.List.{map-append}
use Rattle.sixel_grammar.specs.declared.command.Command.{Command}
use Rattle.sixel_grammar.specs.declared.command.Command.TheVariants.{Sixel, Repeat, Select, CarriageReturn, NextLine}
use Rattle.sixel_grammar.specs.declared.command.Event.{Event}
use Rattle.sixel_grammar.specs.declared.command.Event.TheVariants.{Step, Finish}
use Rattle.sixel_grammar.proofs.PieceLemmas.{all-append}
use Rattle.sixel_model.specs.declared.colour.Parts.{Parts}
use Rattle.sixel_model.specs.declared.colour.Parts.TheVariants.{Rgb, Hls}
use Rattle.sixel_model.specs.Colours.{palette_at}
use Rattle.sixel_model.specs.Pictures.{PictureValue}
use Rattle.sixel_encode.specs.Canon.{Run, band_columns, band_commands, band_registers, bands, below, canon}
use Rattle.sixel_encode.specs.Canon.{canon_commands, canon_start, define_command, define_commands, picture_commands}
use Rattle.sixel_encode.specs.Canon.{register_commands, run_commands, runs}
use Rattle.sixel_encode_laws.proofs.LengthLemmas.{defines_from}
use Rattle.sixel_encode_laws.proofs.OpeningLemmas.{raster}
use Rattle.sixel_emulator_rules_laws.specs.Laws.{CanonDefinesFirst}
use Rattle.sixel_emulator_rules_laws.specs.Stale.{DefinesFirst}
use Rattle.sixel_emulator_rules_laws.proofs.FirstLemmas.{IsNoDefinition, IsNoSelect, parts_define_first}

-- each command holds a property
abbrev AreSo : (Event → Type 0) → List Command → Type 0
AreSo P cs = AllByRecursion (λ c. P (Step c)) cs

steps : (P : Event → Type 0) (cs : List Command) → AreSo P cs → AllByRecursion P (map Step cs)
steps P [] h = tt
steps P (c ∷ cs) h = (h.0, steps P cs h.1)

-- ---- the bands

-- the property of all commands of a picture's bands
pub record HoldsOfBands (P : Event → Type 0) : Type 0 where
  pub sixel : (bits : ℕ) → P (Step (Sixel bits))
  pub repeat : (count bits : ℕ) → P (Step (Repeat count bits))
  pub select : (register : ℕ) → P (Step (Select register))
  pub return : P (Step CarriageReturn)
  pub next_line : P (Step NextLine)

sixels_are : (P : Event → Type 0) (n b : ℕ) → HoldsOfBands P → AreSo P (replicate n (Sixel b))
sixels_are P zero b h = tt
sixels_are P (suc n) b h = (h.sixel b, sixels_are P n b h)

run_is : (P : Event → Type 0) (r : Run) → HoldsOfBands P → AreSo P (run_commands r)
run_is P r h =
    cond_both (nat_le 4 r.count) _ _ (AreSo P) (λ t. (h.repeat r.count r.item, tt)) (λ t. sixels_are P r.count r.item h)

runs_are : (P : Event → Type 0) (rs : List Run) → HoldsOfBands P → AreSo P (flat_map run_commands rs)
runs_are P [] h = tt
runs_are P (r ∷ rs) h =
    all-append (λ c. P (Step c)) (run_commands r) (flat_map run_commands rs) (run_is P r h) (runs_are P rs h)

register_is : (P : Event → Type 0) (p : PictureValue) (band r : ℕ) → HoldsOfBands P
    → AreSo P (register_commands p band r)
unfolding register_commands
register_is P p band r h = (h.select r, runs_are P (runs (band_columns p band r)) h)

rest_are : (P : Event → Type 0) (f : ℕ → List Command) (c : Command) (rs : List ℕ) → P (Step c)
    → ((r : ℕ) → AreSo P (f r)) → AreSo P (flat_map (λ r. c ∷ f r) rs)
rest_are P f c [] s h = tt
rest_are P f c (r ∷ rs) s h =
    (s, all-append (λ c. P (Step c)) (f r) (flat_map (λ r. c ∷ f r) rs) (h r) (rest_are P f c rs s h))

join_is : (P : Event → Type 0) (f : ℕ → List Command) (c : Command) (rs : List ℕ) → P (Step c)
    → ((r : ℕ) → AreSo P (f r)) → AreSo P (join_by f (c ∷ []) rs)
join_is P f c [] s h = tt
join_is P f c (r ∷ rs) s h =
    all-append (λ c. P (Step c)) (f r) (flat_map (λ r. c ∷ f r) rs) (h r) (rest_are P f c rs s h)

band_is : (P : Event → Type 0) (p : PictureValue) (band : ℕ) → HoldsOfBands P → AreSo P (band_commands p band)
unfolding band_commands
band_is P p band h =
    join_is P (register_commands p band) CarriageReturn (band_registers p band) h.return
    (λ r. register_is P p band r h)

bands_are : (P : Event → Type 0) (p : PictureValue) → HoldsOfBands P → AreSo P (picture_commands p)
unfolding picture_commands
bands_are P p h = join_is P (band_commands p) NextLine (below (bands p)) h.next_line (λ band. band_is P p band h)

-- ---- the definitions

-- the property of the definitions of a palette's colours
abbrev pub HoldsOfPalette : (Event → Type 0) → List (Option Parts) → Type 0
HoldsOfPalette P palette = (r : ℕ) (c : Parts) → palette_at palette r ≡ Some c → P (Step (define_command r c))

entry_is : (P : Event → Type 0) (r : ℕ) (o : Option Parts) (rest : List Command)
    → ((c : Parts) → o ≡ Some c → P (Step (define_command r c))) → AreSo P rest
    → AreSo P (cons_option (option_map (define_command r) o) rest)
entry_is P r None rest each h = h
entry_is P r (Some colour) rest each h = (each colour refl, h)

entries_are : (P : Event → Type 0) (n a : ℕ) (palette : List (Option Parts)) → HoldsOfPalette P palette
    → AreSo P (defines_from palette a n)
entries_are P zero a palette each = tt
entries_are P (suc n) a palette each =
    entry_is P a (palette_at palette a) (defines_from palette (a + 1) n) (λ c is. each a c is)
    (entries_are P n (a + 1) palette each)

definitions_are : (P : Event → Type 0) (p : PictureValue) → HoldsOfPalette P p.palette
    → AreSo P (define_commands p.palette)
unfolding define_commands
definitions_are P p each = entries_are P (length p.palette) 0 p.palette each

-- ---- the whole

-- the start, the raster attributes and the definitions
abbrev pub opening : PictureValue → List Event
opening p = canon_start ∷ raster p ∷ map Step (define_commands p.palette)

-- the bands and the finish
abbrev pub closing : PictureValue → List Event
closing p = map Step (picture_commands p) ++ Finish false ∷ []

pub opening_is : (P : Event → Type 0) (p : PictureValue) → P canon_start → P (raster p) → HoldsOfPalette P p.palette
    → AllByRecursion P (opening p)
opening_is P p start box each = (start, (box, steps P (define_commands p.palette) (definitions_are P p each)))

pub closing_is : (P : Event → Type 0) (p : PictureValue) → HoldsOfBands P → P (Finish false)
    → AllByRecursion P (closing p)
closing_is P p h end =
    all-append P (map Step (picture_commands p)) (Finish false ∷ []) (steps P (picture_commands p) (bands_are P p h))
    (end, tt)

pub canon_is : (p : PictureValue) → opening p ++ closing p ≡ canon p
unfolding canon canon_commands
canon_is p =
    rw (map-append Step (define_commands p.palette) (picture_commands p))
    (rw (append_assoc (map Step (define_commands p.palette)) (map Step (picture_commands p)) (Finish false ∷ [])) refl)

-- ---- definitions come first

colour_selects : (r : ℕ) (c : Parts) → IsNoSelect (Step (define_command r c))
colour_selects r (Rgb x y z) = refl
colour_selects r (Hls x y z) = refl

bands_define_nothing : HoldsOfBands IsNoDefinition
bands_define_nothing = record {
  sixel = λ bits. refl;
  repeat = λ count bits. refl;
  select = λ register. refl;
  return = refl;
  next_line = refl;
}

pub canon_defines_first : CanonDefinesFirst
canon_defines_first p =
    subst DefinesFirst (canon_is p)
    (parts_define_first (opening p) (closing p)
    (opening_is IsNoSelect p refl refl (λ r c is. colour_selects r c))
    (closing_is IsNoDefinition p bands_define_nothing refl))
