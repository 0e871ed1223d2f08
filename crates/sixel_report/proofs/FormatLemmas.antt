-- What holds of a PPM that is written holds of a PNG.
use Rattle.std.proofs.Common.{◌≡◌, ◌∙◌, ◌++◌, ◌⊎◌, ◌↔◌, ℕ, List, [], Option, Some, None, refl, sym, inl, inr, false, length, take}
use Rattle.std.specs.Prelude.{Result, Ok, Err, IfSome}
use Rattle.std.proofs.Math.Seq.{take-length}
use Rattle.std.specs.Io.KnownBytes.{Appends}
use Rattle.std.specs.List.{flat_map}
use Rattle.sixel_io.specs.Devices.{SinkState, Writes, one_more}
use Rattle.sixel_io.proofs.SinkLemmas.{Appends-none}
use Rattle.sixel_grammar.specs.declared.fault.Fault.{Fault}
use Rattle.sixel_grammar.specs.declared.fault.InputFault.{InputFault}
use Rattle.sixel_grammar.specs.declared.fault.InputFault.TheVariants as input
use Rattle.sixel_grammar.specs.Faults.{IsFaultOf}
use Rattle.sixel_grammar.specs.Reading.{Explains}
use Rattle.sixel_model.specs.declared.colour.Parts.{Parts}
use Rattle.sixel_ppm.specs.Ppm.{ppm_header, ppm_text, samples_of}
use Rattle.sixel_png.specs.Png.{IsPng}
use Rattle.sixel_png.specs.Writing.{WritesOnePng, levels_of}
use Rattle.sixel_report.specs.declared.fault.RunFault.{RunFault}
use Rattle.sixel_report.specs.declared.fault.RunFault.TheVariants.{Grammar, NotRgb, OutOfMemory, Read, Write}
use Rattle.sixel_report.specs.declared.task.PictureFormat.{PictureFormat}
use Rattle.sixel_report.specs.declared.task.PictureFormat.TheVariants.{Ppm, Png}
use Rattle.sixel_report.specs.declared.task.Status.{Status}
use Rattle.sixel_report.specs.Conversions.{of_input}
use Rattle.sixel_report.specs.Outputs.{GivesAs, IsPngFor, IsPngOf, PutsText, WritesFile, WroteAs, WroteNothing, WroteWith}
use Rattle.sixel_report.specs.Texts.{Text}
use Rattle.sixel_report.proofs.OutputLemmas.{nothing-written}

puts_nothing : (answer : Result Status RunFault) (had has : Option (List ℕ)) → Appends had has []
    → PutsText answer had has []
puts_nothing (Err Write) had has put = (0, put)
puts_nothing answer had has put = put

-- what a PPM of these colours says, a PNG with their levels does
png_of : (width height : ℕ) (colours : List Parts) (png : Text) → IsPng png width height (levels_of colours)
    → IsPngOf (ppm_text width height colours) png
unfolding ppm_text
png_of width height colours png is =
    record { width = width; height = height; samples = flat_map samples_of colours; ppm_is = refl; png_is = is }

-- an empty sink, and one that took this
abbrev empty : SinkState
empty = record { taken = Some []; failures = 0; is_flushed = false }

abbrev with_text : ℕ → Text → SinkState
with_text failures text = record { taken = Some text; failures = failures; is_flushed = false }

whole_put : {A E : Type 0} (x : A) (text : Text) → Writes {A = A} {E = E} (Ok x) empty (with_text 0 text) text
whole_put x text = record { taken = refl; failures = refl; unflushed = λ is. is; held = λ some. refl }

whole_cut : {A E : Type 0} (e : E) (text : Text)
    → Writes {A = A} {E = E} (Err e) empty (with_text (one_more 0) text) text
whole_cut e text =
    record { taken = (length text, sym (take-length text)); failures = refl; unflushed = λ is. is; held = tt }

-- ---- what was written

module _ (gives : Text → Result Status RunFault → Type 0) (unread before : Option (List ℕ) → Option (List ℕ) → Type 0)
  where
    -- nothing
    pub as_nothing : (format : PictureFormat) (answer : Result Status RunFault) (had : Option (List ℕ))
        → ((same : Option (List ℕ)) → WroteWith gives unread before answer same same)
        → WroteAs format gives unread before answer had had
    as_nothing Ppm answer had w = w had
    as_nothing Png answer had w =
        ([], w (Some []), ([], inl (refl, refl), puts_nothing answer had had (Appends-none had)))

    -- a file
    pub as_written : {A : Type 0} (format : PictureFormat) (x : A) (status : Status) (old new : SinkState)
        (width height : ℕ) (colours : List Parts)
        → ((had has : SinkState) → WritesFile {A = A} Ppm (Ok x) had has width height colours
        → WroteWith gives unread before (Ok status) had.taken has.taken)
        → WritesFile {A = A} format (Ok x) old new width height colours
        → WroteAs format gives unread before (Ok status) old.taken new.taken
    as_written Ppm x status old new width height colours w put = w old new put
    as_written Png x status old new width height colours w put =
        let ppm : Text = ppm_text width height colours in (
          ppm,
          w empty (with_text 0 ppm) (put.0, whole_put x ppm),
          (put.1.text, inr (png_of width height colours put.1.text put.1.png), put.1.written.taken),
        )

    -- a prefix of one, or nothing
    pub as_unwritten : (A : Type 0) (format : PictureFormat) (fault : RunFault) (old new : SinkState) (width height : ℕ)
        (colours : List Parts)
        → ((had has : SinkState) → WritesFile {A = A} Ppm (Err fault) had has width height colours
        → WroteWith gives unread before (Err fault) had.taken has.taken)
        → WritesFile {A = A} format (Err fault) old new width height colours
        → WroteAs format gives unread before (Err fault) old.taken new.taken
    as_unwritten A Ppm fault old new width height colours w put = w old new put
    as_unwritten A Png Write old new width height colours w put =
        let ppm : Text = ppm_text width height colours in (
          ppm,
          w empty (with_text (one_more 0) ppm) (put.0, whole_cut Write ppm),
          (put.1.text, inr (png_of width height colours put.1.text put.1.png), put.1.written.taken),
        )
    as_unwritten A Png NotRgb old new width height colours w put =
        ([], w empty empty (put.0, refl), ([], inl (refl, refl), nothing-written old new put.1))
    as_unwritten A Png _ old new width height colours w put = absurd put

-- what is known of the PPM of one task is known of the PNG
pub as_mapped : (gives others : Text → Result Status RunFault → Type 0)
    (unread before later earlier : Option (List ℕ) → Option (List ℕ) → Type 0) (format : PictureFormat)
    (answer : Result Status RunFault) (old new : Option (List ℕ))
    → ((had has : Option (List ℕ)) → WroteWith gives unread before answer had has
    → WroteWith others later earlier answer had has)
    → WroteAs format gives unread before answer old new → WroteAs format others later earlier answer old new
as_mapped gives others unread before later earlier Ppm answer old new f w = f old new w
as_mapped gives others unread before later earlier Png answer old new f w = (w.0, f (Some []) (Some w.0) w.1, w.2)

-- a document wasn't read to its end
refused_as : (format : PictureFormat) (gives : Text → Result Status RunFault → Type 0) (bytes : List ℕ)
    (fault : InputFault) (had : Option (List ℕ)) → ((f : Fault) → IsFaultOf bytes f → gives [] (Err (Grammar f)))
    → Explains fault bytes → WroteAs format gives WroteNothing WroteNothing (Err (of_input fault)) had had
refused_as format gives bytes (input.Grammar f) had given is =
    as_nothing gives WroteNothing WroteNothing format (Err (Grammar f)) had (λ same. ([], given f is, Appends-none same))
refused_as format gives bytes input.OutOfMemory had given is =
    as_nothing gives WroteNothing WroteNothing format (Err OutOfMemory) had Appends-none
refused_as format gives bytes input.Read had given is =
    as_nothing gives WroteNothing WroteNothing format (Err Read) had Appends-none

pub as_refused : (format : PictureFormat) (gives : List ℕ → Text → Result Status RunFault → Type 0)
    (a : Option (List ℕ)) (fault : InputFault) (had : Option (List ℕ))
    → ((bytes : List ℕ) (f : Fault) → IsFaultOf bytes f → gives bytes [] (Err (Grammar f))) → IfSome a (Explains fault)
    → IfSome a (λ bytes. WroteAs format (gives bytes) WroteNothing WroteNothing (Err (of_input fault)) had had)
as_refused format gives None fault had given is = tt
as_refused format gives (Some bytes) fault had given is =
    refused_as format (gives bytes) bytes fault had (given bytes) is

-- what the PPM would be
pub as_text : (gives : Text → Result Status RunFault → Type 0)
    (unread before : Option (List ℕ) → Option (List ℕ) → Type 0) (format : PictureFormat)
    (answer : Result Status RunFault) (had has : Option (List ℕ)) → WroteAs format gives unread before answer had has
    → (b : Option (List ℕ)) × (e : Option (List ℕ)) × WroteWith gives unread before answer b e
as_text gives unread before Ppm answer had has w = (had, has, w)
as_text gives unread before Png answer had has w = (Some [], Some w.0, w.1)

-- ---- what is given

pub as_same : (gives others : Text → Result Status RunFault → Type 0) (format : PictureFormat)
    → ((text : Text) (answer : Result Status RunFault) → gives text answer ↔ others text answer)
    → (text : Text) (answer : Result Status RunFault) → GivesAs format gives text answer ↔ GivesAs format others text answer
as_same gives others Ppm same text answer = same text answer
as_same gives others Png same text answer =
    (λ g. (g.0, (same g.0 answer).0 g.1, g.2), λ g. (g.0, (same g.0 answer).1 g.1, g.2))
