-- Lemmas for a run of `show`.
use Rattle.std.proofs.Common.{◌≡◌, ◌∙◌, ℕ, ◌+◌, Bool, true, false, List, [], ◌∷◌, ◌++◌, map, take, drop, arith, refl}
use Rattle.std.proofs.Common.{sym, ap, ap₂, subst, inl, inr, length, ◌*◌}
use Rattle.std.specs.Prelude.{Result, Ok, Err, IsTrue, IsFalse, if◌then◌else◌}
use Rattle.std.specs.Io.KnownBytes.{Appends}
use Rattle.std.specs.List.{range_with_len}
use Rattle.std.proofs.lemmas.List.{take-append-drop}
use Rattle.std.proofs.lemmas.List.FromFn.{map-range_with_len_more}
use Rattle.sixel_grammar.specs.declared.command.Event.{Event}
use Rattle.sixel_grammar.specs.declared.command.Placed.{Placed}
use Rattle.sixel_grammar.specs.declared.fault.Fault.{Fault}
use Rattle.sixel_grammar.specs.Faults.{IsFaultOf}
use Rattle.sixel_grammar.specs.Document.{Document, events_of}
use Rattle.sixel_grammar.proofs.TotalLemmas.{judged}
use Rattle.sixel_grammar.proofs.UniqueLemmas.{document_once, fault_no_document, fault_once}
use Rattle.sixel_model.specs.declared.colour.Parts.{Parts}
use Rattle.sixel_model.proofs.GridLemmas.{length_rows}
use Rattle.sixel_ppm.specs.Ppm.{are_rgb, is_file_side, ppm_text}
use Rattle.sixel_screen.specs.Whole.{IsWhole}
use Rattle.sixel_terminal.specs.declared.choices.Choices.{Choices}
use Rattle.sixel_terminal.specs.Displays.{Display}
use Rattle.sixel_terminal.specs.Drawing.{screen_on, shown_on}
use Rattle.sixel_terminal.specs.Screens.{IsScreenAfter, Shown as Screen}
use Rattle.sixel_report.specs.declared.fault.RunFault.{RunFault}
use Rattle.sixel_report.specs.declared.fault.RunFault.TheVariants.{Grammar, NotRgb, Write}
use Rattle.sixel_report.specs.declared.task.Status.{Status}
use Rattle.sixel_report.specs.declared.task.PictureFormat.{PictureFormat}
use Rattle.sixel_report.specs.declared.task.PictureFormat.TheVariants.{Ppm}
use Rattle.sixel_report.proofs.FormatLemmas.{as_unwritten, as_written}
use Rattle.sixel_show.specs.Outputs.{ShowGives}
use Rattle.sixel_report.specs.Outputs.{WritesFile, WroteBy, WroteNothing, WrotePicture}
use Rattle.sixel_model.specs.declared.profile.Profile.{Profile}
use Rattle.sixel_show.specs.Notes.{shown_status}
use Rattle.sixel_show.specs.Screens.{grey, percent_at, screen_text, show_terminal}
use Rattle.sixel_report.specs.Texts.{Text, BeginsWith}
use Rattle.sixel_io.specs.Devices.{SinkState}
use Rattle.sixel_report.proofs.OutputLemmas.{both_are, nothing-written}

pub not-both : (b c : Bool) → b ≡ c → IsTrue b → IsFalse c → ⊥
not-both b c e p q = let bad : true ≡ false = sym p ∙ e ∙ q in cc

-- the screen after a document, or none if some colour on it isn't RGB
of_document : (profile : Profile) (t : Display) (bytes : List ℕ) (d : List Placed) → Document d bytes → (rgb : Bool)
    → are_rgb (screen_on t (events_of d)) ≡ rgb → (text : Text) (a : Result Status RunFault)
    → ShowGives profile t bytes text a
    → (text ≡ if rgb then screen_text t (events_of d) else [])
    × (a ≡ if rgb then Ok (shown_status profile (events_of d)) else Err NotRgb)
of_document profile t bytes d doc true e text (Ok s) g =
    let same = document_once bytes g.0 d g.1 doc in (
      g.3 ∙ ap (λ (es : List Placed). screen_text t (events_of es)) same,
      ap (λ (s : Status). Ok s) (g.4 ∙ ap (λ (es : List Placed). shown_status profile (events_of es)) same),
    )
of_document profile t bytes d doc false e text (Ok s) g = absurd (not-both _ _
    (ap (λ es. are_rgb (screen_on t (events_of es))) (document_once bytes g.0 d g.1 doc)) g.2 e)
of_document profile t bytes d doc true e text (Err NotRgb) g = absurd (not-both _ _
    (ap (λ es. are_rgb (screen_on t (events_of es))) (document_once bytes d g.1.0 doc g.1.1)) e g.1.2)
of_document profile t bytes d doc false e text (Err NotRgb) g = (g.0, refl)
of_document profile t bytes d doc rgb e text (Err (Grammar f)) g = absurd (fault_no_document bytes f g.1 (d, doc))
of_document profile t bytes d doc rgb e text (Err other) g = absurd g

-- the fault of other bytes
of_fault : (profile : Profile) (t : Display) (bytes : List ℕ) (f : Fault) → IsFaultOf bytes f → (text : Text)
    (a : Result Status RunFault) → ShowGives profile t bytes text a → (text ≡ []) × (a ≡ Err (Grammar f))
of_fault profile t bytes f is text (Ok s) g = absurd (fault_no_document bytes f is (g.0, g.1))
of_fault profile t bytes f is text (Err NotRgb) g = absurd (fault_no_document bytes f is (g.1.0, g.1.1))
of_fault profile t bytes f is text (Err (Grammar e)) g =
    (g.0, ap (λ (k : Fault). Err (Grammar k)) (fault_once bytes e f g.1 is))
of_fault profile t bytes f is text (Err other) g = absurd g

pub show-once : (profile : Profile) (t : Display) (bytes : List ℕ) (first second : Text)
    (a b : Result Status RunFault) → ShowGives profile t bytes first a → ShowGives profile t bytes second b
    → (first ≡ second) × (a ≡ b)
show-once profile t bytes first second a b g h = elim (judged bytes) [
  | inl d ↦
      let gives = of_document profile t bytes d.0 d.1 (are_rgb (screen_on t (events_of d.0))) refl in
      both_are first second a b (gives first a g) (gives second b h)
  | inr f ↦
      let gives = of_fault profile t bytes f.0 f.1 in both_are first second a b (gives first a g) (gives second b h)
]

shown : (profile : Profile) (t : Display) (bytes : List ℕ) (d : List Placed) → Document d bytes → (b : Bool)
    → are_rgb (screen_on t (events_of d)) ≡ b
    → (text : Text) × (answer : Result Status RunFault) × ShowGives profile t bytes text answer
shown profile t bytes d doc true e =
    (screen_text t (events_of d), Ok (shown_status profile (events_of d)), (d, doc, e, refl, refl))
shown profile t bytes d doc false e = ([], Err NotRgb, (refl, (d, doc, e)))

pub show-gives : (profile : Profile) (t : Display) (bytes : List ℕ)
    → (text : Text) × (answer : Result Status RunFault) × ShowGives profile t bytes text answer
show-gives profile t bytes =
    elim (judged bytes) [
      | inl d ↦ shown profile t bytes d.0 d.1 (are_rgb (screen_on t (events_of d.0))) refl
      | inr f ↦ ([], Err (Grammar f.0), (refl, f.1))
    ]

-- ---- the terminal

-- one more register
pub greys_more : (profile : Profile) (n : ℕ)
    → map (λ k. grey (percent_at profile k)) (range_with_len 0 (n + 1))
    ≡ map (λ k. grey (percent_at profile k)) (range_with_len 0 n) ++ grey (percent_at profile n) ∷ []
greys_more profile n = map-range_with_len_more (λ k. grey (percent_at profile k)) 0 n n (omega arith)

-- ---- the text written

-- the text is that of any answer that the document has
written-begins : (profile : Profile) (t : Display) (bytes : List ℕ) (d : List Placed) (n : ℕ) → Document d bytes
    → IsTrue (are_rgb (screen_on t (events_of d))) → (text : Text) (answer : Result Status RunFault)
    → ShowGives profile t bytes text answer → BeginsWith text (take n (screen_text t (events_of d)))
written-begins profile t bytes d n doc rgb text answer g =
    let same = (show-once profile t bytes text (screen_text t (events_of d)) answer
    (Ok (shown_status profile (events_of d))) g (d, doc, rgb, refl, refl)).0 in (
      drop n (screen_text t (events_of d)),
      same ∙ sym (take-append-drop n (screen_text t (events_of d))),
    )

ppm_written : {A : Type 0} (profile : Profile) (t : Display) (bytes : List ℕ) (d : List Placed) (status : Status)
    (had has : SinkState) (colours : List Parts) (x : A) → Document d bytes → colours ≡ screen_on t (events_of d)
    → status ≡ shown_status profile (events_of d)
    → WritesFile {A = A} Ppm (Ok x) had has t.choices.screen_width t.choices.screen_height colours
    → WroteBy (ShowGives profile t bytes) WroteNothing (Ok status) had.taken has.taken
unfolding screen_text
ppm_written profile t bytes d status had has colours x doc is noted put =
    let w = t.choices.screen_width in let h = t.choices.screen_height in (
      screen_text t (events_of d),
      (d, doc, subst (λ (cs : List Parts). IsTrue (are_rgb cs)) is put.0, refl, noted),
      subst (λ (cs : List Parts). Appends had.taken has.taken (ppm_text w h cs)) is put.1.taken,
    )

pub written : {A : Type 0} (format : PictureFormat) (profile : Profile) (t : Display) (bytes : List ℕ)
    (d : List Placed) (status : Status) (had has : SinkState) (colours : List Parts) (x : A) → Document d bytes
    → colours ≡ screen_on t (events_of d) → status ≡ shown_status profile (events_of d)
    → WritesFile {A = A} format (Ok x) had has t.choices.screen_width t.choices.screen_height colours
    → WrotePicture format (ShowGives profile t bytes) (Ok status) had.taken has.taken
written format profile t bytes d status had has colours x doc is noted put =
    as_written (ShowGives profile t bytes) WroteNothing WroteNothing format x status had has t.choices.screen_width
    t.choices.screen_height colours (λ a b. ppm_written profile t bytes d status a b colours x doc is noted) put

ppm_unwritten : (A : Type 0) (profile : Profile) (t : Display) (bytes : List ℕ) (d : List Placed) (had has : SinkState)
    (colours : List Parts) (fault : RunFault) → Document d bytes → colours ≡ screen_on t (events_of d)
    → WritesFile {A = A} Ppm (Err fault) had has t.choices.screen_width t.choices.screen_height colours
    → WroteBy (ShowGives profile t bytes) WroteNothing (Err fault) had.taken has.taken
unfolding screen_text
ppm_unwritten A profile t bytes d had has colours Write doc is put =
    let w = t.choices.screen_width in let h = t.choices.screen_height in
    let rgb = subst (λ (cs : List Parts). IsTrue (are_rgb cs)) is put.0 in (
      take put.1.taken.0 (screen_text t (events_of d)),
      subst (λ (cs : List Parts). Appends had.taken has.taken (take put.1.taken.0 (ppm_text w h cs))) is put.1.taken.1,
      written-begins profile t bytes d put.1.taken.0 doc rgb,
    )
ppm_unwritten A profile t bytes d had has colours NotRgb doc is put = (
  [],
  (refl, (d, doc, subst (λ (cs : List Parts). IsFalse (are_rgb cs)) is put.0)),
  nothing-written had has put.1,
)
ppm_unwritten A profile t bytes d had has colours _ doc is put = absurd put

pub unwritten : (A : Type 0) (format : PictureFormat) (profile : Profile) (t : Display) (bytes : List ℕ)
    (d : List Placed) (had has : SinkState) (colours : List Parts) (fault : RunFault) → Document d bytes
    → colours ≡ screen_on t (events_of d)
    → WritesFile {A = A} format (Err fault) had has t.choices.screen_width t.choices.screen_height colours
    → WrotePicture format (ShowGives profile t bytes) (Err fault) had.taken has.taken
unwritten A format profile t bytes d had has colours fault doc is put =
    as_unwritten (ShowGives profile t bytes) WroteNothing WroteNothing A format fault had has t.choices.screen_width
    t.choices.screen_height colours (λ a b. ppm_unwritten A profile t bytes d a b colours fault doc is) put

-- ---- the sides

-- a screen with sides in range has the pixels of its sides
pub whole_after : (t : Display) (screen : Screen) (events : List Event) → IsScreenAfter t screen events
    → IsTrue (is_file_side t.choices.screen_width) → IsTrue (is_file_side t.choices.screen_height) → IsWhole screen
unfolding screen_on
whole_after t screen events is wide high = record {
  wide = subst (λ (n : ℕ). IsTrue (is_file_side n)) (sym is.width) wide;
  high = subst (λ (n : ℕ). IsTrue (is_file_side n)) (sym is.height) high;
  pixels = ap (λ (cs : List Parts). length cs) is.colours
      ∙ length_rows t.choices.screen_width t.choices.screen_height (shown_on t events)
      ∙ ap₂ (λ (w h : ℕ). w * h) (sym is.width) (sym is.height);
}

-- the terminal has the sides that are chosen
pub show_sides : (profile : Profile) (choices : Choices) → (show_terminal profile choices).choices ≡ choices
unfolding show_terminal
show_sides profile choices = refl
