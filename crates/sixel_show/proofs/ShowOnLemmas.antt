-- Lemmas for a run of `show --on`.
use Rattle.std.proofs.Common.{◌≡◌, ◌≢◌, ◌∙◌, ℕ, Bool, true, false, List, [], take, drop, Option}
use Rattle.std.proofs.Common.{Some, None, refl, sym, ap, ap₂, subst, inl, inr}
use Rattle.std.specs.Prelude.{Result, Ok, Err, IfSome, IsTrue, if◌then◌else◌}
use Rattle.std.proofs.lemmas.List.{take-append-drop}
use Rattle.sixel_io.specs.Devices.{SinkState}
use Rattle.sixel_io.proofs.SinkLemmas.{Appends-none}
use Rattle.sixel_grammar.specs.declared.command.Event.{Event}
use Rattle.sixel_grammar.specs.declared.command.Placed.{Placed}
use Rattle.sixel_grammar.specs.declared.fault.Fault.{Fault}
use Rattle.sixel_grammar.specs.declared.fault.InputFault.{InputFault}
use Rattle.sixel_grammar.specs.declared.fault.InputFault.TheVariants as input
use Rattle.sixel_grammar.specs.Document.{Document, events_of}
use Rattle.sixel_grammar.specs.Faults.{IsFaultOf}
use Rattle.sixel_grammar.specs.Reading.{Explains}
use Rattle.sixel_grammar.proofs.TotalLemmas.{judged}
use Rattle.sixel_grammar.proofs.UniqueLemmas.{document_once, fault_no_document, fault_once}
use Rattle.sixel_model.specs.declared.colour.Parts.{Parts}
use Rattle.sixel_ppm.specs.Ppm.{are_rgb, is_file_side, ppm_text}
use Rattle.sixel_screen.specs.Whole.{IsWhole}
use Rattle.sixel_terminal.specs.Screens.{Shown}
use Rattle.sixel_named_terminals.specs.declared.named.Named.{Named}
use Rattle.sixel_named_terminals.specs.declared.named.Named.TheVariants.{XTerm, MlTerm, Foot, Konsole}
use Rattle.sixel_named_terminals.specs.declared.showing.ShowFault.{ShowFault}
use Rattle.sixel_named_terminals.specs.declared.showing.ShowFault.TheVariants as show
use Rattle.sixel_emulator.specs.Modelled.{EndsAtPlace}
use Rattle.sixel_named_terminals.specs.Named.{GivesScreen, IsScreenOn, ShowsDocument, ShowsOn, heard_on, model_of, terminal_on}
use Rattle.sixel_emulator.specs.Readings.{EndsAt, IsSaid}
use Rattle.sixel_named_terminals.proofs.NamedLemmas.{ends_somewhere, one_end, said_does_not_end}
use Rattle.sixel_named_terminals.proofs.NamedLemmas.{said_or_ends, screen_once, shows_or_ends}
use Rattle.sixel_report.specs.declared.fault.RunFault.{RunFault}
use Rattle.sixel_report.specs.declared.fault.RunFault.TheVariants.{Grammar, NotRgb, NoBox, OutOfMemory, Read, Unmodelled, Write}
use Rattle.sixel_report.specs.declared.task.Area.{Area}
use Rattle.sixel_report.specs.declared.task.Status.{Status}
use Rattle.sixel_report.specs.declared.task.Status.TheVariants.{Done}
use Rattle.sixel_report.specs.declared.task.PictureFormat.{PictureFormat}
use Rattle.sixel_report.specs.declared.task.PictureFormat.TheVariants.{Ppm}
use Rattle.sixel_report.specs.Conversions.{of_input, of_show}
use Rattle.sixel_report.proofs.FormatLemmas.{as_nothing, as_unwritten, as_written}
use Rattle.sixel_show.specs.NamedScreens.{ShowsIn, ShowsRead}
use Rattle.sixel_show.specs.Outputs.{ShowOnGives, sides_in}
use Rattle.sixel_report.specs.Outputs.{HasSidesIn, WritesFile, WroteBy, WroteNothing, WrotePicture, failures_by}
use Rattle.sixel_report.specs.Texts.{Text, BeginsWith}
use Rattle.sixel_report.proofs.OutputLemmas.{both_are, nothing-written}
use Rattle.sixel_show.proofs.BoxLemmas.{declared_sides}
use Rattle.sixel_show.proofs.ScreenLemmas.{not-both, whole_after}
use Rattle.sixel_report.specs.declared.task.Area.TheVariants as area

abbrev Sides : Type 0
Sides = ℕ × ℕ

-- ---- the document, read in another way

moved_end : (named : Named) (bytes : List ℕ) (d e : List Placed) (place : ℕ) → Document d bytes → Document e bytes
    → EndsAtPlace (model_of named) (heard_on named bytes e) place
    → EndsAtPlace (model_of named) (heard_on named bytes d) place
moved_end named bytes d e place p q is =
    subst (λ (l : List Placed). EndsAtPlace (model_of named) (heard_on named bytes l) place)
    (document_once bytes e d q p) is

moved_said : (named : Named) (bytes : List ℕ) (d e : List Placed) → Document d bytes → Document e bytes
    → IsSaid (model_of named) (events_of (heard_on named bytes e))
    → IsSaid (model_of named) (events_of (heard_on named bytes d))
moved_said named bytes d e p q is =
    subst (λ (l : List Placed). IsSaid (model_of named) (events_of (heard_on named bytes l)))
    (document_once bytes e d q p) is

said_and_ends : (named : Named) (bytes : List ℕ) (d e : List Placed) (place : ℕ) → Document d bytes → Document e bytes
    → EndsAtPlace (model_of named) (heard_on named bytes d) place
    → IsSaid (model_of named) (events_of (heard_on named bytes e)) → ⊥
said_and_ends named bytes d e place p q ends said =
    said_does_not_end (model_of named) (events_of (heard_on named bytes d)) ends.at
    (moved_said named bytes d e p q said) ends.ends

moved_sides : (area : Area) (bytes : List ℕ) (d e : List Placed) (o : Option Sides) → Document d bytes
    → Document e bytes → sides_in area (events_of e) ≡ o → sides_in area (events_of d) ≡ o
moved_sides area bytes d e o p q is =
    subst (λ (l : List Placed). sides_in area (events_of l) ≡ o) (document_once bytes e d q p) is

sides_or_none : (area : Area) (bytes : List ℕ) (d e : List Placed) (sides : Sides) → Document d bytes
    → Document e bytes → sides_in area (events_of d) ≡ None → sides_in area (events_of e) ≡ Some sides → ⊥
sides_or_none area bytes d e sides p q none is =
    let whole : None ≡ Some sides = sym none ∙ moved_sides area bytes d e (Some sides) p q is in cc

one_screen : (named : Named) (background : Parts) (area : Area) (bytes : List ℕ) (d e : List Placed) (a b : Sides)
    (screen other : Shown) → Document d bytes → Document e bytes → sides_in area (events_of d) ≡ Some a
    → sides_in area (events_of e) ≡ Some b → IsScreenOn named background a (events_of (heard_on named bytes d)) screen
    → IsScreenOn named background b (events_of (heard_on named bytes e)) other → (b ≡ a) × (other ≡ screen)
one_screen named background area bytes d e a b screen other p q is are on there =
    let whole : Some b ≡ Some a = sym (moved_sides area bytes d e (Some b) p q are) ∙ is in
    let same : b ≡ a = cc in
    let here : IsScreenOn named background b (events_of (heard_on named bytes d)) other =
    subst (λ (l : List Placed). IsScreenOn named background b (events_of (heard_on named bytes l)) other) (document_once bytes e d q p) there in
    let now : IsScreenOn named background a (events_of (heard_on named bytes d)) other =
    subst (λ (s : Sides). IsScreenOn named background s (events_of (heard_on named bytes d)) other) same here in
    (same, screen_once named background a (events_of (heard_on named bytes d)) other screen now on)

-- ---- at most one output

-- the output of a document at which the model ends
of_ended : (named : Named) (background : Parts) (area : Area) (bytes : List ℕ) (d : List Placed) (place : ℕ)
    → Document d bytes → EndsAtPlace (model_of named) (heard_on named bytes d) place → (text : Text) (a : Result Status RunFault)
    → ShowOnGives named background area bytes text a → (text ≡ []) × (a ≡ Err (Unmodelled place))
of_ended named background area bytes d place doc is text (Ok s) g =
    absurd (said_and_ends named bytes d g.0 place doc g.1 is g.2.2.1.said)
of_ended named background area bytes d place doc is text (Err NotRgb) g =
    absurd (said_and_ends named bytes d g.1.0 place doc g.1.1 is g.1.2.2.1.said)
of_ended named background area bytes d place doc is text (Err (Unmodelled p)) g = (
  g.0,
  ap (λ (k : ℕ). Err (Unmodelled k)) (one_end (model_of named) (heard_on named bytes d) p place
      (moved_end named bytes d g.1.0 p doc g.1.1 g.1.2) is),
)
of_ended named background area bytes d place doc is text (Err NoBox) g =
    absurd (said_and_ends named bytes d g.1.0 place doc g.1.1 is g.1.2)
of_ended named background area bytes d place doc is text (Err (Grammar f)) g =
    absurd (fault_no_document bytes f g.1 (d, doc))
of_ended named background area bytes d place doc is text (Err other) g = absurd g

-- the output of a document of which the model says all, if no screen has the sides
of_unsized : (named : Named) (background : Parts) (area : Area) (bytes : List ℕ) (d : List Placed) → Document d bytes
    → IsSaid (model_of named) (events_of (heard_on named bytes d)) → sides_in area (events_of d) ≡ None → (text : Text)
    (a : Result Status RunFault) → ShowOnGives named background area bytes text a → (text ≡ []) × (a ≡ Err NoBox)
of_unsized named background area bytes d doc said none text (Ok s) g =
    absurd (sides_or_none area bytes d g.0 g.2.0 doc g.1 none g.2.1)
of_unsized named background area bytes d doc said none text (Err NotRgb) g =
    absurd (sides_or_none area bytes d g.1.0 g.1.2.0 doc g.1.1 none g.1.2.1)
of_unsized named background area bytes d doc said none text (Err (Unmodelled p)) g =
    absurd (said_and_ends named bytes g.1.0 d p g.1.1 doc g.1.2 said)
of_unsized named background area bytes d doc said none text (Err NoBox) g = (g.0, refl)
of_unsized named background area bytes d doc said none text (Err (Grammar f)) g =
    absurd (fault_no_document bytes f g.1 (d, doc))
of_unsized named background area bytes d doc said none text (Err other) g = absurd g

-- the output of a document with a screen
of_screen : (named : Named) (background : Parts) (area : Area) (bytes : List ℕ) (d : List Placed) (sides : Sides)
    (screen : Shown) → Document d bytes → sides_in area (events_of d) ≡ Some sides
    → IsScreenOn named background sides (events_of (heard_on named bytes d)) screen → (rgb : Bool) → are_rgb screen.colours ≡ rgb
    → (text : Text) (a : Result Status RunFault) → ShowOnGives named background area bytes text a
    → (text ≡ if rgb then ppm_text sides.0 sides.1 screen.colours else [])
    × (a ≡ if rgb then Ok Done else Err NotRgb)
of_screen named background area bytes d sides screen doc is on true e text (Ok s) g =
    let same = one_screen named background area bytes d g.0 sides g.2.0 screen g.2.2.0 doc g.1 is g.2.1 on g.2.2.1 in (
      g.2.2.3 ∙ ap₂ (λ (s : Sides) (w : Shown). ppm_text s.0 s.1 w.colours) same.0 same.1,
      ap (λ (s : Status). Ok s) g.2.2.4,
    )
of_screen named background area bytes d sides screen doc is on false e text (Ok s) g =
    let same = one_screen named background area bytes d g.0 sides g.2.0 screen g.2.2.0 doc g.1 is g.2.1 on g.2.2.1 in
    absurd (not-both _ _ (ap (λ (w : Shown). are_rgb w.colours) same.1) g.2.2.2 e)
of_screen named background area bytes d sides screen doc is on true e text (Err NotRgb) g =
    let same = one_screen named background area bytes d g.1.0 sides g.1.2.0 screen g.1.2.2.0 doc g.1.1 is g.1.2.1 on
    g.1.2.2.1 in
    absurd (not-both _ _ (ap (λ (w : Shown). are_rgb w.colours) (sym same.1)) e g.1.2.2.2)
of_screen named background area bytes d sides screen doc is on false e text (Err NotRgb) g = (g.0, refl)
of_screen named background area bytes d sides screen doc is on rgb e text (Err (Unmodelled p)) g =
    absurd (said_and_ends named bytes g.1.0 d p g.1.1 doc g.1.2 on.said)
of_screen named background area bytes d sides screen doc is on rgb e text (Err NoBox) g =
    absurd (sides_or_none area bytes g.1.0 d sides g.1.1 doc g.1.3 is)
of_screen named background area bytes d sides screen doc is on rgb e text (Err (Grammar f)) g =
    absurd (fault_no_document bytes f g.1 (d, doc))
of_screen named background area bytes d sides screen doc is on rgb e text (Err other) g = absurd g

-- the output of bytes that are no document
of_fault : (named : Named) (background : Parts) (area : Area) (bytes : List ℕ) (f : Fault) → IsFaultOf bytes f
    → (text : Text) (a : Result Status RunFault) → ShowOnGives named background area bytes text a
    → (text ≡ []) × (a ≡ Err (Grammar f))
of_fault named background area bytes f is text (Ok s) g = absurd (fault_no_document bytes f is (g.0, g.1))
of_fault named background area bytes f is text (Err NotRgb) g = absurd (fault_no_document bytes f is (g.1.0, g.1.1))
of_fault named background area bytes f is text (Err (Unmodelled p)) g =
    absurd (fault_no_document bytes f is (g.1.0, g.1.1))
of_fault named background area bytes f is text (Err NoBox) g = absurd (fault_no_document bytes f is (g.1.0, g.1.1))
of_fault named background area bytes f is text (Err (Grammar e)) g =
    (g.0, ap (λ (k : Fault). Err (Grammar k)) (fault_once bytes e f g.1 is))
of_fault named background area bytes f is text (Err other) g = absurd g

-- an output, which is the only one
pub record IsOnly (named : Named) (background : Parts) (area : Area) (bytes : List ℕ) (text : Text)
    (answer : Result Status RunFault) : Type 0 where
  pub given : ShowOnGives named background area bytes text answer
  pub once : (other : Text) (a : Result Status RunFault) → ShowOnGives named background area bytes other a
      → (other ≡ text) × (a ≡ answer)

abbrev HasOnly : Named → Parts → Area → List ℕ → Type 0
HasOnly named background area bytes =
    (text : Text) × (answer : Result Status RunFault) × IsOnly named background area bytes text answer

only_ended : (named : Named) (background : Parts) (area : Area) (bytes : List ℕ) (d : List Placed) (i : ℕ)
    → Document d bytes → EndsAt (model_of named) (events_of (heard_on named bytes d)) i → HasOnly named background area bytes
only_ended named background area bytes d i doc ends =
    let p = ends_somewhere (model_of named) (heard_on named bytes d) i ends in (
      [],
      Err (Unmodelled p.0),
      record { given = (refl, (d, doc, p.1)); once = of_ended named background area bytes d p.0 doc p.1 },
    )

only_screen : (named : Named) (background : Parts) (area : Area) (bytes : List ℕ) (d : List Placed) (sides : Sides)
    (screen : Shown) → Document d bytes → sides_in area (events_of d) ≡ Some sides
    → IsScreenOn named background sides (events_of (heard_on named bytes d)) screen → (rgb : Bool) → are_rgb screen.colours ≡ rgb
    → HasOnly named background area bytes
only_screen named background area bytes d sides screen doc is on true e = (
  ppm_text sides.0 sides.1 screen.colours,
  Ok Done,
  record {
    given = (d, doc, (sides, is, (screen, on, e, refl, refl)));
    once = of_screen named background area bytes d sides screen doc is on true e;
  },
)
only_screen named background area bytes d sides screen doc is on false e = (
  [],
  Err NotRgb,
  record {
    given = (refl, (d, doc, (sides, is, (screen, on, e))));
    once = of_screen named background area bytes d sides screen doc is on false e;
  },
)

only_sized : (named : Named) (background : Parts) (area : Area) (bytes : List ℕ) (d : List Placed) (o : Option Sides)
    → Document d bytes → sides_in area (events_of d) ≡ o → HasOnly named background area bytes
only_sized named background area bytes d (Some sides) doc is =
    elim (shows_or_ends named background sides (events_of (heard_on named bytes d))) [
      | inl e ↦ only_ended named background area bytes d e.0 doc e.1
      | inr s ↦ only_screen named background area bytes d sides s.0 doc is s.1 (are_rgb s.0.colours) refl
    ]
only_sized named background area bytes d None doc is =
    elim (said_or_ends (model_of named) (events_of (heard_on named bytes d))) [
      | inl e ↦ only_ended named background area bytes d e.0 doc e.1
      | inr s ↦ (
        [],
        Err NoBox,
        record {
          given = (refl, (d, doc, s.0, is));
          once = of_unsized named background area bytes d doc s.0 is;
        },
      )
    ]

-- any bytes have one output
only : (named : Named) (background : Parts) (area : Area) (bytes : List ℕ) → HasOnly named background area bytes
only named background area bytes =
    elim (judged bytes) [
      | inl d ↦ only_sized named background area bytes d.0 (sides_in area (events_of d.0)) d.1 refl
      | inr f ↦ (
        [],
        Err (Grammar f.0),
        record { given = (refl, f.1); once = of_fault named background area bytes f.0 f.1 },
      )
    ]

pub on-once : (named : Named) (background : Parts) (area : Area) (bytes : List ℕ) (first second : Text)
    (a b : Result Status RunFault) → ShowOnGives named background area bytes first a
    → ShowOnGives named background area bytes second b → (first ≡ second) × (a ≡ b)
on-once named background area bytes first second a b g h =
    let o = only named background area bytes in
    both_are first second a b (o.2.once first a g) (o.2.once second b h)

pub on-gives : (named : Named) (background : Parts) (area : Area) (bytes : List ℕ)
    → (text : Text) × (answer : Result Status RunFault) × ShowOnGives named background area bytes text answer
on-gives named background area bytes = let o = only named background area bytes in (o.0, o.1, o.2.given)

-- ---- the screen

-- what a named terminal shows, for what was measured of the document
pub shown_in : (named : Named) (background : Parts) (area : Area) (bytes : List ℕ) (d : List Placed) (sides : Sides)
    (opening : List Event) (screen : Shown) → Document d bytes
    → opening ≡ (model_of named).opening (events_of (heard_on named bytes d)) → sides_in area (events_of d) ≡ Some sides → ShowsOn named background sides opening bytes (Ok screen)
    → ShowsIn named background area bytes (Ok screen)
shown_in named background area bytes d sides opening screen doc first is g =
    let same : d ≡ g.0 = document_once bytes d g.0 doc g.1 in (
      g.0,
      g.1,
      (
        sides,
        subst (λ (l : List Placed). sides_in area (events_of l) ≡ Some sides) same is,
        g.2 (first
            ∙ ap (λ (l : List Placed). (model_of named).opening (events_of (heard_on named bytes l))) same),
      ),
    )

pub boxless_in : (named : Named) (background : Parts) (area : Area) (bytes : List ℕ) (d : List Placed) (sides : Sides)
    (opening : List Event) (screen : Shown) → Document d bytes
    → opening ≡ (model_of named).opening (events_of (heard_on named bytes d)) → sides_in area (events_of d) ≡ None → ShowsOn named background sides opening bytes (Ok screen)
    → ShowsIn named background area bytes (Err NoBox)
boxless_in named background area bytes d sides opening screen doc first none g =
    let same : d ≡ g.0 = document_once bytes d g.0 doc g.1 in
    let on = g.2 (first
    ∙ ap (λ (l : List Placed). (model_of named).opening (events_of (heard_on named bytes l))) same) in
    (g.0, g.1, on.said, subst (λ (l : List Placed). sides_in area (events_of l) ≡ None) same none)

pub document_fault : (named : Named) (background : Parts) (width height : ℕ) (bytes : List ℕ) (fault : ShowFault)
    → ShowsDocument named background (width, height) bytes (Err fault)
    → ShowsIn named background (area.Sides width height) bytes (Err (of_show fault))
document_fault named background width height bytes (show.Grammar f) g = absurd g
document_fault named background width height bytes (show.Unmodelled place) g = g
document_fault named background width height bytes show.OutOfMemory g = tt

-- it has the sides
on_sides : (named : Named) (background : Parts) (opening : List Event) (sides : Sides)
    → ((terminal_on named background opening sides).choices.screen_width ≡ sides.0)
    × ((terminal_on named background opening sides).choices.screen_height ≡ sides.1)
on_sides XTerm background opening sides = (refl, refl)
on_sides MlTerm background opening sides = (refl, refl)
on_sides Foot background opening sides = (refl, refl)
on_sides Konsole background opening sides = (refl, refl)

screen_sides : (named : Named) (background : Parts) (sides : Sides) (events : List Event) (screen : Shown)
    → IsScreenOn named background sides events screen → (screen.width ≡ sides.0) × (screen.height ≡ sides.1)
screen_sides named background sides events screen on =
    let s = on_sides named background ((model_of named).opening events) sides in
    (on.after.width ∙ s.0, on.after.height ∙ s.1)

-- it has the pixels of its sides
whole : (named : Named) (background : Parts) (sides : Sides) (events : List Event) (screen : Shown)
    → IsScreenOn named background sides events screen → IsTrue (is_file_side sides.0) → IsTrue (is_file_side sides.1)
    → IsWhole screen
whole named background sides events screen on wide high =
    let opening : List Event = (model_of named).opening events in
    let s = on_sides named background opening sides in
    whole_after (terminal_on named background opening sides) screen on.drawing on.after
    (subst (λ (n : ℕ). IsTrue (is_file_side n)) (sym s.0) wide)
    (subst (λ (n : ℕ). IsTrue (is_file_side n)) (sym s.1) high)

area_sides : (area : Area) (events : List Event) (sides : Sides) → HasSidesIn area → sides_in area events ≡ Some sides
    → IsTrue (is_file_side sides.0) × IsTrue (is_file_side sides.1)
area_sides area.Box events sides given is = declared_sides events sides is
area_sides (area.Sides width height) events sides given is =
    let same : (width, height) ≡ sides = cc in (
      subst (λ (s : Sides). IsTrue (is_file_side s.0)) same given.0,
      subst (λ (s : Sides). IsTrue (is_file_side s.1)) same given.1,
    )

pub shown_whole : (named : Named) (background : Parts) (area : Area) (bytes : List ℕ) (screen : Shown) → HasSidesIn area
    → ShowsIn named background area bytes (Ok screen) → IsWhole screen
shown_whole named background area bytes screen given g =
    let sides = area_sides area (events_of g.0) g.2.0 given g.2.1 in
    whole named background g.2.0 (events_of (heard_on named bytes g.0)) screen g.2.2 sides.0 sides.1

-- ---- the text written

sized : {A : Type 0} (r : Result A RunFault) (had has : SinkState) (a b c d : ℕ) (colours : List Parts) → a ≡ c
    → b ≡ d → WritesFile Ppm r had has a b colours → WritesFile Ppm r had has c d colours
sized r had has a b c d colours e f put =
    subst (λ (n : ℕ). WritesFile Ppm r had has n d colours) e
    (subst (λ (n : ℕ). WritesFile Ppm r had has a n colours) f put)

ppm_written : {A : Type 0} (named : Named) (background : Parts) (area : Area) (bytes : List ℕ) (screen : Shown) (x : A)
    (had has : SinkState) → ShowsIn named background area bytes (Ok screen)
    → WritesFile {A = A} Ppm (Ok x) had has screen.width screen.height screen.colours
    → WroteBy (ShowOnGives named background area bytes) WroteNothing (Ok Done) had.taken has.taken
ppm_written {A} named background area bytes screen x had has g put =
    let sides = g.2.0 in
    let s = screen_sides named background sides (events_of (heard_on named bytes g.0)) screen g.2.2 in
    let wrote : WritesFile {A = A} Ppm (Ok x) had has sides.0 sides.1 screen.colours =
    sized (Ok x) had has screen.width screen.height sides.0 sides.1 screen.colours s.0 s.1 put in (
      ppm_text sides.0 sides.1 screen.colours,
      (g.0, g.1, (sides, g.2.1, (screen, g.2.2, wrote.0, refl, refl))),
      wrote.1.taken,
    )

-- a prefix of the text, if the sink failed
cut_short : (named : Named) (background : Parts) (area : Area) (bytes : List ℕ) (screen : Shown) (n : ℕ)
    (g : ShowsIn named background area bytes (Ok screen)) → IsTrue (are_rgb screen.colours)
    → (text : Text) (answer : Result Status RunFault) → ShowOnGives named background area bytes text answer
    → BeginsWith text (take n (ppm_text g.2.0.0 g.2.0.1 screen.colours))
cut_short named background area bytes screen n g rgb text answer h =
    let all = ppm_text g.2.0.0 g.2.0.1 screen.colours in
    let same = (on-once named background area bytes text all answer (Ok Done) h
    (g.0, g.1, (g.2.0, g.2.1, (screen, g.2.2, rgb, refl, refl)))).0 in
    (drop n all, same ∙ sym (take-append-drop n all))

unwritten_of : (A : Type 0) (named : Named) (background : Parts) (area : Area) (bytes : List ℕ) (screen : Shown)
    (fault : RunFault) (had has : SinkState) (g : ShowsIn named background area bytes (Ok screen))
    → WritesFile {A = A} Ppm (Err fault) had has g.2.0.0 g.2.0.1 screen.colours
    → WroteBy (ShowOnGives named background area bytes) WroteNothing (Err fault) had.taken has.taken
unwritten_of A named background area bytes screen Write had has g put = (
  take put.1.taken.0 (ppm_text g.2.0.0 g.2.0.1 screen.colours),
  put.1.taken.1,
  cut_short named background area bytes screen put.1.taken.0 g put.0,
)
unwritten_of A named background area bytes screen NotRgb had has g put =
    ([], (refl, (g.0, g.1, (g.2.0, g.2.1, (screen, g.2.2, put.0)))), nothing-written had has put.1)
unwritten_of A named background area bytes screen _ had has g put = absurd put

ppm_unwritten : (A : Type 0) (named : Named) (background : Parts) (area : Area) (bytes : List ℕ) (screen : Shown)
    (fault : RunFault) (had has : SinkState) → ShowsIn named background area bytes (Ok screen)
    → WritesFile {A = A} Ppm (Err fault) had has screen.width screen.height screen.colours
    → WroteBy (ShowOnGives named background area bytes) WroteNothing (Err fault) had.taken has.taken
ppm_unwritten A named background area bytes screen fault had has g put =
    let s = screen_sides named background g.2.0 (events_of (heard_on named bytes g.0)) screen g.2.2 in
    unwritten_of A named background area bytes screen fault had has g
    (sized {A = A} (Err fault) had has screen.width screen.height g.2.0.0 g.2.0.1 screen.colours s.0 s.1 put)

-- ---- a refusal

refused : (named : Named) (background : Parts) (area : Area) (bytes : List ℕ) (fault : RunFault) (had : Option (List ℕ))
    → ShowsRead named background area bytes (Err fault)
    → WroteBy (ShowOnGives named background area bytes) WroteNothing (Err fault) had had
refused named background area bytes (Grammar f) had g = ([], (refl, g), Appends-none had)
refused named background area bytes (Unmodelled place) had g = ([], (refl, g), Appends-none had)
refused named background area bytes NoBox had g = ([], (refl, g), Appends-none had)
refused named background area bytes OutOfMemory had g = Appends-none had
refused named background area bytes Read had g = Appends-none had
refused named background area bytes other had g = absurd g

unread : (named : Named) (background : Parts) (area : Area) (bytes : List ℕ) (fault : InputFault) → Explains fault bytes
    → ShowsRead named background area bytes (Err (of_input fault))
unread named background area bytes (input.Grammar f) is = is
unread named background area bytes input.OutOfMemory is = tt
unread named background area bytes input.Read is = tt

pub shows_read : (named : Named) (background : Parts) (area : Area) (bytes : List ℕ) (result : Result Shown RunFault)
    → ShowsIn named background area bytes result → ShowsRead named background area bytes result
shows_read named background area bytes (Err Read) g = tt
shows_read named background area bytes result g = g

-- ---- the same of bytes that are known

-- what holds of bytes holds of those that are told, if they are the same
pub told_same : (P : List ℕ → Type 0) (a : Option (List ℕ)) (bytes : List ℕ) → IfSome a (λ told. told ≡ bytes)
    → P bytes → IfSome a P
told_same P None bytes same p = tt
told_same P (Some told) bytes same p = subst P (sym same) p

pub on_told : (named : Named) (background : Parts) (area : Area) (a : Option (List ℕ)) (bytes : List ℕ)
    (result : Result Shown RunFault) → IfSome a (λ told. told ≡ bytes) → ShowsIn named background area bytes result
    → IfSome a (λ told. ShowsRead named background area told result)
on_told named background area a bytes result same g =
    told_same (λ told. ShowsRead named background area told result) a bytes same
    (shows_read named background area bytes result g)

pub on_unread : (named : Named) (background : Parts) (area : Area) (a : Option (List ℕ)) (fault : InputFault)
    → IfSome a (Explains fault) → IfSome a (λ told. ShowsRead named background area told (Err (of_input fault)))
on_unread named background area None fault is = tt
on_unread named background area (Some told) fault is = unread named background area told fault is

-- there was no memory
pub on_lost : (named : Named) (background : Parts) (area : Area) (a : Option (List ℕ))
    → IfSome a (λ told. ShowsRead named background area told (Err OutOfMemory))
on_lost named background area None = tt
on_lost named background area (Some told) = tt

pub on_written : {A : Type 0} (format : PictureFormat) (named : Named) (background : Parts) (area : Area)
    (a : Option (List ℕ)) (screen : Shown) (x : A) (had has : SinkState) → HasSidesIn area
    → IfSome a (λ told. ShowsRead named background area told (Ok screen))
    → (IsWhole screen → WritesFile {A = A} format (Ok x) had has screen.width screen.height screen.colours)
    → IfSome a (λ told. WrotePicture format (ShowOnGives named background area told) (Ok Done) had.taken has.taken)
on_written format named background area None screen x had has given shown put = tt
on_written format named background area (Some told) screen x had has given shown put =
    as_written (ShowOnGives named background area told) WroteNothing WroteNothing format x Done had has screen.width
    screen.height screen.colours (λ b c. ppm_written named background area told screen x b c shown)
    (put (shown_whole named background area told screen given shown))

pub on_unwritten : (A : Type 0) (format : PictureFormat) (named : Named) (background : Parts) (area : Area)
    (a : Option (List ℕ)) (screen : Shown) (fault : RunFault) (had has : SinkState) → HasSidesIn area
    → IfSome a (λ told. ShowsRead named background area told (Ok screen))
    → (IsWhole screen → WritesFile {A = A} format (Err fault) had has screen.width screen.height screen.colours)
    → IfSome a (λ told. WrotePicture format (ShowOnGives named background area told) (Err fault) had.taken has.taken)
on_unwritten A format named background area None screen fault had has given shown put = tt
on_unwritten A format named background area (Some told) screen fault had has given shown put =
    as_unwritten (ShowOnGives named background area told) WroteNothing WroteNothing A format fault had has screen.width
    screen.height screen.colours (λ b c. ppm_unwritten A named background area told screen fault b c shown)
    (put (shown_whole named background area told screen given shown))

pub on_refused : (format : PictureFormat) (named : Named) (background : Parts) (area : Area) (a : Option (List ℕ))
    (fault : RunFault) (had : Option (List ℕ)) → IfSome a (λ told. ShowsRead named background area told (Err fault))
    → IfSome a (λ told. WrotePicture format (ShowOnGives named background area told) (Err fault) had had)
on_refused format named background area None fault had shown = tt
on_refused format named background area (Some told) fault had shown =
    as_nothing (ShowOnGives named background area told) WroteNothing WroteNothing format (Err fault) had
    (λ same. refused named background area told fault same shown)

-- ---- while the source is read

pub at_once_in : (named : Named) (background : Parts) (width height : ℕ) (bytes : List ℕ) (screen : Shown)
    → GivesScreen named background (width, height) bytes (Ok screen)
    → ShowsIn named background (area.Sides width height) bytes (Ok screen)
at_once_in named background width height bytes screen g = (g.0, g.1, ((width, height), refl, g.2))

pub at_once_told : (named : Named) (background : Parts) (width height : ℕ) (a : Option (List ℕ)) (screen : Shown)
    → IfSome a (λ bytes. GivesScreen named background (width, height) bytes (Ok screen))
    → IfSome a (λ bytes. ShowsRead named background (area.Sides width height) bytes (Ok screen))
at_once_told named background width height None screen g = tt
at_once_told named background width height (Some bytes) screen g =
    at_once_in named background width height bytes screen g

-- ---- failures

-- an answer that is no failure of a device counts none
pub no_failure : (A : Type 0) (device fault : RunFault) (n : ℕ)
    → (let k : Result A RunFault = Err fault in k) ≢ Err device
    → n ≡ failures_by device (let k : Result Status RunFault = Err fault in k) n
no_failure A Read Read n other = absurd (other refl)
no_failure A Write Write n other = absurd (other refl)
no_failure A device fault n other = refl
