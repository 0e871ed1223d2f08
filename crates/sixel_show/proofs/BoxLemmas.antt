-- Lemmas for a run of `show --box`.
use Rattle.std.proofs.Common.{◌≡◌, ◌∙◌, ℕ, Bool, true, false, List, [], Option, Some, None, refl, sym, ap, subst, inl, inr}
use Rattle.std.specs.Prelude.{◌&&◌, option_and_then, IsTrue, Result, Ok, Err}
use Rattle.std.specs.Bool.{then_some}
use Rattle.std.proofs.lemmas.Bool.{and_parts}
use Rattle.sixel_io.proofs.SinkLemmas.{Appends-none}
use Rattle.sixel_grammar.specs.declared.command.Event.{Event}
use Rattle.sixel_grammar.specs.declared.command.Placed.{Placed}
use Rattle.sixel_grammar.specs.declared.fault.Fault.{Fault}
use Rattle.sixel_grammar.specs.Document.{Document, events_of}
use Rattle.sixel_grammar.specs.Faults.{IsFaultOf}
use Rattle.sixel_grammar.proofs.TotalLemmas.{judged}
use Rattle.sixel_grammar.proofs.UniqueLemmas.{document_once, fault_no_document, fault_once}
use Rattle.sixel_model.specs.declared.profile.Profile.{Profile}
use Rattle.sixel_model.specs.Events.{Attributes}
use Rattle.sixel_model.specs.Rules.{raster_before}
use Rattle.sixel_ppm.specs.Ppm.{is_file_side}
use Rattle.sixel_terminal.specs.Displays.{Display}
use Rattle.sixel_report.specs.declared.fault.RunFault.{RunFault}
use Rattle.sixel_report.specs.declared.fault.RunFault.TheVariants.{Grammar, NotRgb, NoBox, OutOfMemory, Read, Write}
use Rattle.sixel_report.specs.declared.task.PictureFormat.{PictureFormat}
use Rattle.sixel_report.specs.declared.task.Status.{Status}
use Rattle.sixel_report.proofs.FormatLemmas.{as_mapped, as_nothing}
use Rattle.sixel_show.specs.Outputs.{ShowBoxGives, ShowGives}
use Rattle.sixel_report.specs.Outputs.{WroteBy, WroteNothing, WrotePicture}
use Rattle.sixel_show.specs.Screens.{declared_screen, sides_of_box}
use Rattle.sixel_report.specs.Texts.{Text}
use Rattle.sixel_show.proofs.ScreenLemmas.{show-gives, show-once}

abbrev Sides : Type 0
Sides = ℕ × ℕ

-- ---- a document with a box

-- what a show on the screen of the box gives, `show --box` gives
pub boxed : (profile : Profile) (terminal : Sides → Display) (bytes : List ℕ) (d : List Placed) (sides : Sides)
    → Document d bytes → declared_screen (events_of d) ≡ Some sides → (text : Text) (answer : Result Status RunFault)
    → ShowGives profile (terminal sides) bytes text answer → ShowBoxGives profile terminal bytes text answer
boxed profile terminal bytes d sides doc is text (Ok s) g = (d, doc, (sides, is, g))
boxed profile terminal bytes d sides doc is text (Err NotRgb) g = (d, doc, (sides, is, g))
boxed profile terminal bytes d sides doc is text (Err (Grammar f)) g = g
boxed profile terminal bytes d sides doc is text (Err other) g = absurd g

-- the document, read in another way, declares the same sides
same-sides : (bytes : List ℕ) (d e : List Placed) (a b : Sides) → Document d bytes → Document e bytes
    → declared_screen (events_of d) ≡ Some a → declared_screen (events_of e) ≡ Some b → b ≡ a
same-sides bytes d e a b p q is are =
    let whole : Some b ≡ Some a =
    sym are ∙ ap (λ (x : List Placed). declared_screen (events_of x)) (document_once bytes e d q p) ∙ is in cc

not-none : (bytes : List ℕ) (d e : List Placed) (a : Sides) → Document d bytes → Document e bytes
    → declared_screen (events_of d) ≡ Some a → declared_screen (events_of e) ≡ None → ⊥
not-none bytes d e a p q is none =
    let whole : None ≡ Some a =
    sym none ∙ ap (λ (x : List Placed). declared_screen (events_of x)) (document_once bytes e d q p) ∙ is in cc

moved : (profile : Profile) (terminal : Sides → Display) (bytes : List ℕ) (a b : Sides) (text : Text)
    (answer : Result Status RunFault) → b ≡ a → ShowGives profile (terminal b) bytes text answer
    → ShowGives profile (terminal a) bytes text answer
moved profile terminal bytes a b text answer e g =
    subst (λ (s : Sides). ShowGives profile (terminal s) bytes text answer) e g

-- and it gives nothing else
pub unboxed : (profile : Profile) (terminal : Sides → Display) (bytes : List ℕ) (d : List Placed) (sides : Sides)
    → Document d bytes → declared_screen (events_of d) ≡ Some sides → (text : Text) (answer : Result Status RunFault)
    → ShowBoxGives profile terminal bytes text answer → ShowGives profile (terminal sides) bytes text answer
unboxed profile terminal bytes d sides doc is text (Err NoBox) g =
    absurd (not-none bytes d g.1.0 sides doc g.1.1 is g.1.2)
unboxed profile terminal bytes d sides doc is text (Err (Grammar f)) g = g
unboxed profile terminal bytes d sides doc is text (Ok s) g =
    moved profile terminal bytes sides g.2.0 text (Ok s) (same-sides bytes d g.0 sides g.2.0 doc g.1 is g.2.1) g.2.2
unboxed profile terminal bytes d sides doc is text (Err NotRgb) g =
    moved profile terminal bytes sides g.2.0 text (Err NotRgb) (same-sides bytes d g.0 sides g.2.0 doc g.1 is g.2.1)
    g.2.2
unboxed profile terminal bytes d sides doc is text (Err other) g = absurd g.2.2

-- ---- a document without one

pub refused : (profile : Profile) (terminal : Sides → Display) (bytes : List ℕ) (d : List Placed) → Document d bytes
    → declared_screen (events_of d) ≡ None → (text : Text) (answer : Result Status RunFault)
    → ShowBoxGives profile terminal bytes text answer → (text ≡ []) × (answer ≡ Err NoBox)
refused profile terminal bytes d doc none text (Err NoBox) g = (g.0, refl)
refused profile terminal bytes d doc none text (Err (Grammar f)) g = absurd (fault_no_document bytes f g.1 (d, doc))
refused profile terminal bytes d doc none text (Ok s) g = absurd (not-none bytes g.0 d g.2.0 g.1 doc g.2.1 none)
refused profile terminal bytes d doc none text (Err NotRgb) g = absurd (not-none bytes g.0 d g.2.0 g.1 doc g.2.1 none)
refused profile terminal bytes d doc none text (Err other) g = absurd g.2.2

-- ---- bytes that are no document

pub faulty : (profile : Profile) (terminal : Sides → Display) (bytes : List ℕ) (f : Fault) → IsFaultOf bytes f
    → (text : Text) (answer : Result Status RunFault) → ShowBoxGives profile terminal bytes text answer
    → (text ≡ []) × (answer ≡ Err (Grammar f))
faulty profile terminal bytes f is text (Err (Grammar e)) g =
    (g.0, ap (λ (k : Fault). Err (Grammar k)) (fault_once bytes e f g.1 is))
faulty profile terminal bytes f is text (Err NoBox) g = absurd (fault_no_document bytes f is (g.1.0, g.1.1))
faulty profile terminal bytes f is text (Ok s) g = absurd (fault_no_document bytes f is (g.0, g.1))
faulty profile terminal bytes f is text (Err NotRgb) g = absurd (fault_no_document bytes f is (g.0, g.1))
faulty profile terminal bytes f is text (Err other) g = absurd g.2.2

-- ---- at most one output

both-same : (first second text : Text) (a b answer : Result Status RunFault) → (first ≡ text) × (a ≡ answer)
    → (second ≡ text) × (b ≡ answer) → (first ≡ second) × (a ≡ b)
both-same first second text a b answer g h = (g.0 ∙ sym h.0, g.1 ∙ sym h.1)

once-in : (profile : Profile) (terminal : Sides → Display) (bytes : List ℕ) (first second : Text)
    (a b : Result Status RunFault) (d : List Placed) (o : Option Sides) → Document d bytes
    → declared_screen (events_of d) ≡ o → ShowBoxGives profile terminal bytes first a
    → ShowBoxGives profile terminal bytes second b → (first ≡ second) × (a ≡ b)
once-in profile terminal bytes first second a b d (Some sides) doc is g h =
    show-once profile (terminal sides) bytes first second a b (unboxed profile terminal bytes d sides doc is first a g)
    (unboxed profile terminal bytes d sides doc is second b h)
once-in profile terminal bytes first second a b d None doc is g h =
    both-same first second [] a b (Err NoBox) (refused profile terminal bytes d doc is first a g)
    (refused profile terminal bytes d doc is second b h)

pub box-once : (profile : Profile) (terminal : Sides → Display) (bytes : List ℕ) (first second : Text)
    (a b : Result Status RunFault) → ShowBoxGives profile terminal bytes first a
    → ShowBoxGives profile terminal bytes second b → (first ≡ second) × (a ≡ b)
box-once profile terminal bytes first second a b g h =
    elim (judged bytes) [
      | inl d ↦ once-in profile terminal bytes first second a b d.0 (declared_screen (events_of d.0)) d.1 refl g h
      | inr f ↦ both-same first second [] a b (Err (Grammar f.0)) (faulty profile terminal bytes f.0 f.1 first a g)
          (faulty profile terminal bytes f.0 f.1 second b h)
    ]

-- ---- at least one output

gives-in : (profile : Profile) (terminal : Sides → Display) (bytes : List ℕ) (d : List Placed) (o : Option Sides)
    → Document d bytes → declared_screen (events_of d) ≡ o
    → (text : Text) × (answer : Result Status RunFault) × ShowBoxGives profile terminal bytes text answer
gives-in profile terminal bytes d (Some sides) doc is =
    let g = show-gives profile (terminal sides) bytes in
    (g.0, g.1, boxed profile terminal bytes d sides doc is g.0 g.1 g.2)
gives-in profile terminal bytes d None doc is = ([], Err NoBox, (refl, (d, doc, is)))

pub box-gives : (profile : Profile) (terminal : Sides → Display) (bytes : List ℕ)
    → (text : Text) × (answer : Result Status RunFault) × ShowBoxGives profile terminal bytes text answer
box-gives profile terminal bytes =
    elim (judged bytes) [
      | inl d ↦ gives-in profile terminal bytes d.0 (declared_screen (events_of d.0)) d.1 refl
      | inr f ↦ ([], Err (Grammar f.0), (refl, f.1))
    ]

-- ---- the text written

-- if `show` on a screen of that size wrote this, `show --box` did too
ppm_boxed : (profile : Profile) (terminal : Sides → Display) (bytes : List ℕ) (d : List Placed) (sides : Sides)
    (answer : Result Status RunFault) (had has : Option (List ℕ)) → Document d bytes
    → declared_screen (events_of d) ≡ Some sides
    → WroteBy (ShowGives profile (terminal sides) bytes) WroteNothing answer had has
    → WroteBy (ShowBoxGives profile terminal bytes) WroteNothing answer had has
ppm_boxed profile terminal bytes d sides (Err OutOfMemory) had has doc is w = w
ppm_boxed profile terminal bytes d sides (Err Read) had has doc is w = w
ppm_boxed profile terminal bytes d sides (Err Write) had has doc is w =
    (w.0, w.1, λ text answer g. w.2 text answer (unboxed profile terminal bytes d sides doc is text answer g))
ppm_boxed profile terminal bytes d sides answer had has doc is w =
    (w.0, boxed profile terminal bytes d sides doc is w.0 answer w.1, w.2)

pub written-boxed : (format : PictureFormat) (profile : Profile) (terminal : Sides → Display) (bytes : List ℕ)
    (d : List Placed) (sides : Sides) (answer : Result Status RunFault) (had has : Option (List ℕ)) → Document d bytes
    → declared_screen (events_of d) ≡ Some sides
    → WrotePicture format (ShowGives profile (terminal sides) bytes) answer had has
    → WrotePicture format (ShowBoxGives profile terminal bytes) answer had has
written-boxed format profile terminal bytes d sides answer had has doc is w =
    as_mapped (ShowGives profile (terminal sides) bytes) (ShowBoxGives profile terminal bytes) WroteNothing WroteNothing
    WroteNothing WroteNothing format answer had has
    (λ a b. ppm_boxed profile terminal bytes d sides answer a b doc is) w

-- nothing is written if no box is declared
pub unboxed_written : (format : PictureFormat) (profile : Profile) (terminal : Sides → Display) (bytes : List ℕ)
    (d : List Placed) (had : Option (List ℕ)) → Document d bytes → declared_screen (events_of d) ≡ None
    → WrotePicture format (ShowBoxGives profile terminal bytes) (Err NoBox) had had
unboxed_written format profile terminal bytes d had doc none =
    as_nothing (ShowBoxGives profile terminal bytes) WroteNothing WroteNothing format (Err NoBox) had
    (λ same. ([], (refl, (d, doc, none)), Appends-none same))

-- ---- the sides

some-then : (b : Bool) (p q : Sides) → then_some b p ≡ Some q → (b ≡ true) × (p ≡ q)
some-then true p q e = (refl, cc)
some-then false p q e = cc

sides-in : (o : Option Attributes) (sides : Sides)
    → option_and_then (λ (a : Attributes). sides_of_box a.width a.height) o ≡ Some sides
    → IsTrue (is_file_side sides.0) × IsTrue (is_file_side sides.1)
sides-in None sides e = cc
sides-in (Some a) sides e =
    let s = some-then (is_file_side a.width && is_file_side a.height) (a.width, a.height) sides e in
    let t = and_parts (is_file_side a.width) (is_file_side a.height) s.0 in (
      subst (λ (p : Sides). IsTrue (is_file_side p.0)) s.1 t.0,
      subst (λ (p : Sides). IsTrue (is_file_side p.1)) s.1 t.1,
    )

-- those that a document declares are in range
pub declared_sides : (events : List Event) (sides : Sides) → declared_screen events ≡ Some sides
    → IsTrue (is_file_side sides.0) × IsTrue (is_file_side sides.1)
unfolding declared_screen
declared_sides events sides e = sides-in (raster_before events) sides e
