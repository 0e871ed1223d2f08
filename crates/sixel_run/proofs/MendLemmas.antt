-- What a run of `mend` owes.
use Rattle.std.proofs.Common.{◌≡◌, ◌∙◌, ℕ, Bool, true, false, List, [], take, drop, Option, Some, None, refl, sym, ap}
use Rattle.std.proofs.Common.{ap₂, subst, inl, inr}
use Rattle.std.specs.Prelude.{◌==◌, ◌&&◌, ◌||◌, ◌≢◌, IsTrue, Result, Ok, Err, IfSome, length, nat_lt, if◌then◌else◌}
use Rattle.std.specs.Io.KnownBytes.{Appends}
use Rattle.std.proofs.lemmas.List.{take-append-drop}
use Rattle.sixel_io.proofs.SinkLemmas.{Appends-none}
use Rattle.sixel_grammar.specs.declared.command.Event.{Event}
use Rattle.sixel_grammar.specs.declared.command.Placed.{Placed}
use Rattle.sixel_grammar.specs.declared.fault.Fault.{Fault}
use Rattle.sixel_grammar.specs.declared.fault.InputFault.{InputFault}
use Rattle.sixel_grammar.specs.declared.fault.InputFault.TheVariants as input
use Rattle.sixel_grammar.specs.Document.{Document, events_of}
use Rattle.sixel_grammar.specs.Faults.{IsFaultOf}
use Rattle.sixel_grammar.specs.Reading.{Explains}
use Rattle.sixel_grammar.proofs.TotalLemmas.{judged}
use Rattle.sixel_grammar.proofs.UniqueLemmas.{document_once, fault_no_document, fault_once}
use Rattle.sixel_model.specs.Pictures.{PictureValue, is_side, most_side}
use Rattle.sixel_ppm.specs.PpmReading.{distinct, picture_of}
use Rattle.sixel_encode.specs.Canon.{canon_text}
use Rattle.sixel_fit.specs.Fits.{FitsOrNot}
use Rattle.sixel_fit.specs.Fitted.{fitted}
use Rattle.sixel_fit.specs.declared.making.FitFault.{FitFault}
use Rattle.sixel_fit.specs.declared.making.FitFault.TheVariants as fit
use Rattle.sixel_fit.specs.declared.making.Fitting.{Fitting}
use Rattle.sixel_mend.specs.declared.mending.MendFault.{MendFault}
use Rattle.sixel_mend.specs.declared.mending.MendFault.TheVariants as mend
use Rattle.sixel_mend.specs.declared.mending.Mended.{Mended}
use Rattle.sixel_mend.specs.declared.mending.Mending.{Mending}
use Rattle.sixel_mend.specs.Mended.{Mends, MendsEvents, MendsNoting, mended, mended_colours}
use Rattle.sixel_mend.specs.Painted.{hidden_pixels}
use Rattle.sixel_mend.proofs.MendLemmas.{sides_from}
use Rattle.sixel_mend.proofs.SizeLemmas.{one_size, some_size}
use Rattle.sixel_report.specs.declared.fault.RunFault.{RunFault}
use Rattle.sixel_report.specs.declared.fault.RunFault.TheVariants.{Grammar, Empty, TooLarge, TooManyColours}
use Rattle.sixel_report.specs.declared.fault.RunFault.TheVariants.{Hue, Large, OutOfMemory, Write}
use Rattle.sixel_report.specs.declared.task.Status.{Status}
use Rattle.sixel_report.specs.Conversions.{of_fit, of_input, of_mend}
use Rattle.sixel_sheet.specs.Outputs.{HasPictureSize}
use Rattle.sixel_run.specs.Outputs.{MendGives, fit_output, made_output, mend_output, mended_status}
use Rattle.sixel_run.proofs.FileLemmas.{output_of_fitted, output_of_unfit}
use Rattle.sixel_report.specs.Outputs.{WroteBy, WroteNothing}
use Rattle.sixel_mend.specs.declared.extent.Extent.{Extent}
use Rattle.sixel_mend.specs.Measuring.{HasMeasured}
use Rattle.sixel_mend.specs.Sizes.{IsSize}
use Rattle.sixel_report.specs.Texts.{Text}

-- ---- at most one output

-- what a run writes and answers for these events in this size
abbrev output_in : ℕ → Mending → Fitting → List Event → ℕ → ℕ → Text × Result Status RunFault
output_in registers m fitting events w h =
    mend_output fitting (mended registers m events w h) (hidden_pixels m events w h)

-- the output of a document is that of its events in their size
of_document : (registers : ℕ) (m : Mending) (fitting : Fitting) (bytes : List ℕ) (d : List Placed) (w h : ℕ) → Document d bytes
    → IsSize m (events_of d) w h → (text : Text) (answer : Result Status RunFault)
    → MendGives registers m fitting bytes text answer → (text, answer) ≡ output_in registers m fitting (events_of d) w h
of_document registers m fitting bytes d w h doc is text (Err (Grammar f)) g = absurd (fault_no_document bytes f g.1 (d, doc))
of_document registers m fitting bytes d w h doc is text answer g =
    let same : g.0 ≡ d = document_once bytes g.0 d g.1 doc in
    let there = subst (λ (l : List Placed). IsSize m (events_of l) g.2.0 g.2.1) same g.2.2 in
    let sides = one_size m (events_of d) g.2.0 g.2.1 w h there is in
    g.2.3 ∙ ap (λ (l : List Placed). output_in registers m fitting (events_of l) g.2.0 g.2.1) same
    ∙ ap₂ (λ (x y : ℕ). output_in registers m fitting (events_of d) x y) sides.0 sides.1

-- the output of bytes that are no document
of_fault : (registers : ℕ) (m : Mending) (fitting : Fitting) (bytes : List ℕ) (f : Fault) → IsFaultOf bytes f
    → (text : Text) (answer : Result Status RunFault) → MendGives registers m fitting bytes text answer
    → (text ≡ []) × (answer ≡ Err (Grammar f))
of_fault registers m fitting bytes f is text (Err (Grammar e)) g =
    (g.0, ap (λ (k : Fault). Err (Grammar k)) (fault_once bytes e f g.1 is))
of_fault registers m fitting bytes f is text answer g = absurd (fault_no_document bytes f is (g.0, g.1))

same_parts : (first second : Text) (a b : Result Status RunFault) (output : Text × Result Status RunFault)
    → (first, a) ≡ output → (second, b) ≡ output → (first ≡ second) × (a ≡ b)
same_parts first second a b output p q =
    let whole : (first, a) ≡ (second, b) = p ∙ sym q in (ap (λ p. p.0) whole, ap (λ p. p.1) whole)

pub mend-once : (registers : ℕ) (m : Mending) (fitting : Fitting) (bytes : List ℕ) (first second : Text)
    (a b : Result Status RunFault)
    → MendGives registers m fitting bytes first a → MendGives registers m fitting bytes second b → (first ≡ second) × (a ≡ b)
mend-once registers m fitting bytes first second a b g h =
    elim (judged bytes) [
      | inl d ↦
          let s = some_size m (events_of d.0) in
          same_parts first second a b (output_in registers m fitting (events_of d.0) s.0 s.1)
          (of_document registers m fitting bytes d.0 s.0 s.1 d.1 s.2 first a g)
          (of_document registers m fitting bytes d.0 s.0 s.1 d.1 s.2 second b h)
      | inr f ↦
          let p = of_fault registers m fitting bytes f.0 f.1 first a g in
          let q = of_fault registers m fitting bytes f.0 f.1 second b h in
          (p.0 ∙ sym q.0, p.1 ∙ sym q.1)
    ]

-- ---- at least one output

none_of_these : (a b c : Bool) (p : PictureValue) (f : Fault)
    → (if a then Err mend.Empty else if b then Err mend.TooLarge else if c then Err mend.TooManyColours else Ok p)
    ≢ Err (mend.Grammar f)
none_of_these true b c p f e = cc
none_of_these false true c p f e = cc
none_of_these false false true p f e = cc
none_of_these false false false p f e = cc

-- a list of events has no fault of the grammar
no_fault : (registers : ℕ) (m : Mending) (events : List Event) (width height : ℕ) (f : Fault)
    → mended registers m events width height ≢ Err (mend.Grammar f)
unfolding mended
no_fault registers m events width height f =
    none_of_these ((width == 0) || (height == 0)) (nat_lt most_side width || nat_lt most_side height)
    (nat_lt registers (length (distinct (mended_colours m events width height))))
    (picture_of registers width height (mended_colours m events width height)) f

with_hidden : {a b : Result PictureValue MendFault} (fitting : Fitting) (hidden : ℕ) → a ≡ b
    → mend_output fitting a hidden ≡ mend_output fitting b hidden
with_hidden fitting hidden same = ap (λ (r : Result PictureValue MendFault). mend_output fitting r hidden) same

ok_sides : (a b c : Bool) (p q : PictureValue)
    → Ok p ≡ (if a then Err mend.Empty else if b then Err mend.TooLarge else if c then Err mend.TooManyColours else Ok q)
    → (a ≡ false) × (b ≡ false)
ok_sides true b c p q is = cc
ok_sides false true c p q is = cc
ok_sides false false c p q is = (refl, refl)

mended_sides : (registers : ℕ) (m : Mending) (events : List Event) (width height : ℕ) (p : PictureValue)
    → Ok p ≡ mended registers m events width height → IsTrue (is_side width && is_side height)
unfolding mended
mended_sides registers m events width height p is =
    let tests = ok_sides ((width == 0) || (height == 0)) (nat_lt most_side width || nat_lt most_side height)
    (nat_lt registers (length (distinct (mended_colours m events width height)))) p
    (picture_of registers width height (mended_colours m events width height)) is in
    sides_from width height tests.0 tests.1

-- the output of a mended picture, whatever becomes of it
made_for : (registers : ℕ) (m : Mending) (fitting : Fitting) (bytes : List ℕ) (d : List Placed) (w h : ℕ)
    (p : PictureValue) (r : Result PictureValue FitFault) → Document d bytes → IsSize m (events_of d) w h
    → r ≡ fitted fitting.terminals fitting.pad p
    → made_output fitting p (mended_status (hidden_pixels m (events_of d) w h))
    ≡ output_in registers m fitting (events_of d) w h
    → (text : Text) × (answer : Result Status RunFault) × MendGives registers m fitting bytes text answer
made_for registers m fitting bytes d w h p (Ok q) doc is made same =
    let status = mended_status (hidden_pixels m (events_of d) w h) in (
      canon_text q,
      Ok status,
      (d, doc, (w, h, is, ap (λ (r : Result PictureValue FitFault). fit_output r status) made ∙ same)),
    )
made_for registers m fitting bytes d w h p (Err (fit.Large width height)) doc is made same =
    let status = mended_status (hidden_pixels m (events_of d) w h) in (
      [],
      Err (Large width height),
      (d, doc, (w, h, is, ap (λ (r : Result PictureValue FitFault). fit_output r status) made ∙ same)),
    )
made_for registers m fitting bytes d w h p (Err fit.Hue) doc is made same =
    let status = mended_status (hidden_pixels m (events_of d) w h) in (
      [],
      Err Hue,
      (d, doc, (w, h, is, ap (λ (r : Result PictureValue FitFault). fit_output r status) made ∙ same)),
    )
made_for registers m fitting bytes d w h p (Err fit.TooHigh) doc is made same =
    let status = mended_status (hidden_pixels m (events_of d) w h) in (
      [],
      Err TooLarge,
      (d, doc, (w, h, is, ap (λ (r : Result PictureValue FitFault). fit_output r status) made ∙ same)),
    )
made_for registers m fitting bytes d w h p (Err fit.NoRegister) doc is made same =
    let status = mended_status (hidden_pixels m (events_of d) w h) in (
      [],
      Err TooManyColours,
      (d, doc, (w, h, is, ap (λ (r : Result PictureValue FitFault). fit_output r status) made ∙ same)),
    )
made_for registers m fitting bytes d w h p (Err fit.OutOfMemory) doc is made same =
    let status = mended_status (hidden_pixels m (events_of d) w h) in (
      [],
      Err OutOfMemory,
      (d, doc, (w, h, is, ap (λ (r : Result PictureValue FitFault). fit_output r status) made ∙ same)),
    )

gives_for : (registers : ℕ) (m : Mending) (fitting : Fitting) (bytes : List ℕ) (d : List Placed) (w h : ℕ)
    (r : Result PictureValue MendFault) → Document d bytes → IsSize m (events_of d) w h
    → r ≡ mended registers m (events_of d) w h
    → (text : Text) × (answer : Result Status RunFault) × MendGives registers m fitting bytes text answer
gives_for registers m fitting bytes d w h (Ok p) doc is same =
    let hidden = hidden_pixels m (events_of d) w h in
    made_for registers m fitting bytes d w h p (fitted fitting.terminals fitting.pad p) doc is refl
    (with_hidden fitting hidden same)
gives_for registers m fitting bytes d w h (Err mend.Empty) doc is same =
    ([], Err Empty, (d, doc, (w, h, is, with_hidden fitting (hidden_pixels m (events_of d) w h) same)))
gives_for registers m fitting bytes d w h (Err mend.TooLarge) doc is same =
    ([], Err TooLarge, (d, doc, (w, h, is, with_hidden fitting (hidden_pixels m (events_of d) w h) same)))
gives_for registers m fitting bytes d w h (Err mend.TooManyColours) doc is same =
    ([], Err TooManyColours, (d, doc, (w, h, is, with_hidden fitting (hidden_pixels m (events_of d) w h) same)))
gives_for registers m fitting bytes d w h (Err mend.OutOfMemory) doc is same =
    ([], Err OutOfMemory, (d, doc, (w, h, is, with_hidden fitting (hidden_pixels m (events_of d) w h) same)))
gives_for registers m fitting bytes d w h (Err (mend.Grammar f)) doc is same =
    absurd (no_fault registers m (events_of d) w h f (sym same))

pub mend-gives : (registers : ℕ) (m : Mending) (fitting : Fitting) (bytes : List ℕ)
    → (text : Text) × (answer : Result Status RunFault) × MendGives registers m fitting bytes text answer
mend-gives registers m fitting bytes =
    elim (judged bytes) [
      | inl d ↦
          let s = some_size m (events_of d.0) in
          gives_for registers m fitting bytes d.0 s.0 s.1 (mended registers m (events_of d.0) s.0 s.1) d.1 s.2 refl
      | inr f ↦ ([], Err (Grammar f.0), (refl, f.1))
    ]

-- ---- the text written

-- the output of a document whose picture was mended
made_of : (registers : ℕ) (m : Mending) (fitting : Fitting) (bytes : List ℕ) (w : Mended)
    → MendsNoting registers m bytes (Ok w)
    → (events : List Placed) × Document events bytes
    × ((width : ℕ) × (height : ℕ) × IsSize m (events_of events) width height
    × (made_output fitting w.picture (mended_status w.hidden)
    ≡ output_in registers m fitting (events_of events) width height))
made_of registers m fitting bytes w g = (
  g.0,
  g.1,
  (
    g.2.0,
    g.2.1,
    g.2.2,
    ap₂ (λ (r : Result PictureValue MendFault) (hidden : ℕ). mend_output fitting r hidden) g.2.3 g.2.4,
  ),
)

written : (registers : ℕ) (m : Mending) (fitting : Fitting) (bytes : List ℕ) (w : Mended) (q : PictureValue)
    → MendsNoting registers m bytes (Ok w) → FitsOrNot fitting.terminals fitting.pad w.picture (Ok q)
    → MendGives registers m fitting bytes (canon_text q) (Ok (mended_status w.hidden))
written registers m fitting bytes w q g is =
    let o = made_of registers m fitting bytes w g in
    (o.0, o.1, (o.2.0, o.2.1, o.2.2, output_of_fitted fitting w.picture q (mended_status w.hidden) is ∙ o.2.3))

pub mend_written : (registers : ℕ) (m : Mending) (fitting : Fitting) (a : Option (List ℕ)) (bytes : List ℕ) (w : Mended)
    (q : PictureValue) (had has : Option (List ℕ)) → IfSome a (λ told. told ≡ bytes)
    → MendsNoting registers m bytes (Ok w) → FitsOrNot fitting.terminals fitting.pad w.picture (Ok q)
    → Appends had has (canon_text q)
    → IfSome a (λ told. WroteBy (MendGives registers m fitting told) WroteNothing (Ok (mended_status w.hidden)) had has)
mend_written registers m fitting None bytes w q had has same g is put = tt
mend_written registers m fitting (Some told) bytes w q had has same g is put =
    subst
    (λ (l : List ℕ). WroteBy (MendGives registers m fitting l) WroteNothing (Ok (mended_status w.hidden)) had has)
    (sym same)
    (canon_text q, written registers m fitting bytes w q g is, put)

-- a prefix of the text, if the sink failed
cut_short : (registers : ℕ) (m : Mending) (fitting : Fitting) (bytes : List ℕ) (w : Mended) (q : PictureValue)
    (had has : Option (List ℕ)) → MendsNoting registers m bytes (Ok w)
    → FitsOrNot fitting.terminals fitting.pad w.picture (Ok q) → (n : ℕ) × Appends had has (take n (canon_text q))
    → WroteBy (MendGives registers m fitting bytes) WroteNothing (Err Write) had has
cut_short registers m fitting bytes w q had has g is put = (
  take put.0 (canon_text q),
  put.1,
  λ text answer h.
      let whole = canon_text q in
      let put_all = written registers m fitting bytes w q g is in
      let same = (mend-once registers m fitting bytes text whole answer (Ok (mended_status w.hidden)) h put_all).0 in
      (drop put.0 whole, same ∙ sym (take-append-drop put.0 whole)),
)

pub mend_unwritten : (registers : ℕ) (m : Mending) (fitting : Fitting) (a : Option (List ℕ)) (bytes : List ℕ)
    (w : Mended) (q : PictureValue) (had has : Option (List ℕ)) → IfSome a (λ told. told ≡ bytes)
    → MendsNoting registers m bytes (Ok w) → FitsOrNot fitting.terminals fitting.pad w.picture (Ok q)
    → (n : ℕ) × Appends had has (take n (canon_text q))
    → IfSome a (λ told. WroteBy (MendGives registers m fitting told) WroteNothing (Err Write) had has)
mend_unwritten registers m fitting None bytes w q had has same g is put = tt
mend_unwritten registers m fitting (Some told) bytes w q had has same g is put =
    subst (λ (l : List ℕ). WroteBy (MendGives registers m fitting l) WroteNothing (Err Write) had has) (sym same)
    (cut_short registers m fitting bytes w q had has g is put)

-- ---- a picture that isn't fitted

unfit_so : (registers : ℕ) (m : Mending) (fitting : Fitting) (bytes : List ℕ) (w : Mended) (fault : FitFault)
    → fault ≢ fit.OutOfMemory → MendsNoting registers m bytes (Ok w)
    → FitsOrNot fitting.terminals fitting.pad w.picture (Err fault)
    → (events : List Placed) × Document events bytes
    × ((width : ℕ) × (height : ℕ) × IsSize m (events_of events) width height
    × (([], Err (of_fit fault)) ≡ output_in registers m fitting (events_of events) width height))
unfit_so registers m fitting bytes w fault other g is =
    let o = made_of registers m fitting bytes w g in
    (o.0, o.1, (o.2.0, o.2.1, o.2.2, output_of_unfit fitting w.picture fault (mended_status w.hidden) is other ∙ o.2.3))

unfit : (registers : ℕ) (m : Mending) (fitting : Fitting) (bytes : List ℕ) (w : Mended) (fault : FitFault)
    (had : Option (List ℕ)) → MendsNoting registers m bytes (Ok w)
    → FitsOrNot fitting.terminals fitting.pad w.picture (Err fault)
    → WroteBy (MendGives registers m fitting bytes) WroteNothing (Err (of_fit fault)) had had
unfit registers m fitting bytes w fit.OutOfMemory had g is = Appends-none had
unfit registers m fitting bytes w (fit.Large width height) had g is =
    ([], unfit_so registers m fitting bytes w (fit.Large width height) (λ same. cc same) g is, Appends-none had)
unfit registers m fitting bytes w fit.Hue had g is =
    ([], unfit_so registers m fitting bytes w fit.Hue (λ same. cc same) g is, Appends-none had)
unfit registers m fitting bytes w fit.TooHigh had g is =
    ([], unfit_so registers m fitting bytes w fit.TooHigh (λ same. cc same) g is, Appends-none had)
unfit registers m fitting bytes w fit.NoRegister had g is =
    ([], unfit_so registers m fitting bytes w fit.NoRegister (λ same. cc same) g is, Appends-none had)

pub mend_unfit : (registers : ℕ) (m : Mending) (fitting : Fitting) (a : Option (List ℕ)) (bytes : List ℕ) (w : Mended)
    (fault : FitFault) (had : Option (List ℕ)) → IfSome a (λ told. told ≡ bytes)
    → MendsNoting registers m bytes (Ok w) → FitsOrNot fitting.terminals fitting.pad w.picture (Err fault)
    → IfSome a (λ told. WroteBy (MendGives registers m fitting told) WroteNothing (Err (of_fit fault)) had had)
mend_unfit registers m fitting None bytes w fault had same g is = tt
mend_unfit registers m fitting (Some told) bytes w fault had same g is =
    subst (λ (l : List ℕ). WroteBy (MendGives registers m fitting l) WroteNothing (Err (of_fit fault)) had had)
    (sym same)
    (unfit registers m fitting bytes w fault had g is)

-- a mended picture has a size that a picture may have
noted_size : (registers : ℕ) (m : Mending) (bytes : List ℕ) (w : Mended) → MendsNoting registers m bytes (Ok w)
    → HasPictureSize m bytes
noted_size registers m bytes w g = (
  g.0,
  g.1,
  (g.2.0, g.2.1, g.2.2, mended_sides registers m (events_of g.0) g.2.0 g.2.1 w.picture g.2.3),
)

pub mend_sized : (registers : ℕ) (m : Mending) (a : Option (List ℕ)) (bytes : List ℕ) (w : Mended)
    → IfSome a (λ told. told ≡ bytes) → MendsNoting registers m bytes (Ok w) → IfSome a (HasPictureSize m)
mend_sized registers m None bytes w same g = tt
mend_sized registers m (Some told) bytes w same g =
    subst (HasPictureSize m) (sym same) (noted_size registers m bytes w g)

-- ---- a refusal

-- the output of a document that isn't mended
without_text : (registers : ℕ) (m : Mending) (fitting : Fitting) (events : List Event) (fault : MendFault)
    → MendsEvents registers m events (Err fault)
    → (w : ℕ) × (h : ℕ) × IsSize m events w h × (([], Err (of_mend fault)) ≡ output_in registers m fitting events w h)
without_text registers m fitting events fault is =
    (is.0, is.1, is.2, with_hidden fitting (hidden_pixels m events is.0 is.1) is.3)

unmended : (registers : ℕ) (m : Mending) (fitting : Fitting) (bytes : List ℕ) (fault : MendFault) (had : Option (List ℕ))
    → Mends registers m bytes (Err fault)
    → WroteBy (MendGives registers m fitting bytes) WroteNothing (Err (of_mend fault)) had had
unmended registers m fitting bytes (mend.Grammar f) had g = ([], (refl, g), Appends-none had)
unmended registers m fitting bytes mend.OutOfMemory had g = Appends-none had
unmended registers m fitting bytes mend.Empty had g =
    ([], (g.0, g.1, without_text registers m fitting (events_of g.0) mend.Empty g.2), Appends-none had)
unmended registers m fitting bytes mend.TooLarge had g =
    ([], (g.0, g.1, without_text registers m fitting (events_of g.0) mend.TooLarge g.2), Appends-none had)
unmended registers m fitting bytes mend.TooManyColours had g =
    ([], (g.0, g.1, without_text registers m fitting (events_of g.0) mend.TooManyColours g.2), Appends-none had)

pub mend_refused : (registers : ℕ) (m : Mending) (fitting : Fitting) (a : Option (List ℕ)) (bytes : List ℕ) (fault : MendFault)
    (had : Option (List ℕ)) → IfSome a (λ told. told ≡ bytes) → Mends registers m bytes (Err fault)
    → IfSome a (λ told. WroteBy (MendGives registers m fitting told) WroteNothing (Err (of_mend fault)) had had)
mend_refused registers m fitting None bytes fault had same g = tt
mend_refused registers m fitting (Some told) bytes fault had same g =
    subst (λ (l : List ℕ). WroteBy (MendGives registers m fitting l) WroteNothing (Err (of_mend fault)) had had) (sym same)
    (unmended registers m fitting bytes fault had g)

unread : (registers : ℕ) (m : Mending) (fitting : Fitting) (bytes : List ℕ) (fault : InputFault) (had : Option (List ℕ))
    → Explains fault bytes → WroteBy (MendGives registers m fitting bytes) WroteNothing (Err (of_input fault)) had had
unread registers m fitting bytes (input.Grammar f) had is = ([], (refl, is), Appends-none had)
unread registers m fitting bytes input.OutOfMemory had is = Appends-none had
unread registers m fitting bytes input.Read had is = Appends-none had

pub mend_unread : (registers : ℕ) (m : Mending) (fitting : Fitting) (a : Option (List ℕ)) (fault : InputFault) (had : Option (List ℕ))
    → IfSome a (Explains fault)
    → IfSome a (λ bytes. WroteBy (MendGives registers m fitting bytes) WroteNothing (Err (of_input fault)) had had)
mend_unread registers m fitting None fault had is = tt
mend_unread registers m fitting (Some bytes) fault had is = unread registers m fitting bytes fault had is

-- ---- memory

-- the document has a picture's size, if mending runs out of memory
sized : (registers : ℕ) (m : Mending) (bytes : List ℕ) (fault : MendFault) → Mends registers m bytes (Err fault)
    → of_mend fault ≡ OutOfMemory → HasPictureSize m bytes
sized registers m bytes mend.OutOfMemory g is = g
sized registers m bytes (mend.Grammar f) g is = cc
sized registers m bytes mend.Empty g is = cc
sized registers m bytes mend.TooLarge g is = cc
sized registers m bytes mend.TooManyColours g is = cc

pub mend_grown : (registers : ℕ) (m : Mending) (a : Option (List ℕ)) (bytes : List ℕ) (fault : MendFault)
    → IfSome a (λ told. told ≡ bytes) → Mends registers m bytes (Err fault)
    → of_mend fault ≡ OutOfMemory → IfSome a (HasPictureSize m)
mend_grown registers m None bytes fault same g is = tt
mend_grown registers m (Some told) bytes fault same g is =
    subst (HasPictureSize m) (sym same) (sized registers m bytes fault g is)

-- what was measured of bytes that aren't kept
pub measured_refused : (registers : ℕ) (m : Mending) (fitting : Fitting) (extent : Extent) (a : Option (List ℕ)) (fault : MendFault)
    (had : Option (List ℕ)) → IfSome a (HasMeasured extent)
    → ((bytes : List ℕ) → HasMeasured extent bytes → (r : ℕ) (n : Mending) → Mends r n bytes (Err fault))
    → IfSome a (λ told. WroteBy (MendGives registers m fitting told) WroteNothing (Err (of_mend fault)) had had)
measured_refused registers m fitting extent None fault had has refused = tt
measured_refused registers m fitting extent (Some told) fault had has refused =
    unmended registers m fitting told fault had (refused told has registers m)

pub measured_grown : (registers : ℕ) (m : Mending) (extent : Extent) (a : Option (List ℕ)) (fault : MendFault)
    → IfSome a (HasMeasured extent)
    → ((bytes : List ℕ) → HasMeasured extent bytes → (r : ℕ) (n : Mending) → Mends r n bytes (Err fault))
    → of_mend fault ≡ OutOfMemory → IfSome a (HasPictureSize m)
measured_grown registers m extent None fault has refused is = tt
measured_grown registers m extent (Some told) fault has refused is =
    sized registers m told fault (refused told has registers m) is

pub measured_sized : (m : Mending) (extent : Extent) (a : Option (List ℕ)) (w h : ℕ)
    → IfSome a (HasMeasured extent) → IsTrue (is_side w && is_side h)
    → ((bytes : List ℕ) → HasMeasured extent bytes
    → (events : List Placed) × Document events bytes × ((n : Mending) → IsSize n (events_of events) w h))
    → IfSome a (HasPictureSize m)
measured_sized m extent None w h has sides sized = tt
measured_sized m extent (Some told) w h has sides sized =
    let d = sized told has in (d.0, d.1, (w, h, d.2 m, sides))
