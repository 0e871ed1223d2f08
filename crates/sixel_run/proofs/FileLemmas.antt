-- Lemmas for a run of `encode`, and for the fitted picture.
use Rattle.std.proofs.Common.{◌≡◌, ◌≢◌, ◌∙◌, ℕ, List, [], take, drop, Option, Some, None, refl, sym, ap}
use Rattle.std.specs.Prelude.{Result, Ok, Err, IfSome}
use Rattle.std.specs.Io.KnownBytes.{Appends}
use Rattle.std.proofs.lemmas.List.{take-append-drop}
use Rattle.sixel_io.proofs.SinkLemmas.{Appends-none}
use Rattle.sixel_fit.specs.Fits.{FitsOrNot}
use Rattle.sixel_fit.specs.Fitted.{fitted}
use Rattle.sixel_fit.specs.declared.making.FitFault.{FitFault}
use Rattle.sixel_fit.specs.declared.making.FitFault.TheVariants as fit
use Rattle.sixel_fit.specs.declared.making.Fitting.{Fitting}
use Rattle.sixel_fit.proofs.FittedLemmas.{answer_is_fitted}
use Rattle.sixel_ppm.specs.declared.ppm.PpmFault.{PpmFault}
use Rattle.sixel_ppm.specs.declared.ppm.PpmFault.TheVariants as ppm
use Rattle.sixel_model.specs.Pictures.{PictureValue}
use Rattle.sixel_ppm.specs.PpmReading.{HasWholeHeader, Head, ReadsPpm, head_of, picture_after, ppm_read}
use Rattle.sixel_encode.specs.Canon.{canon_text}
use Rattle.sixel_report.specs.Conversions.{of_fit}
use Rattle.sixel_report.specs.declared.fault.RunFault.{RunFault}
use Rattle.sixel_report.specs.declared.fault.RunFault.TheVariants.{OutOfMemory, Write}
use Rattle.sixel_report.specs.declared.task.Status.{Status}
use Rattle.sixel_report.specs.declared.task.Status.TheVariants.{Done}
use Rattle.sixel_run.specs.Outputs.{EncodeGives, encode_output, fit_output, made_output}
use Rattle.sixel_report.specs.Outputs.{WroteBy, WroteNothing}
use Rattle.sixel_report.specs.Texts.{Text}

-- ---- a fitted picture

-- what is made of a picture that was fitted
pub output_of_fitted : (f : Fitting) (p q : PictureValue) (status : Status)
    → FitsOrNot f.terminals f.pad p (Ok q) → (canon_text q, Ok status) ≡ made_output f p status
output_of_fitted f p q status is =
    ap (λ (r : Result PictureValue FitFault). fit_output r status)
    (answer_is_fitted f.terminals f.pad p (Ok q) is (λ same. cc same))

-- and of one that was not
pub output_of_unfit : (f : Fitting) (p : PictureValue) (fault : FitFault) (status : Status)
    → FitsOrNot f.terminals f.pad p (Err fault) → fault ≢ fit.OutOfMemory
    → ([], Err (of_fit fault)) ≡ made_output f p status
output_of_unfit f p fault status is other =
    ap (λ (r : Result PictureValue FitFault). fit_output r status)
    (answer_is_fitted f.terminals f.pad p (Err fault) is (λ same. other (cc same)))

-- ---- at most one output, and one

pub encode-once : (registers : ℕ) (f : Fitting) (bytes : List ℕ) (first second : Text) (a b : Result Status RunFault)
    → EncodeGives registers f bytes first a → EncodeGives registers f bytes second b → (first ≡ second) × (a ≡ b)
encode-once registers f bytes first second a b g h =
    let whole : (first, a) ≡ (second, b) = g ∙ sym h in (ap (λ p. p.0) whole, ap (λ p. p.1) whole)

pub encode-gives : (registers : ℕ) (f : Fitting) (bytes : List ℕ)
    → (text : Text) × (answer : Result Status RunFault) × EncodeGives registers f bytes text answer
encode-gives registers f bytes =
    let output = encode_output f (ppm_read registers bytes) in (output.0, output.1, refl)

-- ---- the text written

-- the text of the fitted picture
encoded : (registers : ℕ) (f : Fitting) (bytes : List ℕ) (p q : PictureValue) → ppm_read registers bytes ≡ Ok p
    → FitsOrNot f.terminals f.pad p (Ok q) → EncodeGives registers f bytes (canon_text q) (Ok Done)
encoded registers f bytes p q read is =
    output_of_fitted f p q Done is ∙ sym (ap (encode_output f) read)

pub encode_written : (registers : ℕ) (f : Fitting) (a : Option (List ℕ)) (p q : PictureValue)
    (had has : Option (List ℕ)) → IfSome a (ReadsPpm registers (Ok p)) → FitsOrNot f.terminals f.pad p (Ok q)
    → Appends had has (canon_text q)
    → IfSome a (λ bytes. WroteBy (EncodeGives registers f bytes) WroteNothing (Ok Done) had has)
encode_written registers f None p q had has read is put = tt
encode_written registers f (Some bytes) p q had has read is put =
    (canon_text q, encoded registers f bytes p q read is, put)

pub unencoded : (registers : ℕ) (f : Fitting) (a : Option (List ℕ)) (p q : PictureValue) (had has : Option (List ℕ))
    → IfSome a (ReadsPpm registers (Ok p)) → FitsOrNot f.terminals f.pad p (Ok q)
    → (n : ℕ) × Appends had has (take n (canon_text q))
    → IfSome a (λ bytes. WroteBy (EncodeGives registers f bytes) WroteNothing (Err Write) had has)
unencoded registers f None p q had has read is put = tt
unencoded registers f (Some bytes) p q had has read is put = (
  take put.0 (canon_text q),
  put.1,
  λ text answer g.
      let whole : EncodeGives registers f bytes (canon_text q) (Ok Done) = encoded registers f bytes p q read is in
      let same = (encode-once registers f bytes text (canon_text q) answer (Ok Done) g whole).0 in
      (drop put.0 (canon_text q), same ∙ sym (take-append-drop put.0 (canon_text q))),
)

-- ---- a refusal

refused : (registers : ℕ) (f : Fitting) (bytes : List ℕ) (p : PictureValue) (fault : FitFault) (had : Option (List ℕ))
    → ppm_read registers bytes ≡ Ok p → FitsOrNot f.terminals f.pad p (Err fault)
    → WroteBy (EncodeGives registers f bytes) WroteNothing (Err (of_fit fault)) had had
refused registers f bytes p fit.OutOfMemory had read is = Appends-none had
refused registers f bytes p (fit.Large width height) had read is = (
  [],
  output_of_unfit f p (fit.Large width height) Done is (λ same. cc same) ∙ sym (ap (encode_output f) read),
  Appends-none had,
)
refused registers f bytes p fit.Hue had read is = (
  [],
  output_of_unfit f p fit.Hue Done is (λ same. cc same) ∙ sym (ap (encode_output f) read),
  Appends-none had,
)
refused registers f bytes p fit.TooHigh had read is = (
  [],
  output_of_unfit f p fit.TooHigh Done is (λ same. cc same) ∙ sym (ap (encode_output f) read),
  Appends-none had,
)
refused registers f bytes p fit.NoRegister had read is = (
  [],
  output_of_unfit f p fit.NoRegister Done is (λ same. cc same) ∙ sym (ap (encode_output f) read),
  Appends-none had,
)

pub encode_refused : (registers : ℕ) (f : Fitting) (a : Option (List ℕ)) (p : PictureValue) (fault : FitFault)
    (had : Option (List ℕ)) → IfSome a (ReadsPpm registers (Ok p)) → FitsOrNot f.terminals f.pad p (Err fault)
    → IfSome a (λ bytes. WroteBy (EncodeGives registers f bytes) WroteNothing (Err (of_fit fault)) had had)
encode_refused registers f None p fault had read is = tt
encode_refused registers f (Some bytes) p fault had read is = refused registers f bytes p fault had read is

-- ---- memory

-- a picture that was read has a whole header
whole_by : (registers : ℕ) (bytes : List ℕ) (p : PictureValue) (h : Result Head PpmFault) → head_of bytes ≡ h
    → ppm_read registers bytes ≡ Ok p → HasWholeHeader bytes
whole_by registers bytes p (Ok head) is read = rw is refl
whole_by registers bytes p (Err fault) is read = let no = rw is at read in cc no

pub read_whole : (registers : ℕ) (a : Option (List ℕ)) (p : PictureValue) → IfSome a (ReadsPpm registers (Ok p))
    → IfSome a HasWholeHeader
read_whole registers None p read = tt
read_whole registers (Some bytes) p read = whole_by registers bytes p (head_of bytes) refl read
