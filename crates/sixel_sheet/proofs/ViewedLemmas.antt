-- Why there are no views, and what was written of the sheet.
use Rattle.std.proofs.Common.{◌≡◌, ◌∙◌, ℕ, true, false, List, [], Option, Some, None, drop, refl, sym, subst, take}
use Rattle.std.proofs.lemmas.List.{take-append-drop}
use Rattle.std.specs.Prelude.{◌≢◌, ◌&&◌, IsTrue, Result, Ok, Err, IfSome}
use Rattle.std.specs.Io.KnownBytes.{Appends}
use Rattle.sixel_io.proofs.SinkLemmas.{Appends-none}
use Rattle.sixel_grammar.specs.declared.command.Placed.{Placed}
use Rattle.sixel_grammar.specs.Document.{Document, events_of}
use Rattle.sixel_model.specs.declared.colour.Parts.{Parts}
use Rattle.sixel_model.specs.Pictures.{is_side}
use Rattle.sixel_mend.specs.declared.mending.MendFault.{MendFault}
use Rattle.sixel_mend.specs.declared.mending.MendFault.TheVariants as mend
use Rattle.sixel_mend.specs.declared.mending.Mending.{Mending}
use Rattle.sixel_mend.specs.declared.extent.Extent.{Extent}
use Rattle.sixel_mend.specs.Measuring.{HasMeasured}
use Rattle.sixel_mend.specs.Mended.{Mends}
use Rattle.sixel_mend.specs.Sizes.{IsSize}
use Rattle.sixel_differ.specs.declared.comparison.Comparison.{Comparison}
use Rattle.sixel_differ.specs.declared.fault.DifferFault.{DifferFault}
use Rattle.sixel_differ.specs.declared.fault.DifferFault.TheVariants as differ
use Rattle.sixel_differ.specs.declared.view.Views.{Views}
use Rattle.sixel_differ.specs.Comparisons.{IsComparison}
use Rattle.sixel_differ.specs.Faults.{IsDifferFault}
use Rattle.sixel_differ.specs.Views.{AreViews}
use Rattle.sixel_differ.proofs.FaultLemmas.{empty_by_size, large_by_size, not_for_any_registers}
use Rattle.sixel_report.specs.declared.fault.RunFault.{RunFault}
use Rattle.sixel_report.specs.declared.fault.RunFault.TheVariants.{Grammar, Empty, NotRgb, OutOfMemory, Read, TooLarge}
use Rattle.sixel_report.specs.declared.fault.RunFault.TheVariants.{Write}
use Rattle.sixel_report.specs.declared.task.Status.{Status}
use Rattle.sixel_report.specs.Conversions.{of_differ, of_mend}
use Rattle.sixel_sheet.specs.Outputs.{DifferGives, IsRefusalOf, sheet_output}
use Rattle.sixel_sheet.specs.Sheets.{are_rgb_views, sheet_text}
use Rattle.sixel_report.specs.Differing.{differ_status}
use Rattle.sixel_report.specs.Outputs.{WroteBy, WroteNothing}
use Rattle.sixel_report.specs.Texts.{Text}
use Rattle.sixel_sheet.proofs.ComparingLemmas.{some_comparison}
use Rattle.sixel_sheet.proofs.DifferLemmas.{differ-once, sheet_given, some_mending}

-- ---- why there are no views

-- a fault of mending with each number of registers
refusal_of : (bytes : List ℕ) (fault : MendFault) → ((r : ℕ) (m : Mending) → Mends r m bytes (Err fault))
    → IsRefusalOf bytes (of_mend fault)
refusal_of bytes (mend.Grammar f) all = all 0 some_mending
refusal_of bytes mend.Empty all = λ m. empty_by_size m bytes (all 0 m)
refusal_of bytes mend.TooLarge all = λ m. large_by_size m bytes (all 0 m)
refusal_of bytes mend.TooManyColours all = absurd (not_for_any_registers bytes all)
refusal_of bytes mend.OutOfMemory all = λ m. all 0 m

pub measured_refusal : (extent : Extent) (a : Option (List ℕ)) (fault : MendFault) → IfSome a (HasMeasured extent)
    → ((bytes : List ℕ) → HasMeasured extent bytes → (r : ℕ) (m : Mending) → Mends r m bytes (Err fault))
    → IfSome a (λ bytes. IsRefusalOf bytes (of_mend fault))
measured_refusal extent None fault has refused = tt
measured_refusal extent (Some told) fault has refused = refusal_of told fault (refused told has)

-- the bytes weren't kept, and have a picture's size
pub unkept_refusal : (extent : Extent) (a : Option (List ℕ)) (w h : ℕ) → IfSome a (HasMeasured extent)
    → IsTrue (is_side w && is_side h)
    → ((bytes : List ℕ) → HasMeasured extent bytes
    → (events : List Placed) × Document events bytes × ((m : Mending) → IsSize m (events_of events) w h))
    → IfSome a (λ bytes. IsRefusalOf bytes OutOfMemory)
unkept_refusal extent None w h has sides sized = tt
unkept_refusal extent (Some told) w h has sides sized =
    let d = sized told has in λ m. (d.0, d.1, (w, h, d.2 m, sides))

differ_refusal_of : (bytes : List ℕ) (fault : DifferFault) → ((m : Mending) → IsDifferFault m bytes fault)
    → IsRefusalOf bytes (of_differ fault)
differ_refusal_of bytes (differ.Grammar f) all = all some_mending
differ_refusal_of bytes differ.Empty all = all
differ_refusal_of bytes differ.TooLarge all = all
differ_refusal_of bytes differ.OutOfMemory all = all

pub differ_refusal : (a : Option (List ℕ)) (bytes : List ℕ) (fault : DifferFault) → IfSome a (λ told. told ≡ bytes)
    → ((m : Mending) → IsDifferFault m bytes fault) → IfSome a (λ told. IsRefusalOf told (of_differ fault))
differ_refusal None bytes fault same all = tt
differ_refusal (Some told) bytes fault same all =
    subst (λ (l : List ℕ). IsRefusalOf l (of_differ fault)) (sym same) (differ_refusal_of bytes fault all)

-- ---- a refusal

refused_by : (output : Views → Comparison → Text × Result Status RunFault) (background : Parts) (bytes : List ℕ)
    (had : Option (List ℕ)) (fault : RunFault) → IsRefusalOf bytes fault
    → WroteBy (DifferGives output background bytes) WroteNothing (Err fault) had had
refused_by output background bytes had (Grammar f) is = ([], (refl, is), Appends-none had)
refused_by output background bytes had Empty is = ([], (refl, is), Appends-none had)
refused_by output background bytes had TooLarge is = ([], (refl, is), Appends-none had)
refused_by output background bytes had OutOfMemory is = Appends-none had
refused_by output background bytes had Read is = Appends-none had
refused_by output background bytes had fault is = absurd is

pub refused_if : (output : Views → Comparison → Text × Result Status RunFault) (background : Parts)
    (a had : Option (List ℕ)) (fault : RunFault) → IfSome a (λ bytes. IsRefusalOf bytes fault)
    → IfSome a (λ bytes. WroteBy (DifferGives output background bytes) WroteNothing (Err fault) had had)
refused_if output background None had fault is = tt
refused_if output background (Some bytes) had fault is = refused_by output background bytes had fault is

-- ---- the sheet

sheet_gives : (background : Parts) (bytes : List ℕ) (v : Views) (c : Comparison) → AreViews background bytes v
    → IsComparison v c → are_rgb_views v ≡ true
    → DifferGives sheet_output background bytes (sheet_text v) (Ok (differ_status c))
sheet_gives background bytes v c are is rgb =
    let output : sheet_output v c ≡ (sheet_text v, Ok (differ_status c)) = rw rgb refl in (v, are, (c, is, sym output))

pub sheet_written : (background : Parts) (bytes : List ℕ) (v : Views) (c : Comparison) (had has : Option (List ℕ))
    → AreViews background bytes v → IsComparison v c → are_rgb_views v ≡ true → Appends had has (sheet_text v)
    → WroteBy (DifferGives sheet_output background bytes) WroteNothing (Ok (differ_status c)) had has
sheet_written background bytes v c had has are is rgb put =
    (sheet_text v, sheet_gives background bytes v c are is rgb, put)

pub sheet_unwritten : (background : Parts) (bytes : List ℕ) (v : Views) (had has : Option (List ℕ))
    → AreViews background bytes v → are_rgb_views v ≡ true → (n : ℕ) × Appends had has (take n (sheet_text v))
    → WroteBy (DifferGives sheet_output background bytes) WroteNothing (Err Write) had has
sheet_unwritten background bytes v had has are rgb put =
    let c = some_comparison v in (
      take put.0 (sheet_text v),
      put.1,
      λ text answer g.
          let same = (differ-once sheet_output sheet_given background bytes text (sheet_text v) answer
          (Ok (differ_status c.0)) g (sheet_gives background bytes v c.0 are c.1 rgb)).0 in
          (drop put.0 (sheet_text v), same ∙ sym (take-append-drop put.0 (sheet_text v))),
    )

pub sheet_not_rgb : (background : Parts) (bytes : List ℕ) (v : Views) (had : Option (List ℕ))
    → AreViews background bytes v → are_rgb_views v ≡ false
    → WroteBy (DifferGives sheet_output background bytes) WroteNothing (Err NotRgb) had had
sheet_not_rgb background bytes v had are rgb =
    let c = some_comparison v in
    let output : sheet_output v c.0 ≡ ([], Err NotRgb) = rw rgb refl in
    ([], (v, are, (c.0, c.1, sym output)), Appends-none had)
