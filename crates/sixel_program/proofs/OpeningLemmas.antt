-- Names in which U+FFFD is looked for.
use Rattle.std.proofs.Common.{◌≡◌, ◌∙◌, ◌∷◌, ◌++◌, [], Some, None, ap, append_assoc, arith, drop, length, refl, sym}
use Rattle.std.proofs.Common.{take}
use Rattle.std.specs.Prelude.{Result, Ok, Err, MatchResult}
use Rattle.std.specs.Str.Pattern.{FindsText, HasMatch}
use Rattle.std.proofs.lemmas.List.{length-append, take-append-drop}
use Rattle.std.proofs.Math.Seq.{drop-append_seam}
use Rattle.sixel_messages.specs.declared.unopened.Unopened.{Unopened}
use Rattle.sixel_messages.specs.declared.unopened.Unopened.TheVariants.{NotText}
use Rattle.sixel_program.specs.Openings.{IsNotText, IsOpening, OpensAs, Told}
use Rattle.sixel_report.specs.Texts.{Text}

abbrev replacement : Text
replacement = 0xEF ∷ 0xBF ∷ 0xBD ∷ []

found : (name : Text) → HasMatch (FindsText replacement) name → IsNotText name
found name (i, j, finds, ordered, within) = (
  take i name,
  drop j name,
  sym (take-append-drop i name) ∙ ap (λ (t : Text). take i name ++ t) finds.1.split
      ∙ sym (append_assoc (take i name) replacement (drop j name)),
)

not_found : (name : Text) → FindsText replacement name None → IsNotText name → ⊥
not_found name lacks (before, after, is) =
    let whole : name ≡ before ++ (replacement ++ after) = is ∙ append_assoc before replacement after in
    lacks (length before) (omega (arith, ap length whole, length-append before (replacement ++ after))) after
    (ap (drop (length before)) whole ∙ drop-append_seam before (replacement ++ after))

-- a name in which it was found
pub not_opened : (told : Told) (name : Text) → HasMatch (FindsText replacement) name
    → IsOpening told name (Some NotText)
not_opened told name has = record { not_text = λ no. refl; as_told = λ text. absurd (text (found name has)) }

-- a name in which it wasn't found, and an opening that ended as the folder tells
pub as_the_folder : {A : Type 0} (told : Told) (name : Text) (result : Result A Unopened)
    → FindsText replacement name None
    → MatchResult result (λ _. OpensAs told None) (λ reason. OpensAs told (Some reason))
    → MatchResult result (λ _. IsOpening told name None) (λ reason. IsOpening told name (Some reason))
as_the_folder told name (Ok file) lacks like =
    record { not_text = λ no. absurd (not_found name lacks no); as_told = λ text. like }
as_the_folder told name (Err reason) lacks like =
    record { not_text = λ no. absurd (not_found name lacks no); as_told = λ text. like }
