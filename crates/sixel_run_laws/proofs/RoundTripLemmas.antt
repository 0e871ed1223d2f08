-- The text of a picture, checked.
use Rattle.std.specs.Prelude.{Ok, Err, None}
use Rattle.std.proofs.Common.{◌≤◌, arith, ◌≡◌, ◌∙◌, ◌+◌, ℕ, List, [], ◌∷◌, length, refl, sym, ap, subst}
use Rattle.sixel_grammar.specs.declared.command.Event.{Event}
use Rattle.sixel_grammar.specs.declared.command.Placed.{Placed}
use Rattle.sixel_grammar.specs.declared.fault.InputFault.TheVariants.{Grammar, OutOfMemory, Read}
use Rattle.sixel_grammar.proofs.UniqueLemmas.{fault_no_document}
use Rattle.sixel_grammar.specs.Document.{events_of, most_bytes}
use Rattle.sixel_grammar.specs.FixedText.{fixed_places}
use Rattle.sixel_grammar.specs.Spelling.{fixed_spelling}
use Rattle.sixel_model.specs.Rules.{BreaksNone, last_rule, picture_left}
use Rattle.sixel_judge.specs.declared.verdict.Verdict.TheVariants.{Portable}
use Rattle.sixel_judge.specs.Portable.{IsPortable}
use Rattle.sixel_emulator_check.specs.declared.verdict.NamedVerdict.TheVariants as named
use Rattle.sixel_judge.proofs.ShownLemmas.{left_is_portable}
use Rattle.sixel_encode.specs.Canon.{canon, canon_text}
use Rattle.sixel_encode_laws.proofs.LengthLemmas
use Rattle.sixel_encode_laws.proofs.LeadsBackLemmas
use Rattle.sixel_encode_laws.proofs.WrittenLemmas
use Rattle.sixel_model.specs.Profiles.{count_of}
use Rattle.sixel_model.specs.declared.profile.Profile.{Profile}
use Rattle.sixel_model.proofs.PictureLemmas.{at_most_256}
use Rattle.sixel_run_laws.specs.Laws.{EncodedAnswers, EncodedChecks, EncodedIsPortable}
use Rattle.sixel_emulator_check.specs.Laws.{none}
use Rattle.sixel_emulator_check.specs.Written.{IsVerdictOf}
use Rattle.sixel_emulator_check.proofs.NoneLemmas.{none_asked}
use Rattle.sixel_run.proofs.CheckLemmas.{same_verdict}

events_placed : (n : ℕ) (es : List Event) → events_of (fixed_places n es) ≡ es
events_placed n [] = refl
events_placed n (e ∷ es) = ap (λ (more : List Event). e ∷ more) (events_placed (n + length (fixed_spelling e)) es)

pub encoded_is_portable : (profile : Profile) → EncodedIsPortable (count_of profile)
encoded_is_portable profile p is =
    let registers : ℕ = count_of profile in
    let few : registers ≤ 256 = at_most_256 profile in
    let placed : List Placed = fixed_places 0 (canon p) in
    let same : events_of placed ≡ canon p = events_placed 0 (canon p) in
    let none : BreaksNone registers last_rule (canon p) = LeadsBackLemmas.lists_break_no_rule registers p is in
    let left : picture_left registers (canon p) ≡ p = LeadsBackLemmas.lists_leave_their_picture registers p is in
    let shown : IsPortable registers (canon p) p =
    subst (IsPortable registers (canon p)) left
    (left_is_portable registers (canon p) (WrittenLemmas.lists_are_whole p) none) in (
      placed,
      WrittenLemmas.texts_are_documents registers (omega (arith, few))
          (LengthLemmas.texts_have_at_most most_bytes registers (omega (arith, few)) (omega (arith, few))) p is,
      (subst (BreaksNone registers last_rule) (sym same) none, sym left ∙ ap (picture_left registers) (sym same)),
      subst (λ (es : List Event). IsPortable registers es p) (sym same) shown,
    )

pub encoded_answers : (profile : Profile) → EncodedAnswers (count_of profile)
encoded_answers profile p (Ok verdict) is answers =
    let found = encoded_is_portable profile p is in
    same_verdict _ (canon_text p) answers.0 found.0 verdict (Portable p) answers.1 found.1 answers.2 found.2
encoded_answers profile p (Err OutOfMemory) is answers = tt
encoded_answers profile p (Err Read) is answers = tt
encoded_answers profile p (Err (Grammar fault)) is answers =
    let found = encoded_is_portable profile p is in fault_no_document (canon_text p) fault answers (found.0, found.1)

pub encoded_checks : (profile : Profile) → EncodedChecks (count_of profile)
encoded_checks profile p is =
    let found = encoded_is_portable profile p is in
    let verdict : IsVerdictOf (count_of profile) none (canon_text p) found.0 (named.Portable p) =
    record {
      by_events = named.Portable p;
      is = (found.2.0, none_asked (events_of found.0), found.2.1);
      bare = None;
      bare_is = refl;
      space = None;
      space_is = refl;
      verdict_is = refl;
    } in
    (found.0, found.1, (named.Portable p, verdict, refl, refl))
