-- The text of a fitted picture, checked and shown; mended strings; no terminal.
use Rattle.std.proofs.Common.{◌≡◌, ◌∙◌, ◌+◌, ◌≤◌, ◌++◌, ℕ, Bool, true, false, List, [], ◌∷◌, Option, None, ap}
use Rattle.std.proofs.Common.{Ok, Err, Result, arith, length, map, refl, subst, sym}
use Rattle.std.proofs.lemmas.Bool.{le-ltb}
use Rattle.sixel_grammar.specs.declared.command.Event.{Event}
use Rattle.sixel_grammar.specs.declared.command.Event.TheVariants.{Step}
use Rattle.sixel_grammar.specs.declared.command.Placed.{Placed}
use Rattle.sixel_grammar.specs.Document.{Document, events_of, most_bytes}
use Rattle.sixel_grammar.specs.FixedText.{fixed_places}
use Rattle.sixel_grammar.specs.Spelling.{fixed_spelling}
use Rattle.sixel_model.specs.declared.colour.Parts.{Parts}
use Rattle.sixel_model.specs.declared.profile.Profile.{Profile}
use Rattle.sixel_model.specs.Colours.{palette_at}
use Rattle.sixel_model.specs.Pictures.{IsPicture, PictureValue, register_of}
use Rattle.sixel_model.specs.Profiles.{count_of}
use Rattle.sixel_model.specs.Rules.{BreaksNone, last_rule, picture_left}
use Rattle.sixel_model.proofs.PictureLemmas.{at_most_256}
use Rattle.sixel_encode.specs.Canon.{canon, canon_commands, canon_start, canon_text}
use Rattle.sixel_encode.proofs.PartedLemmas.{Parted, parted}
use Rattle.sixel_encode_laws.proofs.LengthLemmas.{texts_have_at_most}
use Rattle.sixel_encode_laws.proofs.LeadsBackLemmas.{lists_break_no_rule, lists_leave_their_picture}
use Rattle.sixel_encode_laws.proofs.WrittenLemmas.{events_can_be_written, texts_are_documents}
use Rattle.sixel_mend.specs.declared.mending.Mending.{Mending}
use Rattle.sixel_mend_laws.specs.Laws.{IsKept}
use Rattle.sixel_mend_laws.proofs.MendedLemmas.{mended_is, mended_is_picture, nothing_is_lost}
use Rattle.sixel_emulator_rules.specs.Asked.{BreaksNoneAsked, is_asked}
use Rattle.sixel_emulator_rules.specs.declared.rule.AskedRule.TheVariants as rule
use Rattle.sixel_emulator_rules.specs.declared.terminals.Terminals.{Terminals}
use Rattle.sixel_emulator_check.specs.Laws.{none}
use Rattle.sixel_emulator_check.specs.Trailer.{is_space_after}
use Rattle.sixel_emulator_check.specs.Written.{IsIfAsked, IsVerdictOf}
use Rattle.sixel_emulator_check.specs.declared.verdict.NamedVerdict.TheVariants.{Portable}
use Rattle.sixel_emulator_check_laws.proofs.ShownLemmas.{verdicts_are_shown}
use Rattle.sixel_omissions.specs.Omissions.{is_bare_at}
use Rattle.sixel_fit.specs.Fits.{Fits, FitsOrNot, fit_reason}
use Rattle.sixel_fit.specs.declared.making.FitFault.{FitFault}
use Rattle.sixel_fit.specs.declared.making.FitFault.TheVariants.{Large, Hue, TooHigh, NoRegister, OutOfMemory}
use Rattle.sixel_fit_laws.specs.Laws.{FittedIsPortable, HasAtTop, NoneChangesNothing, NothingIsLost}
use Rattle.sixel_fit_laws.proofs.FittedLemmas.{fitted_picture, no_reason}
use Rattle.sixel_fit_laws.proofs.SuitsLemmas.{suits}
use Rattle.sixel_fit_laws.proofs.TightLemmas.{ends_so, no_space, text_tight, tight_not_bare}

-- ---- what bytes tell

no_bare : (registers : ℕ) (p : PictureValue) → registers ≤ 256 → IsPicture registers p → (i : ℕ)
    → is_bare_at (canon_text p) i ≡ false
no_bare registers p few is =
    tight_not_bare (canon_text p)
    (text_tight (canon p) (events_can_be_written registers (omega (arith, few)) p is))

spaceless : (bytes front : List ℕ) → bytes ≡ front ++ 92 ∷ [] → (i : ℕ) → is_space_after bytes i ≡ false
spaceless bytes front is i = rw is (no_space front i)

no_space_after : (p : PictureValue) (i : ℕ) → is_space_after (canon_text p) i ≡ false
unfolding canon
no_space_after p i =
    let ends = ends_so (canon_start ∷ map Step (canon_commands p)) in spaceless (canon_text p) ends.0 ends.1 i

if_asked : (b : Bool) (first : Option ℕ → Type 0) → first None → IsIfAsked b first None
if_asked true first absent = absent
if_asked false first absent = refl

-- ---- the verdict

events_placed : (n : ℕ) (es : List Event) → events_of (fixed_places n es) ≡ es
events_placed n [] = refl
events_placed n (e ∷ es) = ap (λ (more : List Event). e ∷ more) (events_placed (n + length (fixed_spelling e)) es)

-- the verdict on the text of a picture, if its list breaks no rule that is asked for
verdict_of : (registers : ℕ) (t : Terminals) (p : PictureValue) → registers ≤ 256 → IsPicture registers p
    → BreaksNoneAsked t (canon p)
    → IsVerdictOf registers t (canon_text p) (fixed_places 0 (canon p)) (Portable p)
verdict_of registers t p few is unbroken =
    let same : events_of (fixed_places 0 (canon p)) ≡ canon p = events_placed 0 (canon p) in
    let left : picture_left registers (canon p) ≡ p = lists_leave_their_picture registers p is in
    record {
      by_events = Portable p;
      is = (
        subst (BreaksNone registers last_rule) (sym same) (lists_break_no_rule registers p is),
        subst (BreaksNoneAsked t) (sym same) unbroken,
        sym left ∙ ap (picture_left registers) (sym same),
      );
      bare = None;
      bare_is = if_asked (is_asked t rule.Bare) _ (no_bare registers p few is);
      space = None;
      space_is = if_asked (is_asked t rule.SpaceAfter) _ (no_space_after p);
      verdict_is = refl;
    }

pub fitted_is_portable : (profile : Profile) → FittedIsPortable (count_of profile)
fitted_is_portable profile t pad p q all picture colour fitted =
    let registers : ℕ = count_of profile in
    let few : registers ≤ 256 = at_most_256 profile in
    let f : Fits t pad p q = fitted.0 in
    let made = fitted_picture profile t pad p q picture colour fitted in
    let top : HasAtTop pad p q = made.1 in
    let placed : List Placed = fixed_places 0 (canon q) in
    let verdict : IsVerdictOf registers t (canon_text q) placed (Portable q) =
    verdict_of registers t q few made.0
    (suits registers t pad p q made.0 all f top.width (no_reason t pad p q.height fitted.1)) in
    let document : Document placed (canon_text q) =
    texts_are_documents registers (omega (arith, few))
    (texts_have_at_most most_bytes registers (omega (arith, few)) (omega (arith, few))) q made.0 in
    (placed, document, verdict, verdicts_are_shown registers few t placed (canon_text q) q document verdict)

-- ---- mended strings

kept_at_top : (m : Mending) (events : List Event) (pad : Parts) (p q : PictureValue) (x y : ℕ) → HasAtTop pad p q
    → IsKept m events p x y → IsKept m events q x y
kept_at_top m events pad p q x y top kept = record {
  across = omega (arith, kept.across, top.width);
  down = omega (arith, kept.down, top.height);
  shown = λ background width height across down.
      ap (palette_at q.palette) (top.kept x y kept.across kept.down)
      ∙ top.colours (register_of p x y) _ (kept.shown background width height across down);
}

pub nothing_of_it_is_lost : (profile : Profile) → NothingIsLost (count_of profile)
nothing_of_it_is_lost profile m events t pad p q width height x y background colour gives fitted touched =
    let registers : ℕ = count_of profile in
    let picture : IsPicture registers p =
    mended_is_picture registers m events gives.0 gives.1 p background
    (mended_is registers m events gives.0 gives.1 p gives.3) in
    kept_at_top m events pad p q x y (fitted_picture profile t pad p q picture colour fitted).1
    (nothing_is_lost registers m events p width height x y gives touched)

-- ---- no terminal

no_reason_for_none : (pad : Parts) (p : PictureValue) → p.height ≤ 2048 → fit_reason none pad p p.height ≡ None
no_reason_for_none pad p most = rw (le-ltb 2048 p.height most, le-ltb p.height p.height (omega arith)) refl

of_none : (pad : Parts) (p : PictureValue) (answer : Result PictureValue FitFault) → p.height ≤ 2048
    → FitsOrNot none pad p answer → answer ≡ Ok p
of_none pad p (Ok q) most is = ap (λ (r : PictureValue). Ok r) ((is.0).same (is.0).height)
of_none pad p (Err OutOfMemory) most is = absurd (omega (arith, is.1, is.2))
of_none pad p (Err (Large width height)) most is =
    let no : fit_reason none pad p is.0 ≡ None = rw is.1 (no_reason_for_none pad p most) in cc (no, is.2)
of_none pad p (Err Hue) most is =
    let no : fit_reason none pad p is.0 ≡ None = rw is.1 (no_reason_for_none pad p most) in cc (no, is.2)
of_none pad p (Err TooHigh) most is =
    let no : fit_reason none pad p is.0 ≡ None = rw is.1 (no_reason_for_none pad p most) in cc (no, is.2)
of_none pad p (Err NoRegister) most is =
    let no : fit_reason none pad p is.0 ≡ None = rw is.1 (no_reason_for_none pad p most) in cc (no, is.2)

none_fits : (pad : Parts) (p : PictureValue) → p.height ≤ 2048 → FitsOrNot none pad p (Ok p)
none_fits pad p most = (
  record { height = refl; same = λ is. refl; rows = λ less. absurd (omega (arith, less)) },
  no_reason_for_none pad p most,
)

pub none_changes_nothing : NoneChangesNothing
none_changes_nothing pad p answer registers picture =
    let parts : Parted registers p = parted picture in (
      of_none pad p answer parts.most_height,
      λ is. subst (FitsOrNot none pad p) (sym is) (none_fits pad p parts.most_height),
    )
