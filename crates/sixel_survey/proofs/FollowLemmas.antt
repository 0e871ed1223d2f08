-- A surveyor as a follower of events.
use Rattle.std.proofs.Common.{ℕ, List, [], ◌∷◌, ◌++◌, Option, Result, Ok, Err, append_assoc, refl, subst, sym}
use Rattle.std.specs.Prelude.{IfErr, OnErr}
use Rattle.std.proofs.lemmas.List.{append-nil}
use Rattle.sixel_grammar.specs.declared.command.Placed.{Placed}
use Rattle.sixel_grammar.specs.declared.source.SourceHalt.TheVariants.{Stopped}
use Rattle.sixel_grammar.specs.Document.{events_of}
use Rattle.sixel_grammar.specs.Following.{StopsAmong}
use Rattle.sixel_grammar.specs.Source.{FollowsSource, HaltsSource, IsFollowed}
use Rattle.sixel_grammar.proofs.StandLemmas.{read_complete}
use Rattle.sixel_model.specs.Profiles.{count_of}
use Rattle.sixel_survey.specs.Declaring.{DeclareBox, DeclareBoxIn, DeclaresBox}
use Rattle.sixel_survey.specs.Surveying.{HasSurveyed, SurveyorValue}
use Rattle.sixel_survey.proofs.DeclareLemmas.{declares_before, declares_end}

-- of what follows, this is the surveyor
abbrev pub HasTaken : {F : Type 0} → (F → SurveyorValue) → F → F → List Placed → Type 0
HasTaken value first now seen = HasSurveyed (count_of (value first).profile) (value now) seen

abbrev pub MayStop : {F S : Type 0} → F → F → S → List Placed → Type 0
MayStop first now stop seen = DeclareBox seen

pub stops_one : {F S : Type 0} (value : F → SurveyorValue) (old new : F) (p : Placed) (result : Result (Unit {0}) S)
    → OnErr result ((registers : ℕ) (seen : List Placed) → HasSurveyed registers (value old) seen
    → DeclaresBox (events_of seen) p.event)
    → IfErr result (StopsAmong (HasTaken value) MayStop old new (p ∷ []))
stops_one value old new p (Ok u) declares = tt
stops_one value old new p (Err s) declares = λ first seen h. record {
  taken = p ∷ [];
  rest = [];
  are = refl;
  holds = declares_end seen p (declares (count_of (value first).profile) seen h);
}

-- what a surveyor for these registers has taken before any event
pub begins : {F : Type 0} (value : F → SurveyorValue) (registers : ℕ) (f : F) → HasSurveyed registers (value f) []
    → HasTaken value f f []
begins value registers f h = subst (λ (n : ℕ). HasSurveyed n (value f) []) (sym h.registers_are) h

-- what a surveyor for these registers has seen at the end of the source
pub surveyed : {F : Type 0} (value : F → SurveyorValue) (registers : ℕ) (old now : F) (known : Option (List ℕ))
    → HasSurveyed registers (value old) [] → FollowsSource (HasTaken value) old now known
    → IsFollowed (λ f. HasSurveyed registers (value f)) now known
surveyed value registers old now known h follows =
    let f = follows old (begins value registers old h) in
    record {
      events = f.events;
      bytes = f.bytes;
      document = f.document;
      taken = subst (λ (n : ℕ). HasSurveyed n (value now) f.events) h.registers_are f.taken;
      known_are = f.known_are;
    }

declares_more : (xs ys : List Placed) → DeclareBox xs → DeclareBox (xs ++ ys)
declares_more xs [] d = subst DeclareBox (sym (append-nil xs)) d
declares_more xs (y ∷ ys) d =
    subst DeclareBox (append_assoc xs (y ∷ []) ys) (declares_more (xs ++ y ∷ []) ys (declares_before xs y d))

pub declares_in : {F S : Type 0} (value : F → SurveyorValue) (registers : ℕ) (old new : F) (stop : S) (bytes : List ℕ)
    → HasSurveyed registers (value old) [] → HaltsSource (HasTaken value) MayStop old new (Stopped stop) bytes
    → DeclareBoxIn bytes
declares_in value registers old new stop bytes h halts =
    let w = halts old (begins value registers old h) in
    record {
      prefix = w.read;
      rest = w.unread;
      bytes_are = w.bytes_are;
      events = w.taken ++ w.rest;
      complete = read_complete w.reader (w.taken ++ w.rest) w.read w.stands;
      declares = declares_more w.taken w.rest w.holds;
    }
