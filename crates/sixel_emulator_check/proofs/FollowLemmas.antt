-- A checker and an asking that follow the events of a source.
use Rattle.std.proofs.Common.{◌≡◌, ◌∙◌, ℕ, List, [], Option, Some, None, refl, subst, sym}
use Rattle.std.specs.Prelude.{IfSome, Ok}
use Rattle.sixel_grammar.specs.Document.{Document}
use Rattle.sixel_grammar.specs.Following.{HoldsIn}
use Rattle.sixel_grammar.specs.Source.{FollowsSource, HaltsSource, IsFollowed}
use Rattle.sixel_grammar.specs.declared.command.Placed.{Placed}
use Rattle.sixel_grammar.specs.declared.source.SourceHalt.TheVariants.{Stopped}
use Rattle.sixel_judge.specs.Growth.{MayGrowAmong, MayGrowIn}
use Rattle.sixel_judge.specs.Standing.{CheckerValue, StandsAfter}
use Rattle.sixel_judge.proofs.FollowLemmas.{HasTaken, MayStop, grows_in, whole_then}
use Rattle.sixel_judge.proofs.StandLemmas.{registers_of}
use Rattle.sixel_check.specs.Checking.{IsWhole}
use Rattle.sixel_emulator_rules.specs.Asking.{HasAsked, HasAskedOn}
use Rattle.sixel_emulator_rules.specs.declared.asking.Asking.{Asking}
use Rattle.sixel_emulator_rules.specs.declared.terminals.Terminals.{Terminals}
use Rattle.sixel_emulator_check.specs.Checking.{HaveTakenAll}
use Rattle.sixel_emulator_check.specs.Looks.{HasLooked}
use Rattle.sixel_emulator_check.specs.declared.looks.Looks.{Looks}
use Rattle.sixel_grammar.specs.declared.both.Both.{Both}

abbrev pub Pair : Type 0
Pair = Both CheckerValue Asking

abbrev pub HasTakenBoth : Pair → Pair → List Placed → Type 0
HasTakenBoth first now seen = HasTaken first.one now.one seen × HasAskedOn first.other now.other seen

abbrev pub MayStopBoth : {S : Type 0} → Pair → Pair → S → List Placed → Type 0
MayStopBoth first now stop seen = MayStop first.one now.one stop seen

-- both have taken no event
pub had_none : (n : ℕ) (both : Pair) → StandsAfter n both.one [] → HasTakenBoth both both []
had_none n both s = (
  subst (λ (k : ℕ). StandsAfter k both.one []) (sym (registers_of n both.one [] s)) s,
  (refl, λ h. h),
)

-- both have taken the events of the source's document
followed_both : (n : ℕ) (old new : Pair) (known : Option (List ℕ)) → FollowsSource HasTakenBoth old new known
    → StandsAfter n old.one [] → IsFollowed (HasTakenBoth old) new known
followed_both n old new known follows s = follows old (had_none n old s)

seen_now : (n : ℕ) (old new : Pair) (known : Option (List ℕ)) (f : IsFollowed (HasTakenBoth old) new known)
    → StandsAfter n old.one [] → StandsAfter n new.one f.events
seen_now n old new known f s =
    subst (λ (k : ℕ). StandsAfter k new.one f.events) (registers_of n old.one [] s) f.taken.0

pub taken_all : (n : ℕ) (t : Terminals) (old new : Pair) (looks : Looks) (known : Option (List ℕ))
    → FollowsSource HasTakenBoth old new known → IfSome known (HasLooked looks) → StandsAfter n old.one []
    → old.other.terminals ≡ t → HasAsked old.other []
    → IfSome known (HaveTakenAll n t (Ok (record { both = new; looks = looks })))
taken_all n t old new looks None follows seen s is asked = tt
taken_all n t old new looks (Some bytes) follows seen s is asked =
    let f = followed_both n old new (Some bytes) follows s in (
      f.events,
      subst (Document f.events) (sym f.known_are) f.document,
      record { seen = seen_now n old new (Some bytes) f s; terminals = f.taken.1.0 ∙ is; asked = f.taken.1.1 asked },
      seen,
    )

pub whole_now : (n : ℕ) (old new : Pair) (known : Option (List ℕ)) → FollowsSource HasTakenBoth old new known
    → StandsAfter n old.one [] → IsWhole new.one
whole_now n old new known follows s =
    let f = followed_both n old new known follows s in
    (n, f.events, seen_now n old new known f s, whole_then f.events f.bytes f.document)

-- where the checker stops, it may have to grow
pub grows_both : {S : Type 0} (n : ℕ) (old new : Pair) (stop : S) (bytes : List ℕ)
    → HaltsSource HasTakenBoth MayStopBoth old new (Stopped stop) bytes → StandsAfter n old.one [] → MayGrowIn n bytes
grows_both n old new stop bytes halts s =
    grows_in n bytes (subst (λ (k : ℕ). HoldsIn (MayGrowAmong k) bytes) (registers_of n old.one [] s)
    (halts old (had_none n old s)))
