-- What a `broken` line promises.
use Rattle.std.specs.Prelude.{◌≡◌, ◌<◌, ℕ, true, List, Ok, Option, Result, IsSomeAnd, IsTrue, ⊤}
use Rattle.sixel_grammar.specs.declared.command.Event.{Event}
use Rattle.sixel_grammar.specs.declared.command.Placed.{Placed}
use Rattle.sixel_grammar.specs.Document.{Document, events_of}
use Rattle.sixel_omissions.specs.Omissions.{is_bare_at}
use Rattle.sixel_model.specs.declared.profile.Profile.{Profile}
use Rattle.sixel_model.specs.declared.rule.Rule.{Rule}
use Rattle.sixel_model.specs.declared.rule.Rule.TheVariants.{Outside, Uncovered, EightBit}
use Rattle.sixel_model.specs.Events.{is_finish}
use Rattle.sixel_model.specs.Positions.{HoldsAtPosition}
use Rattle.sixel_model.specs.Profiles.{count_of}
use Rattle.sixel_model.specs.Rules.{Breaks}
use Rattle.sixel_terminal.specs.Displays.{Display}
use Rattle.sixel_emulator.specs.Modelled.{HasPlace}
use Rattle.sixel_judge.specs.declared.verdict.Finding.{Finding}
use Rattle.sixel_judge.specs.declared.verdict.Verdict.TheVariants.{Broken}
use Rattle.sixel_judge.specs.Alarms.{MattersUnlessConservative}
use Rattle.sixel_check_laws.specs.Differences.{AreApart}
use Rattle.sixel_emulator_rules.specs.Asked.{BreaksAsked, is_asked}
use Rattle.sixel_emulator_rules.specs.declared.asking.AskedFinding.{AskedFinding}
use Rattle.sixel_emulator_rules.specs.declared.rule.AskedRule.TheVariants.{Bare, SpaceAfter}
use Rattle.sixel_emulator_rules.specs.declared.terminals.Terminals.{Terminals}
use Rattle.sixel_emulator_check.specs.Rules.{number_of_named}
use Rattle.sixel_emulator_check.specs.Trailer.{is_space_after}
use Rattle.sixel_emulator_check.specs.declared.rule.NamedRule.{NamedRule}
use Rattle.sixel_emulator_check.specs.declared.rule.NamedRule.TheVariants.{Portable, Asked}
use Rattle.sixel_report.specs.declared.fault.RunFault.{RunFault}
use Rattle.sixel_report.specs.declared.task.Status.{Status}
use Rattle.sixel_report.specs.declared.task.Status.TheVariants as status
use Rattle.sixel_report.specs.declared.task.Task.TheVariants.{Check}
use Rattle.sixel_report.specs.Texts.{Text, asked_line, finding_line}
use Rattle.sixel_run.specs.Outputs.{Gives}

-- ---- the first broken rule

-- the rule counts in a check for these terminals: it is one of portable pictures, or one of them asks for it
abbrev pub CountsFor : Terminals → NamedRule → Type 0
CountsFor t (Portable rule) = ⊤
CountsFor t (Asked rule) = IsTrue (is_asked t rule)

-- P holds for the event with this offset and those before it
pub record HoldsAtOffset (P : List Event → Event → Type 0) (events : List Placed) (offset : ℕ) : Type 0 where
  pub position : ℕ
  pub place : HasPlace events position offset
  pub holds : HoldsAtPosition P (events_of events) position

-- the rule is broken at this offset: by the event there, `Bare` by a select there that names no register, or `SpaceAfter`
-- by a space there behind the terminator
abbrev pub IsBrokenAt : ℕ → List ℕ → List Placed → NamedRule → ℕ → Type 0
IsBrokenAt registers bytes events (Portable rule) offset = HoldsAtOffset (Breaks registers rule) events offset
IsBrokenAt registers bytes events (Asked Bare) offset = is_bare_at bytes offset ≡ true
IsBrokenAt registers bytes events (Asked SpaceAfter) offset = is_space_after bytes offset ≡ true
IsBrokenAt registers bytes events (Asked rule) offset = HoldsAtOffset (BreaksAsked rule) events offset

-- the rule counts, and is broken at this offset. No rule that counts is broken at a smaller one, and none of a smaller
-- number at this one
pub record IsFirstBrokenAt (registers : ℕ) (t : Terminals) (bytes : List ℕ) (events : List Placed) (rule : NamedRule)
    (offset : ℕ) : Type 0 where
  pub counts : CountsFor t rule
  pub broken : IsBrokenAt registers bytes events rule offset
  pub none_earlier : (m : NamedRule) (at : ℕ) → at < offset → CountsFor t m → ¬ IsBrokenAt registers bytes events m at
  pub none_smaller : (m : NamedRule) → number_of_named m < number_of_named rule → CountsFor t m
      → ¬ IsBrokenAt registers bytes events m offset

-- ---- differences

-- two terminals of the class, with room for the box, show different colours at the point, which is relative to the
-- origin of each
abbrev pub TwoDiffer : ℕ → List Placed → ℕ → ℕ → Type 0
TwoDiffer registers events x y = (t : Display) × (u : Display) × AreApart registers events x y t u

-- at a finding of three rules two terminals differ: of Uncovered and Outside at its pixel, and of EightBit, if it is
-- that of the finish, at the first pixel of the box
abbrev pub IsDifference : ℕ → List Placed → Rule → Option (ℕ × ℕ) → ℕ → Type 0
IsDifference registers events Uncovered pixel offset = IsSomeAnd pixel (λ p. TwoDiffer registers events p.0 p.1)
IsDifference registers events Outside pixel offset = IsSomeAnd pixel (λ p. TwoDiffer registers events p.0 p.1)
IsDifference registers events EightBit pixel offset =
    HoldsAtOffset (λ before e. IsTrue (is_finish e)) events offset → TwoDiffer registers events 0 0
IsDifference registers events _ pixel offset = ⊤

-- ---- the laws

-- the bytes are a document, and the finding is its first broken rule, and matters unless the rule is conservative
pub record IsTrueBroken (registers : ℕ) (t : Terminals) (bytes : List ℕ) (f : Finding) : Type 0 where
  pub events : List Placed
  pub document : Document events bytes
  pub first : IsFirstBrokenAt registers t bytes events (Portable f.rule) f.place
  pub matters : MattersUnlessConservative registers events (Broken f)
  pub differs : IsDifference registers events f.rule f.pixel f.place

-- the same of a rule that one of the terminals asks for
pub record IsTrueAsked (registers : ℕ) (t : Terminals) (bytes : List ℕ) (f : AskedFinding) : Type 0 where
  pub events : List Placed
  pub document : Document events bytes
  pub first : IsFirstBrokenAt registers t bytes events (Asked f.rule) f.place

-- if a check for these terminals, perhaps none, finds a broken rule, its text is the line of this finding, which is
-- true
abbrev pub BrokenLineIsTrue : Type 0
BrokenLineIsTrue =
    (profile : Profile) (t : Terminals) (bytes : List ℕ) (text : Text) (f : Finding)
    → Gives (Check profile t) bytes text (Ok (status.Broken f))
    → (text ≡ finding_line f) × IsTrueBroken (count_of profile) t bytes f

abbrev pub AskedLineIsTrue : Type 0
AskedLineIsTrue =
    (profile : Profile) (t : Terminals) (bytes : List ℕ) (text : Text) (f : AskedFinding)
    → Gives (Check profile t) bytes text (Ok (status.Asked f))
    → (text ≡ asked_line f) × IsTrueAsked (count_of profile) t bytes f

-- if no rule that counts is broken in a document, a check for these terminals is done
abbrev pub UnbrokenIsDone : Type 0
UnbrokenIsDone =
    (profile : Profile) (t : Terminals) (bytes : List ℕ) (events : List Placed) → Document events bytes
    → ((m : NamedRule) (offset : ℕ) → CountsFor t m → ¬ IsBrokenAt (count_of profile) bytes events m offset)
    → (text : Text) (answer : Result Status RunFault) → Gives (Check profile t) bytes text answer
    → answer ≡ Ok status.Done
