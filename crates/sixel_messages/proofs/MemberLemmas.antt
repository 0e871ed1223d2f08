-- Each value of the members is one token.
use Rattle.std.proofs.Common.{◌≡◌, ◌∷◌, ◌++◌, ℕ, Bool, false, true, [], List, Option, None, Some, refl}
use Rattle.sixel_grammar.specs.declared.fault.Fault.{Fault}
use Rattle.sixel_model.specs.declared.rule.Rule.{Rule}
use Rattle.sixel_model.specs.declared.rule.Rule.TheVariants as rule
use Rattle.sixel_judge.specs.declared.verdict.Outcome.{Outcome as AnOutcome}
use Rattle.sixel_judge.specs.declared.verdict.Outcome.TheVariants as outcome
use Rattle.sixel_scan.specs.declared.answer.Answer.{Answer}
use Rattle.sixel_scan.specs.declared.answer.Answer.TheVariants.{Portable, Broken, Refused}
use Rattle.sixel_ppm.specs.declared.ppm.PpmReason.{PpmReason}
use Rattle.sixel_explain.specs.Explanations.{topic_of}
use Rattle.sixel_report.specs.declared.fault.RunFault.{RunFault}
use Rattle.sixel_report.specs.declared.fault.RunFault.TheVariants.{Grammar, Ppm, Read}
use Rattle.sixel_report.specs.declared.item.Item.{Item}
use Rattle.sixel_report.specs.declared.item.Item.TheVariants.{Asked, AskedEntry, Outcome, Entry, Group, Same, String}
use Rattle.sixel_report.specs.declared.item.Item.TheVariants.{Unmodelled}
use Rattle.sixel_messages.specs.declared.unopened.Unopened.{Unopened}
use Rattle.sixel_messages.specs.Json.{Member, answer_members, broken_at, fault_members, item_members, outcome_members}
use Rattle.sixel_messages.specs.Json.{pixel_members, plain_refusal, unread_members, wrapped_members}
use Rattle.sixel_messages.proofs.JsonLemmas.{AllEnd}

pub both_end : (a b : List Member) → AllEnd a → AllEnd b → AllEnd (a ++ b)
both_end [] b e f = f
both_end (m ∷ a) b e f = (e.0, both_end a b e.1 f)

pixel_ends : (r : Rule) (pixel : Option (ℕ × ℕ)) → AllEnd (pixel_members r pixel)
pixel_ends rule.Outside None = tt
pixel_ends rule.Outside (Some pixel) = (refl, (refl, tt))
pixel_ends rule.Uncovered None = tt
pixel_ends rule.Uncovered (Some pixel) = (refl, (refl, tt))
pixel_ends _ pixel = tt

broken_ends : (r : Rule) (place : ℕ) (pixel : Option (ℕ × ℕ)) → AllEnd (broken_at r place pixel)
broken_ends r place pixel = (refl, both_end (pixel_members r pixel) _ (pixel_ends r pixel) (refl, tt))

outcome_ends : (o : AnOutcome) → AllEnd (outcome_members o)
outcome_ends (outcome.Portable width height) = (refl, (refl, (refl, tt)))
outcome_ends (outcome.Broken finding) = (refl, (refl, broken_ends finding.rule finding.place finding.pixel))

answer_ends : (a : Answer) → AllEnd (answer_members a)
answer_ends (Portable width height) = (refl, (refl, (refl, tt)))
answer_ends (Broken finding) = (refl, (refl, broken_ends finding.rule finding.place finding.pixel))
answer_ends (Refused fault) = (refl, (refl, (refl, (refl, tt))))

wrapped_ends : (wrapped : Bool) → AllEnd (wrapped_members wrapped)
wrapped_ends true = (refl, tt)
wrapped_ends false = tt

pub item_ends : (item : Item) → AllEnd (item_members item)
unfolding item_members
item_ends (Outcome o) = outcome_ends o
item_ends (Asked f) = (refl, (refl, (refl, (refl, tt))))
item_ends (Entry e) = (refl, (refl, (refl, broken_ends e.rule e.place e.pixel)))
item_ends (AskedEntry e) = (refl, (refl, (refl, (refl, (refl, tt)))))
item_ends (String s) =
    (refl, both_end (wrapped_members s.wrapped) (answer_members s.answer) (wrapped_ends s.wrapped) (answer_ends s.answer))
item_ends (Same width height) = tt
item_ends (Group g) = tt
item_ends (Unmodelled named place) = tt

pub fault_ends : (fault : RunFault) → AllEnd (fault_members fault)
unfolding fault_members
fault_ends (Grammar fault) = (refl, (refl, (refl, (refl, tt))))
fault_ends (Ppm reason place) = (refl, (refl, (refl, (refl, tt))))
fault_ends _ = (refl, (refl, (refl, tt)))

pub unread_ends : (reason : Unopened) → AllEnd (unread_members reason)
unfolding unread_members
unread_ends reason = (refl, (refl, (refl, tt)))

-- any other fault has a reason only
pub plain_fault : (fault : RunFault) → ((f : Fault) → fault ≡ Grammar f → ⊥)
    → ((reason : PpmReason) (place : ℕ) → fault ≡ Ppm reason place → ⊥) → (fault ≡ Read → ⊥)
    → fault_members fault ≡ plain_refusal (topic_of fault)
unfolding fault_members
plain_fault (Grammar f) grammar ppm read = absurd (grammar f refl)
plain_fault (Ppm reason place) grammar ppm read = absurd (ppm reason place refl)
plain_fault Read grammar ppm read = absurd (read refl)
plain_fault _ grammar ppm read = refl
