-- Each member has a value that reads back.
use Rattle.std.proofs.Common.{◌∷◌, ◌++◌, ◌<◌, ◌^◌, ℕ, [], Bool, false, true, List, Option, None, Some, inl, inr, refl}
use Rattle.std.proofs.lemmas.List.Elements.{All-from_recursion}
use Rattle.std.specs.List.{AllByRecursion}
use Rattle.std.specs.Prelude.{decimal}
use Rattle.json.specs.Token.{number, string}
use Rattle.sixel_model.specs.declared.rule.Rule.{Rule}
use Rattle.sixel_model.specs.declared.rule.Rule.TheVariants as rule
use Rattle.sixel_judge.specs.declared.verdict.Outcome.{Outcome as AnOutcome}
use Rattle.sixel_judge.specs.declared.verdict.Outcome.TheVariants as outcome
use Rattle.sixel_scan.specs.declared.answer.Answer.{Answer}
use Rattle.sixel_scan.specs.declared.answer.Answer.TheVariants.{Portable, Broken, Refused}
use Rattle.sixel_report.specs.declared.fault.RunFault.{RunFault}
use Rattle.sixel_report.specs.declared.fault.RunFault.TheVariants.{Grammar, Ppm}
use Rattle.sixel_report.specs.Texts.{Text}
use Rattle.sixel_report.specs.declared.item.Item.{Item}
use Rattle.sixel_report.specs.declared.item.Item.TheVariants.{Asked, AskedEntry, Outcome, Entry, Group, Same, String}
use Rattle.sixel_report.specs.declared.item.Item.TheVariants.{Unmodelled}
use Rattle.sixel_messages.specs.declared.unopened.Unopened.{Unopened}
use Rattle.sixel_program_laws.specs.Laws.{FitsAnswer, FitsFault, FitsItem, FitsOutcome, FitsPixel, HaveValues, IsValue}
use Rattle.sixel_messages.specs.Json.{Member, answer_members, broken_at, fault_members, file_member, item_members}
use Rattle.sixel_messages.specs.Json.{outcome_members, pixel_members, unread_members, wrapped_members}

abbrev Has : Member → Type 0
Has member = IsValue member.1

abbrev AllHave : List Member → Type 0
AllHave members = AllByRecursion Has members

a_text : (text : Text) → IsValue (string text)
a_text text = inr (inl (text, refl))

a_number : (n : ℕ) → n < 2 ^ 64 → IsValue (number (decimal n))
a_number n small = inr (inr (inl (n, small, refl)))

both_have : (a b : List Member) → AllHave a → AllHave b → AllHave (a ++ b)
both_have [] b h k = k
both_have (m ∷ a) b h k = (h.0, both_have a b h.1 k)

pixel_has : (r : Rule) (pixel : Option (ℕ × ℕ)) → FitsPixel pixel → AllHave (pixel_members r pixel)
pixel_has rule.Outside None fits = tt
pixel_has rule.Outside (Some pixel) fits = (a_number pixel.0 fits.0, (a_number pixel.1 fits.1, tt))
pixel_has rule.Uncovered None fits = tt
pixel_has rule.Uncovered (Some pixel) fits = (a_number pixel.0 fits.0, (a_number pixel.1 fits.1, tt))
pixel_has _ pixel fits = tt

broken_has : (r : Rule) (place : ℕ) (pixel : Option (ℕ × ℕ)) → place < 2 ^ 64 → FitsPixel pixel
    → AllHave (broken_at r place pixel)
broken_has r place pixel small fits =
    (a_number place small, both_have (pixel_members r pixel) _ (pixel_has r pixel fits) (a_text _, tt))

outcome_has : (o : AnOutcome) → FitsOutcome o → AllHave (outcome_members o)
outcome_has (outcome.Portable width height) fits =
    (a_text _, (a_number width fits.0, (a_number height fits.1, tt)))
outcome_has (outcome.Broken finding) fits =
    (a_text _, (a_text _, broken_has finding.rule finding.place finding.pixel fits.0 fits.1))

answer_has : (a : Answer) → FitsAnswer a → AllHave (answer_members a)
answer_has (Portable width height) fits = (a_text _, (a_number width fits.0, (a_number height fits.1, tt)))
answer_has (Broken finding) fits =
    (a_text _, (a_text _, broken_has finding.rule finding.place finding.pixel fits.0 fits.1))
answer_has (Refused fault) fits = (a_text _, (a_text _, (a_number fault.place fits, (a_text _, tt))))

wrapped_has : (wrapped : Bool) → AllHave (wrapped_members wrapped)
wrapped_has true = (inr (inr (inr refl)), tt)
wrapped_has false = tt

item_has : (item : Item) → FitsItem item → AllHave (item_members item)
unfolding item_members
item_has (Outcome o) fits = outcome_has o fits
item_has (Asked f) fits = (a_text _, (a_text _, (a_number f.place fits, (a_text _, tt))))
item_has (Entry e) fits =
    (a_text _, (a_text _, (a_number e.count fits.0, broken_has e.rule e.place e.pixel fits.1 fits.2)))
item_has (AskedEntry e) fits =
    (a_text _, (a_text _, (a_number e.count fits.0, (a_number e.place fits.1, (a_text _, tt)))))
item_has (String s) fits = (
  a_number s.place fits.0,
  both_have (wrapped_members s.wrapped) (answer_members s.answer) (wrapped_has s.wrapped)
      (answer_has s.answer fits.1),
)
item_has (Same width height) fits = tt
item_has (Group g) fits = tt
item_has (Unmodelled named place) fits = tt

fault_has : (fault : RunFault) → FitsFault fault → AllHave (fault_members fault)
unfolding fault_members
fault_has (Grammar fault) fits = (a_text _, (a_text _, (a_number fault.place fits, (a_text _, tt))))
fault_has (Ppm reason place) fits = (a_text _, (a_text _, (a_number place fits, (a_text _, tt))))
fault_has _ fits = (a_text _, (a_text _, (a_text _, tt)))

file_has : (label : Option Text) → IsValue (file_member label).1
unfolding file_member
file_has None = inl refl
file_has (Some name) = a_text name

with_file : (label : Option Text) (ms : List Member) → AllHave ms → HaveValues (file_member label ∷ ms)
with_file label ms h = All-from_recursion Has (file_member label ∷ ms) (file_has label, h)

pub item_values : (label : Option Text) (item : Item) → FitsItem item
    → HaveValues (file_member label ∷ item_members item)
item_values label item fits = with_file label (item_members item) (item_has item fits)

pub fault_values : (label : Option Text) (fault : RunFault) → FitsFault fault
    → HaveValues (file_member label ∷ fault_members fault)
fault_values label fault fits = with_file label (fault_members fault) (fault_has fault fits)

pub unread_values : (label : Option Text) (reason : Unopened) → HaveValues (file_member label ∷ unread_members reason)
unfolding unread_members
unread_values label reason = with_file label (unread_members reason) (a_text _, (a_text _, (a_text _, tt)))
