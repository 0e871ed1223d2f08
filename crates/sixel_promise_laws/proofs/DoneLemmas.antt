-- A check that is done has found a picture.
use Rattle.std.proofs.Common.{◌≡◌, ◌∙◌, ℕ, true, List, None, Ok, Some, ap, subst, sym}
use Rattle.std.specs.Prelude.{IfSome}
use Rattle.sixel_grammar.specs.declared.command.Placed.{Placed}
use Rattle.sixel_grammar.specs.Document.{AreWhole, Document, events_of}
use Rattle.sixel_grammar.proofs.TotalLemmas.{document_whole}
use Rattle.sixel_grammar.specs.declared.command.Event.{Event}
use Rattle.sixel_model.specs.declared.rule.Rule.TheVariants.{Uncovered}
use Rattle.sixel_model.specs.Events.{Attributes, has_sides, raster_of}
use Rattle.sixel_model.specs.Pictures.{PictureValue}
use Rattle.sixel_model.specs.Rules.{BreaksNone, breaks_box_size, last_rule, picture_left, raster_before}
use Rattle.sixel_model.proofs.LatestLemmas.{each_from_positions}
use Rattle.sixel_model.proofs.RuleLemmas.{keeps_at, none_drawn}
use Rattle.sixel_judge.specs.Portable.{IsPortable}
use Rattle.sixel_judge.proofs.CoverLemmas.{box_there}
use Rattle.sixel_judge.proofs.DifferenceLemmas.{earliest_each, sides_if}
use Rattle.sixel_judge.proofs.OptionLemmas.{some_value}
use Rattle.sixel_judge.proofs.ShownLemmas.{left_is_portable, size_left}
use Rattle.sixel_emulator_rules.specs.Asked.{BreaksNoneAsked}
use Rattle.sixel_emulator_rules.specs.declared.terminals.Terminals.{Terminals}
use Rattle.sixel_emulator_check.specs.Verdicts.{IsVerdictOn}
use Rattle.sixel_emulator_check.specs.Written.{IsBareOn, IsVerdictOf}
use Rattle.sixel_emulator_check.specs.declared.verdict.NamedVerdict.{NamedVerdict}
use Rattle.sixel_emulator_check.specs.declared.verdict.NamedVerdict.TheVariants.{Portable, Broken, Asked}
use Rattle.sixel_emulator_check.proofs.WrittenLemmas.{picture_of}
use Rattle.sixel_report.specs.declared.task.Status.TheVariants.{Done}
use Rattle.sixel_report.specs.Texts.{Text, named_verdict_line, portable_line}
use Rattle.sixel_run.specs.Outputs.{CheckGives, status_of}

-- the bytes are a document that breaks no rule that counts, and the text is the line of the picture that it leaves
pub record IsDone (registers : ℕ) (t : Terminals) (bytes : List ℕ) (text : Text) : Type 0 where
  pub events : List Placed
  pub document : Document events bytes
  pub picture : PictureValue
  pub verdict : IsVerdictOf registers t bytes events (Portable picture)
  pub line : text ≡ portable_line picture
  pub unbroken : BreaksNone registers last_rule (events_of events)
  pub unasked : BreaksNoneAsked t (events_of events)
  pub left : picture ≡ picture_left registers (events_of events)
  pub unbare : IsBareOn t bytes None

done_by : (registers : ℕ) (t : Terminals) (bytes : List ℕ) (text : Text) (events : List Placed) (v : NamedVerdict)
    → Document events bytes → IsVerdictOf registers t bytes events v → text ≡ named_verdict_line v → Done ≡ status_of v
    → IsDone registers t bytes text
done_by registers t bytes text events (Portable p) document w line status =
    let of = picture_of p w in
    let is : IsVerdictOn registers t events (Portable p) = of.is in
    record {
      events = events;
      document = document;
      picture = p;
      verdict = w;
      line = line;
      unbroken = is.0;
      unasked = is.1;
      left = is.2;
      unbare = of.no_bare;
    }
done_by registers t bytes text events (Broken f) document w line status = cc status
done_by registers t bytes text events (Asked f) document w line status = cc status

pub done : (registers : ℕ) (t : Terminals) (bytes : List ℕ) (text : Text) → CheckGives registers t bytes text (Ok Done)
    → IsDone registers t bytes text
done registers t bytes text g = done_by registers t bytes text g.0 g.2.0 g.1 g.2.1 g.2.2 g.2.3

pub done_whole : {registers : ℕ} {t : Terminals} {bytes : List ℕ} {text : Text} → (d : IsDone registers t bytes text)
    → AreWhole (events_of d.events)
done_whole {bytes = bytes} d = document_whole d.events bytes d.document

-- the picture is portable
pub done_portable : {registers : ℕ} {t : Terminals} {bytes : List ℕ} {text : Text} → (d : IsDone registers t bytes text)
    → IsPortable registers (events_of d.events) d.picture
done_portable {registers} d =
    subst (IsPortable registers (events_of d.events)) (sym d.left)
    (left_is_portable registers (events_of d.events) (done_whole d) d.unbroken)

-- ---- the box

-- the picture has the size of the declared box, whose sides are in range
pub record HasBox (events : List Event) (p : PictureValue) : Type 0 where
  pub box : Attributes
  pub declared : raster_before events ≡ Some box
  pub width : p.width ≡ box.width
  pub height : p.height ≡ box.height
  pub sides : has_sides box ≡ true

first_sides : (n : ℕ) (events : List Event) (a : Attributes) → BreaksNone n Uncovered events
    → raster_before events ≡ Some a → has_sides a ≡ true
unfolding breaks_box_size raster_before
first_sides n events a none box =
    rw box at (earliest_each raster_of (λ a. has_sides a ≡ true) events
    (each_from_positions (λ e. IfSome (raster_of e) (λ a. has_sides a ≡ true)) events
    (λ j e here. sides_if (raster_of e) (keeps_at n events none j e here).box_size)))

pub done_box : {registers : ℕ} {t : Terminals} {bytes : List ℕ} {text : Text} → (d : IsDone registers t bytes text)
    → HasBox (events_of d.events) d.picture
done_box {registers} d =
    let events : List Event = events_of d.events in
    let drawn : BreaksNone registers Uncovered events = none_drawn registers events d.unbroken in
    let a = some_value (raster_before events) (box_there registers events (done_whole d) drawn) in
    let size = size_left registers events a.0 a.1 in
    record {
      box = a.0;
      declared = a.1;
      width = ap (λ (p : PictureValue). p.width) d.left ∙ size.0;
      height = ap (λ (p : PictureValue). p.height) d.left ∙ size.1;
      sides = first_sides registers events a.0 drawn a.1;
    }
