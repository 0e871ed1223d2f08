-- Lemmas for the laws of `show --box`.
use Rattle.std.proofs.Common.{◌≡◌, ◌∙◌, ℕ, Bool, true, false, List, [], Option, Some, None, refl, subst}
use Rattle.std.specs.Prelude.{◌&&◌, option_and_then, IsTrue, Result, Err}
use Rattle.std.specs.Bool.{then_some}
use Rattle.sixel_grammar.specs.declared.command.Event.{Event}
use Rattle.sixel_grammar.specs.declared.command.Placed.{Placed}
use Rattle.sixel_grammar.specs.declared.fault.Fault.{Fault}
use Rattle.sixel_grammar.specs.Document.{Document, events_of}
use Rattle.sixel_grammar.specs.Faults.{IsFaultOf}
use Rattle.sixel_model.specs.declared.profile.Profile.{Profile}
use Rattle.sixel_model.specs.Events.{Attributes}
use Rattle.sixel_ppm.specs.Ppm.{is_file_side}
use Rattle.sixel_model.specs.Rules.{raster_before}
use Rattle.sixel_terminal.specs.Displays.{Display}
use Rattle.sixel_report.specs.declared.fault.RunFault.{RunFault}
use Rattle.sixel_report.specs.declared.fault.RunFault.TheVariants.{Grammar, NoBox}
use Rattle.sixel_report.specs.declared.task.Status.{Status}
use Rattle.sixel_show.specs.Outputs.{ShowBoxGives, ShowGives}
use Rattle.sixel_show.specs.Screens.{declared_screen, sides_of_box}
use Rattle.sixel_report.specs.Texts.{Text}
use Rattle.sixel_show.proofs.ScreenLemmas.{show-once}
use Rattle.sixel_show.proofs.BoxLemmas.{faulty}

abbrev Sides : Type 0
Sides = ℕ × ℕ

-- ---- the same as equivalences

pub no-box : (profile : Profile) (terminal : Sides → Display) (bytes : List ℕ) (d : List Placed) → Document d bytes
    → declared_screen (events_of d) ≡ None → (text : Text) (answer : Result Status RunFault) → text ≡ []
    → answer ≡ Err NoBox → ShowBoxGives profile terminal bytes text answer
no-box profile terminal bytes d doc none text answer e f = rw (e, f) (refl, (d, doc, none))

pub fault-shown : (profile : Profile) (terminal : Sides → Display) (sides : Sides) (bytes : List ℕ) (fault : Fault)
    → IsFaultOf bytes fault → (text : Text) (answer : Result Status RunFault) → ShowBoxGives profile terminal bytes text answer
    → ShowGives profile (terminal sides) bytes text answer
fault-shown profile terminal sides bytes fault is text answer g =
    let same = faulty profile terminal bytes fault is text answer g in rw (same.0, same.1) (refl, is)

pub fault-boxed : (profile : Profile) (terminal : Sides → Display) (sides : Sides) (bytes : List ℕ) (fault : Fault)
    → IsFaultOf bytes fault → (text : Text) (answer : Result Status RunFault) → ShowGives profile (terminal sides) bytes text answer
    → ShowBoxGives profile terminal bytes text answer
fault-boxed profile terminal sides bytes fault is text answer g =
    let same = show-once profile (terminal sides) bytes text [] answer (Err (Grammar fault)) g (refl, is) in
    rw (same.0, same.1) (refl, is)
