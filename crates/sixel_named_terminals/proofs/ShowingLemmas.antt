-- What the drawing by a model shows.
use Rattle.std.proofs.Common.{◌≡◌, ◌∙◌, ◌++◌, ℕ, [], List, ap, sym, subst}
use Rattle.std.specs.Prelude.{IfSome, Option, None, Some, Result, Ok, Err}
use Rattle.sixel_grammar.specs.declared.command.Event.{Event}
use Rattle.sixel_grammar.specs.declared.command.Placed.{Placed}
use Rattle.sixel_grammar.specs.Document.{Document, events_of}
use Rattle.sixel_grammar.proofs.UniqueLemmas.{document_once, fault_no_document}
use Rattle.sixel_model.specs.declared.colour.Parts.{Parts}
use Rattle.sixel_terminal.specs.Displays.{Display}
use Rattle.sixel_terminal.specs.Drawing.{screen_on}
use Rattle.sixel_terminal.specs.Drawings.{Drawn, HasDrawn}
use Rattle.sixel_terminal.specs.Screens.{IsScreenAfter, Shown}
use Rattle.sixel_named_terminals.specs.declared.named.Named.{Named}
use Rattle.sixel_named_terminals.specs.declared.showing.ShowFault.{ShowFault}
use Rattle.sixel_named_terminals.specs.declared.showing.ShowFault.TheVariants.{Grammar, Unmodelled, OutOfMemory}
use Rattle.sixel_emulator.specs.Modelled.{EndsAtPlace, IsDrawingOf}
use Rattle.sixel_named_terminals.specs.Named.{DrawsNothingFirst, GivesScreen, ShowsDocument, ShowsOn, heard_on, model_of}
use Rattle.sixel_named_terminals.specs.Named.{terminal_on}
use Rattle.sixel_emulator.specs.Readings.{Model}

-- the screen is that of the drawing
pub record Finishes (d : Drawn) (screen : Shown) : Type 0 where
  pub width : screen.width ≡ d.terminal.choices.screen_width
  pub height : screen.height ≡ d.terminal.choices.screen_height
  pub colours : (events : List Event) → HasDrawn d events → screen.colours ≡ screen_on d.terminal events

is_after : (t : Display) (d : Drawn) (screen : Shown) (drawing : List Event) → d.terminal ≡ t → Finishes d screen
    → HasDrawn d drawing → IsScreenAfter t screen drawing
is_after t d screen drawing is s drawn = record {
  width = s.width ∙ ap (λ (u : Display). u.choices.screen_width) is;
  height = s.height ∙ ap (λ (u : Display). u.choices.screen_height) is;
  colours = s.colours drawing drawn ∙ ap (λ (u : Display). screen_on u drawing) is;
}

pub shows_drawing : (named : Named) (background : Parts) (sides : ℕ × ℕ) (opening : List Event) (bytes : List ℕ)
    (m : Model) (d : Drawn) (screen : Shown) → m ≡ model_of named
    → d.terminal ≡ terminal_on named background opening sides → Finishes d screen
    → (placed : List Placed) → Document placed bytes → IsDrawingOf m opening (events_of (heard_on named bytes placed)) d
    → ShowsOn named background sides opening bytes (Ok screen)
shows_drawing named background sides opening bytes m d screen model terminal finishes placed document drawing =
    let g : IsDrawingOf (model_of named) opening (events_of (heard_on named bytes placed)) d =
    subst (λ (n : Model). IsDrawingOf n opening (events_of (heard_on named bytes placed)) d) model drawing in (
      placed,
      document,
      λ is. record {
        said = g.said;
        drawing = (model_of named).opening (events_of (heard_on named bytes placed)) ++ g.drawing;
        is_reading = g.is_reading;
        after = is_after (terminal_on named background ((model_of named).opening (events_of (heard_on named bytes placed))) sides) d screen
            ((model_of named).opening (events_of (heard_on named bytes placed)) ++ g.drawing)
            (terminal ∙ ap (λ (o : List Event). terminal_on named background o sides) is) finishes
            (subst (λ (o : List Event). HasDrawn d (o ++ g.drawing)) is g.drawn);
      },
    )

pub shows_end : (named : Named) (background : Parts) (sides : ℕ × ℕ) (opening : List Event) (bytes : List ℕ) (m : Model)
    (place : ℕ) → m ≡ model_of named → (placed : List Placed) → Document placed bytes → EndsAtPlace m (heard_on named bytes placed) place
    → ShowsOn named background sides opening bytes (Err (Unmodelled place))
shows_end named background sides opening bytes m place model placed document ends =
    (placed, document, subst (λ (n : Model). EndsAtPlace n (heard_on named bytes placed) place) model ends)

-- ---- while a source is read

pub if_known : {P Q : List ℕ → Type 0} (o : Option (List ℕ)) → ((bytes : List ℕ) → P bytes → Q bytes) → IfSome o P
    → IfSome o Q
if_known None f h = h
if_known (Some bytes) f h = f bytes h

pub gives_drawing : (named : Named) (background : Parts) (sides : ℕ × ℕ) (bytes : List ℕ) (m : Model) (d : Drawn)
    (screen : Shown) → DrawsNothingFirst named → m ≡ model_of named
    → d.terminal ≡ terminal_on named background [] sides → Finishes d screen
    → (placed : List Placed) → Document placed bytes → IsDrawingOf m [] (events_of (heard_on named bytes placed)) d
    → GivesScreen named background sides bytes (Ok screen)
gives_drawing named background sides bytes m d screen none model terminal finishes placed document drawing =
    let shows : ShowsOn named background sides [] bytes (Ok screen) =
    shows_drawing named background sides [] bytes m d screen model terminal finishes placed document drawing in
    (shows.0, shows.1, shows.2 (sym (none (events_of (heard_on named bytes shows.0)))))

-- ---- a document that was drawn at once

pub shows_again : (named : Named) (background : Parts) (sides : ℕ × ℕ) (opening : List Event) (bytes : List ℕ)
    (result : Result Shown ShowFault) (placed : List Placed) → Document placed bytes
    → opening ≡ (model_of named).opening (events_of (heard_on named bytes placed)) → ShowsOn named background sides opening bytes result
    → ShowsDocument named background sides bytes result
shows_again named background sides opening bytes (Ok screen) placed document is s = (
  s.0,
  s.1,
  s.2 (is ∙ ap (λ (ps : List Placed). (model_of named).opening (events_of (heard_on named bytes ps)))
      (document_once bytes placed s.0 document s.1)),
)
shows_again named background sides opening bytes (Err (Grammar fault)) placed document is s =
    fault_no_document bytes fault s (placed, document)
shows_again named background sides opening bytes (Err (Unmodelled place)) placed document is s = s
shows_again named background sides opening bytes (Err OutOfMemory) placed document is s = s
