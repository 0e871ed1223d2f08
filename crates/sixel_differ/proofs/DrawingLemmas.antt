-- The drawings of the named terminals while a document is read.
use Rattle.std.proofs.Common.{◌≡◌, ◌∙◌, ◌++◌, ℕ, List, [], ap, subst, sym}
use Rattle.std.specs.Prelude.{Err, IfOk, Ok, Result}
use Rattle.sixel_grammar.specs.declared.command.Event.{Event}
use Rattle.sixel_grammar.specs.declared.command.Placed.{Placed}
use Rattle.sixel_grammar.specs.Document.{Document, events_of}
use Rattle.sixel_grammar.proofs.UniqueLemmas.{document_once}
use Rattle.sixel_model.specs.declared.colour.Parts.{Parts}
use Rattle.sixel_terminal.specs.Displays.{Display}
use Rattle.sixel_terminal.specs.Drawing.{screen_on}
use Rattle.sixel_terminal.specs.Drawings.{Drawn}
use Rattle.sixel_terminal.specs.Screens.{Shown}
use Rattle.sixel_emulator.specs.declared.modelled.Modelled.{Modelled}
use Rattle.sixel_named_terminals.specs.declared.named.Named.{Named}
use Rattle.sixel_named_terminals.specs.declared.named.Named.TheVariants.{Foot, Konsole, MlTerm, XTerm}
use Rattle.sixel_named_terminals.specs.declared.showing.ShowFault.TheVariants.{Unmodelled as Ends}
use Rattle.sixel_konsole.specs.Konsole.{konsole_model}
use Rattle.sixel_konsole.specs.KonsoleSeen.{HasSeenKonsole}
use Rattle.sixel_konsole.specs.Measuring.{HasTakenOn}
use Rattle.sixel_emulator.specs.Modelled.{EndsAtPlace, HasFollowed, HasFollowedOn, IsDrawingOf}
use Rattle.sixel_named_terminals.specs.Named.{DrawsNothingFirst, IsScreenOn, ShowsDocument, heard_on, hears_on}
use Rattle.sixel_named_terminals.specs.Named.{model_of, terminal_on}
use Rattle.sixel_emulator.specs.Readings.{IsReading}
use Rattle.sixel_named_terminals.proofs.ShowingLemmas.{Finishes}
use Rattle.sixel_foot.specs.FootSeen.{HasSeenFoot}
use Rattle.sixel_mlterm.specs.MlTermSeen.{HasSeenMlTerm}
use Rattle.sixel_xterm.specs.XTermSeen.{HasSeenXTerm}
use Rattle.sixel_emulator.specs.declared.hearing.Omitted.{Omitted}
use Rattle.sixel_emulator.specs.Heard.{HasHeardOn, heard, omitted_in}
use Rattle.sixel_differ.specs.Drawings.{Drawings, HasDrawn, HasDrawnKonsole, HaveDrawn, Hearings, OnKonsole}
use Rattle.sixel_differ.specs.Drawings.{drawings_in, hearing_all, nothing_heard}

-- ---- before any event

pub drawn_if_ok : {R E : Type 0} (named : Named) (has_seen : R → List Event → Type 0) (background : Parts)
    (sides : ℕ × ℕ) (begun : Result (Modelled R) E)
    → IfOk begun (λ w. w.progress.drawing.terminal ≡ terminal_on named background [] sides)
    → IfOk begun (λ w. HasFollowed (model_of named) has_seen w [] [])
    → IfOk begun (λ w. HasDrawn named has_seen background sides w [])
drawn_if_ok named has_seen background sides (Ok w) terminal followed =
    record { terminal = terminal; followed = followed }
drawn_if_ok named has_seen background sides (Err e) terminal followed = tt

-- ---- after more events

pub drawn_on : {R : Type 0} (named : Named) (has_seen : R → List Event → Type 0) (background : Parts) (sides : ℕ × ℕ)
    (first now : Modelled R) (placed : List Placed) → HasFollowedOn (model_of named) has_seen first now placed
    → HasDrawn named has_seen background sides first [] → HasDrawn named has_seen background sides now placed
drawn_on named has_seen background sides first now placed on begun = record {
  terminal = on.0 ∙ begun.terminal;
  followed = on.1 [] begun.followed;
}

pub konsole_drawn_on : (background : Parts) (sides : ℕ × ℕ) (first now : OnKonsole) (placed : List Placed)
    → HasFollowedOn konsole_model HasSeenKonsole first.one now.one placed → HasTakenOn first.other now.other placed
    → HasDrawnKonsole background sides first [] → HasDrawnKonsole background sides now placed
konsole_drawn_on background sides first now placed on taken begun = record {
  terminal = on.0 ∙ begun.terminal;
  followed = on.1 [] begun.followed;
  measured = taken begun.measured;
}

-- what konsole's drawing and its measure do
abbrev pub HasTakenOnKonsole : OnKonsole → OnKonsole → List Placed → Type 0
HasTakenOnKonsole first now placed =
    HasFollowedOn konsole_model HasSeenKonsole first.one now.one placed × HasTakenOn first.other now.other placed

-- what all of them do while they take these events
abbrev pub HaveHeardOn : Hearings → Hearings → List Placed → Type 0
HaveHeardOn first now placed =
    (HasHeardOn (HasFollowedOn (model_of XTerm) HasSeenXTerm) first.one.one now.one.one placed
    × HasHeardOn (HasFollowedOn (model_of MlTerm) HasSeenMlTerm) first.one.other now.one.other placed)
    × (HasFollowedOn (model_of Foot) HasSeenFoot first.other.one now.other.one placed
    × HasHeardOn HasTakenOnKonsole first.other.other now.other.other placed)

pub have_drawn_on : (bytes : List ℕ) (xterm mlterm konsole : Omitted) (first : Drawings) (now : Hearings)
    (placed : List Placed) → xterm ≡ omitted_in (hears_on XTerm) bytes → mlterm ≡ omitted_in (hears_on MlTerm) bytes
    → konsole ≡ omitted_in (hears_on Konsole) bytes → HaveHeardOn (hearing_all first xterm mlterm konsole) now placed
    → (background : Parts) (sides : ℕ × ℕ) → HaveDrawn background sides first nothing_heard
    → HaveDrawn background sides (drawings_in now) (λ named. heard_on named bytes placed)
have_drawn_on bytes xterm mlterm konsole first now placed x m k on background sides begun = record {
  xterm = subst (λ (o : Omitted).
      HasDrawn XTerm HasSeenXTerm background sides now.one.one.listener (heard o placed)) x
      (drawn_on XTerm HasSeenXTerm background sides first.one.one now.one.one.listener (heard xterm placed) on.0.0.1
      begun.xterm);
  mlterm = subst (λ (o : Omitted).
      HasDrawn MlTerm HasSeenMlTerm background sides now.one.other.listener (heard o placed)) m
      (drawn_on MlTerm HasSeenMlTerm background sides first.one.other now.one.other.listener (heard mlterm placed)
      on.0.1.1 begun.mlterm);
  foot = drawn_on Foot HasSeenFoot background sides first.other.one now.other.one placed on.1.0 begun.foot;
  konsole = subst (λ (o : Omitted).
      HasDrawnKonsole background sides now.other.other.listener (heard o placed)) k
      (konsole_drawn_on background sides first.other.other now.other.other.listener (heard konsole placed) on.1.1.1.0
      on.1.1.1.1 begun.konsole);
}

-- ---- at the end

pub screen_drawn : (named : Named) (background : Parts) (sides : ℕ × ℕ) (events : List Event) (d : Drawn)
    (screen : Shown) → DrawsNothingFirst named → d.terminal ≡ terminal_on named background [] sides
    → Finishes d screen → IsDrawingOf (model_of named) [] events d → IsScreenOn named background sides events screen
screen_drawn named background sides events d screen none terminal finishes drawing =
    let t = terminal ∙ ap (λ (o : List Event). terminal_on named background o sides) (sym (none events)) in record {
      said = drawing.said;
      drawing = drawing.drawing;
      is_reading = subst (λ (o : List Event). IsReading (model_of named) events (o ++ drawing.drawing)) (none events)
          drawing.is_reading;
      after = record {
        width = finishes.width ∙ ap (λ (u : Display). u.choices.screen_width) t;
        height = finishes.height ∙ ap (λ (u : Display). u.choices.screen_height) t;
        colours = finishes.colours drawing.drawing drawing.drawn
            ∙ ap (λ (u : Display). screen_on u drawing.drawing) t;
      };
    }

-- konsole's view, of any reading of the document
pub konsole_shown : (background : Parts) (sides : ℕ × ℕ) (bytes : List ℕ) (screen : Shown) (placed : List Placed)
    → ShowsDocument Konsole background sides bytes (Ok screen) → Document placed bytes
    → IsScreenOn Konsole background sides (events_of (heard_on Konsole bytes placed)) screen
konsole_shown background sides bytes screen placed shows doc =
    subst (λ (d : List Placed). IsScreenOn Konsole background sides (events_of (heard_on Konsole bytes d)) screen)
    (document_once bytes shows.0 placed shows.1 doc) shows.2

pub konsole_ended : (background : Parts) (sides : ℕ × ℕ) (bytes : List ℕ) (place : ℕ) (placed : List Placed)
    → ShowsDocument Konsole background sides bytes (Err (Ends place)) → Document placed bytes
    → EndsAtPlace (model_of Konsole) (heard_on Konsole bytes placed) place
konsole_ended background sides bytes place placed shows doc =
    subst (λ (d : List Placed). EndsAtPlace (model_of Konsole) (heard_on Konsole bytes d) place)
    (document_once bytes shows.0 placed shows.1 doc) shows.2
