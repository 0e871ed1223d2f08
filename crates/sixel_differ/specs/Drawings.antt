-- The drawings of the named terminals while a document is read. Only contracts of private functions cite these.
use Rattle.std.specs.Prelude.{◌≡◌, ℕ, List, []}
use Rattle.sixel_grammar.specs.declared.command.Event.{Event}
use Rattle.sixel_grammar.specs.declared.command.Placed.{Placed}
use Rattle.sixel_grammar.specs.Document.{events_of}
use Rattle.sixel_model.specs.declared.colour.Parts.{Parts}
use Rattle.sixel_grammar.specs.declared.both.Both.{Both}
use Rattle.sixel_foot.specs.declared.foot.Foot.{Foot as FootReading}
use Rattle.sixel_konsole.specs.declared.konsole.Konsole.{Konsole as KonsoleReading}
use Rattle.sixel_konsole.specs.declared.measuring.Measuring.{Measuring}
use Rattle.sixel_mlterm.specs.declared.mlterm.MlTerm.{MlTerm as MlTermReading}
use Rattle.sixel_emulator.specs.declared.hearing.Hearing.{Hearing}
use Rattle.sixel_emulator.specs.declared.hearing.Omitted.{Omitted}
use Rattle.sixel_emulator.specs.declared.modelled.Modelled.{Modelled}
use Rattle.sixel_named_terminals.specs.declared.named.Named.{Named}
use Rattle.sixel_named_terminals.specs.declared.named.Named.TheVariants.{XTerm, MlTerm, Foot, Konsole}
use Rattle.sixel_xterm.specs.declared.xterm.XTerm.{XTerm as XTermReading}
use Rattle.sixel_foot.specs.FootSeen.{HasSeenFoot}
use Rattle.sixel_konsole.specs.Konsole.{konsole_model}
use Rattle.sixel_konsole.specs.KonsoleSeen.{HasSeenKonsole}
use Rattle.sixel_konsole.specs.Measuring.{HasTakenAll}
use Rattle.sixel_mlterm.specs.MlTermSeen.{HasSeenMlTerm}
use Rattle.sixel_emulator.specs.Modelled.{HasFollowed}
use Rattle.sixel_named_terminals.specs.Named.{model_of, terminal_on}
use Rattle.sixel_konsole.specs.Settings.{konsole_display}
use Rattle.sixel_xterm.specs.XTermSeen.{HasSeenXTerm}

-- a drawing by konsole's model, and a measure of its rectangle
abbrev pub OnKonsole : Type 0
OnKonsole = Both (Modelled KonsoleReading) Measuring

-- a drawing by the model of each terminal
abbrev pub Drawings : Type 0
Drawings = Both (Both (Modelled XTermReading) (Modelled MlTermReading)) (Both (Modelled FootReading) OnKonsole)

-- this one, by the model of the named terminal and on its screen, has taken these events
pub record HasDrawn {R : Type 0} (named : Named) (has_seen : R → List Event → Type 0) (background : Parts)
    (sides : ℕ × ℕ) (w : Modelled R) (placed : List Placed) : Type 0 where
  pub terminal : w.progress.drawing.terminal ≡ terminal_on named background [] sides
  pub followed : HasFollowed (model_of named) has_seen w [] placed

-- konsole's has taken them without its rectangle, and they are measured
pub record HasDrawnKonsole (background : Parts) (sides : ℕ × ℕ) (w : OnKonsole) (placed : List Placed) : Type 0 where
  pub terminal : w.one.progress.drawing.terminal ≡ konsole_display background 1 sides.0 sides.1
  pub followed : HasFollowed konsole_model HasSeenKonsole w.one [] placed
  pub measured : HasTakenAll w.other (events_of placed)

-- each has taken the events that its terminal hears
pub record HaveDrawn (background : Parts) (sides : ℕ × ℕ) (d : Drawings) (heard : Named → List Placed) : Type 0 where
  pub xterm : HasDrawn XTerm HasSeenXTerm background sides d.one.one (heard XTerm)
  pub mlterm : HasDrawn MlTerm HasSeenMlTerm background sides d.one.other (heard MlTerm)
  pub foot : HasDrawn Foot HasSeenFoot background sides d.other.one (heard Foot)
  pub konsole : HasDrawnKonsole background sides d.other.other (heard Konsole)

-- no event is heard
abbrev pub nothing_heard : Named → List Placed
nothing_heard named = []

-- ---- while they are drawn

-- the same while they draw: all but foot may hear commands otherwise
abbrev pub Hearings : Type 0
Hearings =
    Both (Both (Hearing (Modelled XTermReading)) (Hearing (Modelled MlTermReading)))
    (Both (Modelled FootReading) (Hearing OnKonsole))

-- they hear these otherwise
abbrev pub hearing_all : Drawings → Omitted → Omitted → Omitted → Hearings
hearing_all d xterm mlterm konsole = record {
  one = record {
    one = record { listener = d.one.one; omitted = xterm };
    other = record { listener = d.one.other; omitted = mlterm };
  };
  other = record { one = d.other.one; other = record { listener = d.other.other; omitted = konsole } };
}

abbrev pub drawings_in : Hearings → Drawings
drawings_in h = record {
  one = record { one = h.one.one.listener; other = h.one.other.listener };
  other = record { one = h.other.one; other = h.other.other.listener };
}
