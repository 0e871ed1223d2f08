-- A document that konsole draws while it is read.
use Rattle.std.proofs.Common.{◌≡◌, ◌≢◌, ◌∙◌, ◌++◌, [], ℕ, List, ap, refl, subst, sym}
use Rattle.std.specs.Prelude.{Result, Ok, Err}
use Rattle.std.specs.declared.convert.Infallible.{Infallible}
use Rattle.sixel_grammar.specs.declared.command.Event.{Event}
use Rattle.sixel_grammar.specs.declared.command.Placed.{Placed}
use Rattle.sixel_grammar.specs.declared.reader.Reader.{Reader}
use Rattle.sixel_grammar.specs.declared.halt.Halt.{Halt}
use Rattle.sixel_grammar.specs.declared.halt.Halt.TheVariants.{Refused, Stopped}
use Rattle.sixel_grammar.specs.Document.{Document, events_of}
use Rattle.sixel_grammar.specs.Pieces.{Begins, HaltsPiece}
use Rattle.sixel_grammar.specs.Standing.{StandsAfter}
use Rattle.sixel_grammar.proofs.StandLemmas.{read_complete}
use Rattle.sixel_grammar.proofs.UniqueLemmas.{complete_stays}
use Rattle.sixel_model.specs.declared.colour.Parts.{Parts}
use Rattle.sixel_terminal.proofs.FollowLemmas.{events_then}
use Rattle.sixel_konsole.specs.declared.measuring.Measuring.{Measuring}
use Rattle.sixel_emulator.specs.declared.hearing.Hearing.{Hearing}
use Rattle.sixel_emulator.specs.declared.hearing.Hears.{Hears}
use Rattle.sixel_named_terminals.specs.declared.named.Named.{Named}
use Rattle.sixel_konsole.specs.Konsole.{konsole_model}
use Rattle.sixel_konsole.specs.KonsoleSeen.{HasSeenKonsole}
use Rattle.sixel_konsole.specs.Measuring.{HasTakenAll}
use Rattle.sixel_emulator.specs.declared.hearing.Hears.TheVariants.{Boxes}
use Rattle.sixel_emulator.specs.Heard.{heard, nothing_omitted, omitted_in}
use Rattle.sixel_emulator.specs.Looking.{HasHeardPieces, HasLooked}
use Rattle.sixel_emulator.specs.Modelled.{HasFollowed}
use Rattle.sixel_emulator.proofs.HeardLemmas.{heard_append, heard_stays, nothing_yet}
use Rattle.sixel_report.specs.declared.fault.RunFault.{RunFault}
use Rattle.sixel_report.specs.declared.fault.RunFault.TheVariants.{Grammar, NoBox, OutOfMemory, Read, Unmodelled, Write}
use Rattle.sixel_show.specs.declared.on_konsole.Kept.{Kept}
use Rattle.sixel_report.specs.declared.task.Area.{Area}
use Rattle.sixel_terminal.specs.Screens.{Shown}
use Rattle.sixel_show.specs.declared.on_konsole.KonsoleBytes.{KonsoleBytes}
use Rattle.sixel_show.specs.NamedScreens.{HasDrawnPieces, HasTakenOnKonsole, IsDrawnOf, OnKonsole, ShowsIn, Suffices}
use Rattle.sixel_report.specs.Outputs.{failures_by}

-- the events that are heard
abbrev heard_events : Hears → List ℕ → List Placed → List Event
heard_events hears bytes placed = events_of (heard (omitted_in hears bytes) placed)

-- what is kept of more bytes suffices for their events, as they are heard
pub kept_on : (hears : Hears) (old new : Reader) (seen all : List Placed) (bytes more : List ℕ) (m : Measuring)
    (kept next : Kept) → StandsAfter old seen bytes → StandsAfter new all (bytes ++ more)
    → HasTakenAll m (heard_events hears (bytes ++ more) all) → Suffices kept bytes (heard_events hears bytes seen)
    → ((bs : List ℕ) (before later : List Event) → Suffices kept bs before → HasTakenAll m (before ++ later)
    → Suffices next (bs ++ more) (before ++ later))
    → Suffices next (bytes ++ more) (heard_events hears (bytes ++ more) all)
kept_on hears old new seen all bytes more m kept next before after taken suffices grows =
    let s = complete_stays bytes more seen all (read_complete old seen bytes before)
    (read_complete new all (bytes ++ more) after) in
    let o = omitted_in hears (bytes ++ more) in
    let later : List Event = events_of (heard o s.0) in
    let are : heard_events hears (bytes ++ more) all ≡ heard_events hears bytes seen ++ later =
    ap (λ (l : List Placed). events_of (heard o l)) s.1
    ∙ ap events_of (heard_append o seen s.0)
    ∙ events_then (heard o seen) (heard o s.0)
    ∙ ap (λ (l : List Placed). events_of l ++ later) (heard_stays hears old seen bytes more before) in
    subst (Suffices next (bytes ++ more)) (sym are)
    (grows bytes (heard_events hears bytes seen) later suffices (subst (HasTakenAll m) are taken))

-- what ends the drawing of a piece
pub drawing_halts : (reader : Reader) (old new : Hearing OnKonsole) (w v : KonsoleBytes) (piece : List ℕ)
    (ends : Halt Infallible)
    → HaltsPiece (HasHeardPieces HasTakenOnKonsole) (λ first start konsole now stop bytes. ⊥) reader old w.looking new
    v.looking piece ends
    → HaltsPiece HasDrawnPieces (λ first start konsole now stop bytes. ⊥) reader old w new v piece ends
drawing_halts reader old new w v piece (Refused fault) halts = λ first start bytes read.
    halts first start.looking bytes read.drawn
drawing_halts reader old new w v piece (Stopped stop) halts = λ first start bytes read.
    halts first start.looking bytes read.drawn

-- before any byte nothing is drawn
pub draws_none : (konsole : Hearing OnKonsole) (now : KonsoleBytes) → konsole.omitted ≡ nothing_omitted
    → HasLooked now.looking.hears now.looking [] → Begins HasDrawnPieces konsole now konsole now
draws_none konsole now unheard looked = λ reader stands. record {
  drawn = (
    looked,
    record {
      events = [];
      read = stands;
      taken = (unheard ∙ sym (nothing_yet now.looking.hears), ((refl, λ opening h. h), λ h. h));
    },
  );
  suffices = λ taken kept. kept;
}

-- a document is drawn as konsole hears it
pub is_drawn : (first konsole : Hearing OnKonsole) (start now : KonsoleBytes) (reader : Reader) (bytes : List ℕ)
    → start.looking.hears ≡ Boxes → HasDrawnPieces first start reader konsole now bytes
    → ((events : List Placed) → StandsAfter reader events bytes → Document events bytes)
    → HasFollowed konsole_model HasSeenKonsole first.listener.one [] [] → HasTakenAll first.listener.other []
    → Suffices start.kept [] [] → IsDrawnOf konsole.listener now.kept bytes
is_drawn first konsole start now reader bytes is d document followed measured kept =
    let a = d.drawn.1 in record {
      placed = a.events;
      document = document a.events a.read;
      followed = subst
          (λ (h : Hears). HasFollowed konsole_model HasSeenKonsole konsole.listener.one []
          (heard (omitted_in h bytes) a.events)) is (a.taken.1.0.1 [] followed);
      measured = subst (λ (h : Hears). HasTakenAll konsole.listener.other (heard_events h bytes a.events)) is
          (a.taken.1.1 measured);
      suffices = subst (λ (h : Hears). Suffices now.kept bytes (heard_events h bytes a.events)) is
          (d.suffices measured kept);
    }

-- whether there is a screen or not, no device failed
pub no_device : (named : Named) (background : Parts) (area : Area) (bytes : List ℕ) (result : Result Shown RunFault)
    (n : ℕ) → ShowsIn named background area bytes result
    → (failures_by Read result n ≡ n) × (result ≢ Err Read) × (result ≢ Err Write)
no_device named background area bytes (Ok screen) n g = (refl, λ is. cc, λ is. cc)
no_device named background area bytes (Err (Grammar f)) n g = (refl, λ is. cc, λ is. cc)
no_device named background area bytes (Err (Unmodelled place)) n g = (refl, λ is. cc, λ is. cc)
no_device named background area bytes (Err NoBox) n g = (refl, λ is. cc, λ is. cc)
no_device named background area bytes (Err OutOfMemory) n g = (refl, λ is. cc, λ is. cc)
no_device named background area bytes (Err other) n g = absurd g
