-- Lemmas for a run of `show --on` whose first piece is read.
use Rattle.std.proofs.Common.{◌≡◌, ◌≤◌, ◌+◌, ◌∙◌, ◌++◌, ℕ, List, [], Option, Some, None, ap, arith, length, refl, subst}
use Rattle.std.proofs.Common.{sym, take}
use Rattle.std.proofs.lemmas.List.{length-take-le, take-take}
use Rattle.std.proofs.lemmas.Slice.{take-put_mid}
use Rattle.std.proofs.Math.Seq.{take-append-add}
use borrow.Rule.Slice.PartMut.{put_mid}
use Rattle.std.specs.Prelude.{Result, Ok, Err, IfSome}
use Rattle.std.specs.Io.KnownBytes.{Keeps}
use Rattle.sixel_grammar.specs.declared.command.Event.{Event}
use Rattle.sixel_grammar.specs.declared.command.Placed.{Placed}
use Rattle.sixel_grammar.specs.declared.reader.Reader.{Reader}
use Rattle.sixel_grammar.specs.Document.{Document, events_of}
use Rattle.sixel_grammar.specs.Faults.{NothingYet}
use Rattle.sixel_grammar.specs.Reading.{NoFaultBefore}
use Rattle.sixel_grammar.proofs.PrefixLemmas.{nothing}
use Rattle.sixel_grammar.proofs.ViableLemmas.{complete}
use Rattle.sixel_model.specs.declared.colour.Parts.{Parts}
use Rattle.sixel_named_terminals.specs.declared.named.Named.{Named}
use Rattle.sixel_named_terminals.specs.declared.named.Named.TheVariants.{Konsole}
use Rattle.sixel_grammar.specs.FirstPiece.{with_first}
use Rattle.sixel_report.specs.declared.fault.RunFault.{RunFault}
use Rattle.sixel_report.specs.declared.fault.RunFault.TheVariants.{Grammar, NoBox, OutOfMemory, Read, Unmodelled}
use Rattle.sixel_report.specs.declared.task.Area.{Area}
use Rattle.sixel_report.specs.declared.task.Area.TheVariants as area
use Rattle.sixel_show.specs.Boxes.{box_in}
use Rattle.sixel_show.specs.NamedScreens.{HasSidesAfter, ShowsRead}
use Rattle.sixel_show.specs.Outputs.{sides_in}
use Rattle.sixel_terminal.specs.Screens.{Shown}
use Rattle.sixel_show.proofs.StageLemmas.{FindsBox, screen-in}

abbrev Sides : Type 0
Sides = ℕ × ℕ

-- ---- a first call that fails

pub unread_all : (a b : Option (List ℕ)) → Keeps a b → IfSome a (NoFaultBefore b)
unread_all None b kept = tt
unread_all (Some bytes) None kept = absurd kept
unread_all (Some bytes) (Some left) kept = ([], sym kept, omega arith, ([], complete NothingYet nothing))

pub nothing_shown : (named : Named) (background : Parts) (asked : Area) (a : Option (List ℕ))
    → IfSome a (λ bytes. ShowsRead named background asked bytes (Err Read))
nothing_shown named background asked None = tt
nothing_shown named background asked (Some bytes) = tt

-- ---- a second call, behind the bytes of the first

-- the first bytes of a piece, and those that were filled in behind them
pub take_behind : (read more k : ℕ) (piece new : List ℕ) → read ≤ length piece → more ≤ length new
    → take (read + more) (put_mid read k piece new) ≡ take read piece ++ take more new
take_behind read more k piece new within few =
    let whole : take (read + length new) (put_mid read k piece new) ≡ take read piece ++ new =
    take-put_mid read k piece new (read + length new) refl within in
    let long : length (take read piece) ≡ read = length-take-le read piece within in
    sym (take-take (read + more) (read + length new) (put_mid read k piece new) (omega arith))
    ∙ ap (λ (t : List ℕ). take (read + more) t) whole
    ∙ ap (λ (n : ℕ). take (n + more) (take read piece ++ new)) (sym long)
    ∙ take-append-add (take read piece) new more

-- ---- sides that the first bytes tell

pub sides-after : (reader : Reader) (found : Option Sides) (first : List ℕ) (result : Option Sides)
    → FindsBox reader found first
    → ((events : List Event) → found ≡ box_in events → result ≡ sides_in area.Box events)
    → IfSome result (HasSidesAfter area.Box first)
sides-after reader found first None f value = tt
sides-after reader found first (Some sides) f value = λ placed rest doc.
    screen-in reader f.events placed first rest sides f.read (sym (value (events_of f.events) f.taken)) doc

-- the sides of the screen in these bytes are the same for both
abbrev HaveSameSides : Area → Area → List ℕ → Type 0
HaveSameSides a b bytes =
    (placed : List Placed) → Document placed bytes → sides_in b (events_of placed) ≡ sides_in a (events_of placed)

same_shown : (named : Named) (background : Parts) (a b : Area) (bytes : List ℕ) (result : Result Shown RunFault)
    → HaveSameSides a b bytes → ShowsRead named background a bytes result → ShowsRead named background b bytes result
same_shown named background a b bytes (Ok screen) same g = (g.0, g.1, (g.2.0, same g.0 g.1 ∙ g.2.1, g.2.2))
same_shown named background a b bytes (Err (Unmodelled place)) same g = g
same_shown named background a b bytes (Err NoBox) same g = (g.0, g.1, g.2, same g.0 g.1 ∙ g.3)
same_shown named background a b bytes (Err (Grammar f)) same g = g
same_shown named background a b bytes (Err OutOfMemory) same g = tt
same_shown named background a b bytes (Err Read) same g = tt
same_shown named background a b bytes (Err other) same g = absurd g

sides_known : (asked : Area) (first rest : List ℕ) (sides : Sides) → HasSidesAfter asked first sides
    → HaveSameSides (area.Sides sides.0 sides.1) asked (first ++ rest)
sides_known asked first rest sides known = λ placed doc. known placed rest doc

-- what is shown on a screen of these sides
pub on_known_sides : (named : Named) (background : Parts) (asked : Area) (piece : List ℕ) (read : ℕ)
    (left : Option (List ℕ)) (sides : Sides) (result : Result Shown RunFault)
    → HasSidesAfter asked (take read piece) sides
    → IfSome (with_first piece read left) (λ bytes.
    ShowsRead named background (area.Sides sides.0 sides.1) bytes result)
    → IfSome (with_first piece read left) (λ bytes. ShowsRead named background asked bytes result)
unfolding with_first
on_known_sides named background asked piece read None sides result known w = tt
on_known_sides named background asked piece read (Some rest) sides result known w =
    same_shown named background (area.Sides sides.0 sides.1) asked (take read piece ++ rest) result
    (sides_known asked (take read piece) rest sides known) w

-- the same on konsole
pub on_konsole_sides : (named : Named) (background : Parts) (asked : Area) (piece : List ℕ) (read : ℕ)
    (left : Option (List ℕ)) (sides : Sides) (result : Result Shown RunFault)
    → named ≡ Konsole → HasSidesAfter asked (take read piece) sides
    → IfSome (with_first piece read left) (λ bytes.
    ShowsRead Konsole background (area.Sides sides.0 sides.1) bytes result)
    → IfSome (with_first piece read left) (λ bytes. ShowsRead named background asked bytes result)
on_konsole_sides named background asked piece read left sides result is known w =
    subst (λ (n : Named). IfSome (with_first piece read left) (λ bytes. ShowsRead n background asked bytes result))
    (sym is) (on_known_sides Konsole background asked piece read left sides result known w)
