-- A document whose declared box gives the sides of the screen, while it is read.
use Rattle.std.proofs.Common.{◌≡◌, ◌∙◌, ◌++◌, ◌∷◌, ◌+◌, [], ℕ, List, Option, Some, None, refl, sym, ap}
use Rattle.std.proofs.Common.{subst}
use Rattle.std.specs.Prelude.{option_and_then, option_map, IfSome, IsSome, Result, Err}
use Rattle.std.specs.declared.alloc.AllocError.{AllocError}
use Rattle.std.specs.Option.{option_or}
use Rattle.std.proofs.lemmas.List.{append-nil}
use Rattle.sixel_grammar.specs.declared.command.Event.{Event}
use Rattle.sixel_grammar.specs.declared.command.Placed.{Placed}
use Rattle.sixel_grammar.specs.declared.fault.InputFault.{InputFault}
use Rattle.sixel_grammar.specs.declared.fault.InputFault.TheVariants.{OutOfMemory}
use Rattle.sixel_grammar.specs.declared.reader.Reader.{Reader}
use Rattle.sixel_grammar.specs.declared.source.SourceHalt.{SourceHalt}
use Rattle.sixel_grammar.specs.declared.source.SourceHalt.TheVariants.{Read, Refused, Stopped}
use Rattle.sixel_grammar.specs.Document.{Document, events_of}
use Rattle.sixel_grammar.specs.Following.{AreFollowed, FollowsBytes, TakesEvents}
use Rattle.sixel_grammar.specs.Pieces.{Begins, EndsSource}
use Rattle.sixel_grammar.specs.Prefixes.{CompleteIn}
use Rattle.sixel_grammar.specs.Source.{fault_of_source}
use Rattle.sixel_grammar.specs.Standing.{StandsAfter}
use Rattle.sixel_grammar.specs.Stretches.{sixels_from}
use Rattle.sixel_grammar.proofs.StandLemmas.{read_complete}
use Rattle.sixel_grammar.proofs.UniqueLemmas.{complete_once, complete_stays, document_complete}
use Rattle.sixel_model.specs.Events.{Attributes, raster_of}
use Rattle.sixel_model.specs.Positions.{earliest}
use Rattle.sixel_model.specs.Rules.{raster_before}
use Rattle.sixel_model.proofs.PositionLemmas.{option_or_assoc, option_or_none}
use Rattle.sixel_terminal.specs.Displays.{Display}
use Rattle.sixel_terminal.proofs.FollowLemmas.{events_then}
use Rattle.sixel_show.specs.declared.box_finder.BoxFinder.{BoxFinder}
use Rattle.sixel_show.specs.declared.show_box.InBox.{InBox}
use Rattle.sixel_show.specs.declared.show_box.Stage.{Stage}
use Rattle.sixel_show.specs.declared.show_box.Stage.TheVariants.{Undeclared, Drawn, Unshowable}
use Rattle.sixel_show.specs.declared.watched.Watched.{Watched}
use Rattle.sixel_show.specs.Boxes.{HasFound, HasRead, HasReadInBox, IsDrawnInBox, IsStageAfter, box_in}
use Rattle.sixel_show.specs.Boxes.{terminal_of_kind}
use Rattle.sixel_show.specs.Screens.{DeclareScreenIn, declared_screen, sides_of_box}
use Rattle.sixel_show.specs.Watching.{HasWatched, HasWatchedOn}

abbrev Sides : Type 0
Sides = ℕ × ℕ

abbrev size_of : Attributes → Sides
size_of a = (a.width, a.height)

-- ---- the first box

raster-then : (xs ys : List Event) → raster_before (xs ++ ys) ≡ option_or (raster_before xs) (raster_before ys)
unfolding raster_before earliest
raster-then [] ys = refl
raster-then (x ∷ xs) ys =
    ap (option_or (raster_of x)) (raster-then xs ys)
    ∙ sym (option_or_assoc (raster_of x) (raster_before xs) (raster_before ys))

map-or : (a b : Option Attributes)
    → option_map size_of (option_or a b) ≡ option_or (option_map size_of a) (option_map size_of b)
map-or None b = refl
map-or (Some a) b = refl

-- that of some events, or else of those after them
box-then : (xs ys : List Placed)
    → box_in (events_of (xs ++ ys)) ≡ option_or (box_in (events_of xs)) (box_in (events_of ys))
unfolding box_in
box-then xs ys =
    ap box_in (events_then xs ys)
    ∙ ap (option_map size_of) (raster-then (events_of xs) (events_of ys))
    ∙ map-or (raster_before (events_of xs)) (raster_before (events_of ys))

by-sides : (o : Option Attributes)
    → option_and_then (λ (a : Attributes). sides_of_box a.width a.height) o
    ≡ option_and_then (λ (s : Sides). sides_of_box s.0 s.1) (option_map size_of o)
by-sides None = refl
by-sides (Some a) = refl

declared-by : (events : List Event)
    → declared_screen events ≡ option_and_then (λ (s : Sides). sides_of_box s.0 s.1) (box_in events)
unfolding declared_screen box_in
declared-by events = by-sides (raster_before events)

-- the sides of the screen, from the declared box
pub declared-in : (events : List Event) (box : Option Sides) → box ≡ box_in events
    → declared_screen events ≡ option_and_then (λ (s : Sides). sides_of_box s.0 s.1) box
declared-in events box is = declared-by events ∙ ap (option_and_then (λ (s : Sides). sides_of_box s.0 s.1)) (sym is)

-- a screen has the sides of a declared box
has-box : (events : List Event) (sides : Sides) → declared_screen events ≡ Some sides → IsSome (box_in events)
has-box events sides is = in_box (box_in events) (sym (declared-by events) ∙ is)
  where
    in_box : (o : Option Sides) → option_and_then (λ (s : Sides). sides_of_box s.0 s.1) o ≡ Some sides → IsSome o
    in_box None e = cc
    in_box (Some s) e = refl

some-first : (o : Option Sides) (p : Option Sides) → IsSome o → option_or o p ≡ o
some-first (Some s) p is = refl
some-first None p is = cc

-- what comes later declares no other box
box-remains : (seen all : List Placed) (bytes more : List ℕ) → CompleteIn seen bytes → CompleteIn all (bytes ++ more)
    → IsSome (box_in (events_of seen)) → box_in (events_of all) ≡ box_in (events_of seen)
box-remains seen all bytes more before after is =
    let s = complete_stays bytes more seen all before after in
    ap (λ (es : List Placed). box_in (events_of es)) s.1
    ∙ box-then seen s.0
    ∙ some-first (box_in (events_of seen)) (box_in (events_of s.0)) is

-- what is read later declares no other box
box-stays : (old new : Reader) (seen all : List Placed) (bytes more : List ℕ) → StandsAfter old seen bytes
    → StandsAfter new all (bytes ++ more) → IsSome (box_in (events_of seen))
    → box_in (events_of all) ≡ box_in (events_of seen)
box-stays old new seen all bytes more before after is =
    box-remains seen all bytes more (read_complete old seen bytes before)
    (read_complete new all (bytes ++ more) after) is

screen-stays : (seen all : List Event) → box_in all ≡ box_in seen → declared_screen all ≡ declared_screen seen
screen-stays seen all is = declared-in all (box_in seen) (sym is) ∙ sym (declared-by seen)

-- each document that begins with these bytes declares the same screen
pub screen-in : (reader : Reader) (seen placed : List Placed) (first rest : List ℕ) (sides : Sides)
    → StandsAfter reader seen first → declared_screen (events_of seen) ≡ Some sides → Document placed (first ++ rest)
    → declared_screen (events_of placed) ≡ Some sides
screen-in reader seen placed first rest sides read declared doc =
    screen-stays (events_of seen) (events_of placed)
    (box-remains seen placed first rest (read_complete reader seen first read)
    (document_complete placed (first ++ rest) doc) (has-box (events_of seen) sides declared))
    ∙ declared

-- ---- looking for it

pub box-of-none : None ≡ box_in []
unfolding box_in raster_before earliest
box-of-none = refl

-- the box that one event declares
pub box-of-one : (e : Event) → option_map size_of (raster_of e) ≡ box_in (e ∷ [])
unfolding box_in raster_before earliest
box-of-one e = ap (option_map size_of) (sym (option_or_none (raster_of e)))

-- sixels declare no box
sixels-declare : (place : ℕ) (bytes : List ℕ) → None ≡ box_in (events_of (sixels_from place bytes))
unfolding box_in raster_before earliest
sixels-declare place [] = refl
sixels-declare place (b ∷ rest) = sixels-declare (place + 1) rest

pub finds-more : (old new : BoxFinder) (more : List Placed) → new.found ≡ option_or old.found (box_in (events_of more))
    → TakesEvents HasFound old new more
finds-more old new more found = λ first seen h.
    found
    ∙ ap (λ (o : Option Sides). option_or o (box_in (events_of more))) h
    ∙ option_or_assoc first.found (box_in (events_of seen)) (box_in (events_of more))
    ∙ ap (option_or first.found) (sym (box-then seen more))

pub finds-none : (finder : BoxFinder) (more : List Placed) → None ≡ box_in (events_of more)
    → TakesEvents HasFound finder finder more
finds-none finder more none =
    finds-more finder finder more (sym (option_or_none finder.found) ∙ ap (option_or finder.found) none)

pub finds-no-sixels : (finder : BoxFinder) (place : ℕ) (bytes : List ℕ)
    → TakesEvents HasFound finder finder (sixels_from place bytes)
finds-no-sixels finder place bytes = finds-none finder (sixels_from place bytes) (sixels-declare place bytes)

-- the reader has read these bytes, and this is the box that they declare
abbrev pub FindsBox : Reader → Option Sides → List ℕ → Type 0
FindsBox reader box bytes =
    AreFollowed (λ (found : Option Sides) (seen : List Placed). found ≡ box_in (events_of seen)) reader box bytes

abbrev pub nothing_found : BoxFinder
nothing_found = record { found = None }

-- where no box is declared, none is found
pub looks-on : (reader : Reader) (events : List Placed) (bytes : List ℕ) → StandsAfter reader events bytes
    → box_in (events_of events) ≡ None → AreFollowed (HasFound nothing_found) reader nothing_found bytes
looks-on reader events bytes read none = record { events = events; read = read; taken = sym none }

pub finds-box : (old new : Reader) (now : BoxFinder) (box : Option Sides) (events : List Placed) (bytes more : List ℕ)
    → StandsAfter old events bytes → box_in (events_of events) ≡ None
    → FollowsBytes HasFound old nothing_found new now more → now.found ≡ box → FindsBox new box (bytes ++ more)
finds-box old new now box events bytes more read none follows is =
    let a = follows nothing_found bytes (looks-on old events bytes read none) in
    record { events = a.events; read = a.read; taken = sym is ∙ a.taken }

-- ---- one more piece

-- the declared box fits no screen
pub unfit-now : (events : List Event) (width height : ℕ) → Some (width, height) ≡ box_in events
    → None ≡ sides_of_box width height → IsSome (box_in events) × (declared_screen events ≡ None)
unfit-now events width height found unfit =
    (subst IsSome found refl, declared-in events (Some (width, height)) found ∙ sym unfit)

pub unfit-stays : (terminal : Sides → Display) (old new : Reader) (all : List Placed) (bytes more : List ℕ)
    → HasRead terminal old Unshowable bytes → StandsAfter new all (bytes ++ more)
    → HasRead terminal new Unshowable (bytes ++ more)
unfit-stays terminal old new all bytes more h read =
    let same = box-stays old new h.events all bytes more h.read read h.taken.0 in
    record {
      events = all;
      read = read;
      taken = (
        subst IsSome (sym same) h.taken.0,
        screen-stays (events_of h.events) (events_of all) same ∙ h.taken.1,
      );
    }

pub drawn-now : (terminal : Sides → Display) (w : Watched) (events : List Event) (width height : ℕ) (sides : Sides)
    → Some (width, height) ≡ box_in events → Some sides ≡ sides_of_box width height
    → w.drawing.terminal ≡ terminal sides → HasWatched w events → IsDrawnInBox terminal w events
drawn-now terminal w events width height sides found fit on watched = record {
  sides = sides;
  declared = declared-in events (Some (width, height)) found ∙ sym fit;
  on = on;
  watched = watched;
}

pub watches-on : (terminal : Sides → Display) (reader : Reader) (w : Watched) (bytes : List ℕ)
    → HasRead terminal reader (Drawn w) bytes → AreFollowed (HasWatchedOn w) reader w bytes
watches-on terminal reader w bytes h = record { events = h.events; read = h.read; taken = (refl, h.taken.watched) }

pub drawn-stays : (terminal : Sides → Display) (old new : Reader) (w v : Watched) (bytes more : List ℕ)
    → HasRead terminal old (Drawn w) bytes → FollowsBytes HasWatchedOn old w new v more
    → HasRead terminal new (Drawn v) (bytes ++ more)
drawn-stays terminal old new w v bytes more h watches =
    let box = h.taken in
    let a = watches w bytes (watches-on terminal old w bytes h) in
    let same = box-stays old new h.events a.events bytes more h.read a.read
    (has-box (events_of h.events) box.sides box.declared) in
    record {
      events = a.events;
      read = a.read;
      taken = record {
        sides = box.sides;
        declared = screen-stays (events_of h.events) (events_of a.events) same ∙ box.declared;
        on = a.taken.0 ∙ box.on;
        watched = a.taken.1;
      };
    }

-- ---- all stages

-- without a drawing there is no screen
pub no-screen : (terminal : Sides → Display) (stage : Stage) (events : List Event) (bytes : List ℕ)
    → ((w : Watched) → stage ≡ Drawn w → ⊥) → IsStageAfter terminal stage events bytes
    → declared_screen events ≡ None
no-screen terminal (Undeclared kept) events bytes undrawn h = declared-in events None (sym h.1)
no-screen terminal (Drawn w) events bytes undrawn h = absurd (undrawn w refl)
no-screen terminal Unshowable events bytes undrawn h = h.1

-- ---- bytes that are drawn from the beginning, on the same terminal

-- a drawing of nothing
pub watches-none : (reader : Reader) (w : Watched) → StandsAfter reader [] [] → HasWatched w []
    → AreFollowed (HasWatchedOn w) reader w []
watches-none reader w start none = record { events = []; read = start; taken = (refl, none) }

pub watched-all : (reader : Reader) (w v : Watched) (bytes : List ℕ) → AreFollowed (HasWatchedOn w) reader v bytes
    → (events : List Placed) → CompleteIn events bytes → HasWatched v (events_of events)
watched-all reader w v bytes a events complete =
    subst (λ (es : List Placed). HasWatched v (events_of es))
    (complete_once bytes a.events events (read_complete reader a.events bytes a.read) complete) a.taken.1

-- ---- the declared box

-- a box of a screen's size is declared
pub declares-now : (reader : Reader) (bytes : List ℕ) (width height : ℕ) (sides : Sides)
    → FindsBox reader (Some (width, height)) bytes → Some sides ≡ sides_of_box width height → DeclareScreenIn bytes
declares-now reader bytes width height sides f fit = record {
  prefix = bytes;
  rest = [];
  bytes_are = sym (append-nil bytes);
  events = f.events;
  complete = read_complete reader f.events bytes f.read;
  declares = subst IsSome (sym (declared-in (events_of f.events) (Some (width, height)) f.taken ∙ sym fit)) refl;
}

-- ---- a source

-- before any byte no box is declared
pub undeclared_yet : (now : InBox) → IsStageAfter (terminal_of_kind now.kind) now.stage [] []
    → Begins HasReadInBox tt now tt now
undeclared_yet now is = λ reader stands. (refl, record { events = []; read = stands; taken = is })

-- without memory a box of a screen's size is declared
pub box_memory : (A : Type 0) (start new : InBox) (known : Option (List ℕ)) (halt : SourceHalt AllocError)
    → Begins HasReadInBox tt start tt start
    → IfSome known (EndsSource HasReadInBox (λ first start unit now stop bytes. DeclareScreenIn bytes) tt start tt new
    halt)
    → (let r : Result A InputFault = Err (fault_of_source halt) in r) ≡ Err OutOfMemory → IfSome known DeclareScreenIn
box_memory A start new None halt begins ends is = tt
box_memory A start new (Some bytes) Read begins ends is = cc
box_memory A start new (Some bytes) (Refused fault) begins ends is = cc
box_memory A start new (Some bytes) (Stopped stop) begins ends is = ends tt start begins
