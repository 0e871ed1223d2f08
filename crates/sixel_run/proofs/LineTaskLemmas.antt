-- How a check, a survey or a scan ends, by what it found.
use Rattle.std.proofs.Common.{◌≡◌, ◌∙◌, ◌+◌, ◌<◌, ◌++◌, ◌∷◌, ℕ, true, false, List, [], drop, take, Option, Some, None}
use Rattle.std.proofs.Common.{flat_map, inl, inr, refl, subst, sym}
use Rattle.std.specs.Prelude.{◌≢◌, Result, Ok, Err, IfSome, OnOk}
use Rattle.std.specs.Io.KnownBytes.{Appends, IsAtEnd}
use Rattle.std.proofs.lemmas.List.{take-append-drop}
use Rattle.sixel_io.specs.Devices.{Change, ReadsToEnd, SinkState, SourceState, Writes, change}
use Rattle.sixel_io.specs.declared.device.DeviceFault.{DeviceFault}
use Rattle.sixel_io.proofs.SinkLemmas.{Appends-none}
use Rattle.sixel_grammar.specs.declared.fault.Fault.{Fault}
use Rattle.sixel_grammar.specs.declared.fault.InputFault.{InputFault}
use Rattle.sixel_grammar.specs.declared.fault.InputFault.TheVariants as input
use Rattle.sixel_grammar.specs.Faults.{IsFaultOf}
use Rattle.sixel_grammar.specs.Reading.{Explains, NoFaultBefore, failures_after}
use Rattle.sixel_report.specs.declared.fault.RunFault.{RunFault}
use Rattle.sixel_report.specs.declared.fault.RunFault.TheVariants.{Grammar, OutOfMemory, Read, Write}
use Rattle.sixel_report.specs.declared.item.Item.{Item}
use Rattle.sixel_report.specs.declared.task.Status.{Status}
use Rattle.sixel_report.specs.declared.task.Task.{Task}
use Rattle.sixel_report.specs.declared.task.Task.TheVariants.{List as Listing, Check, Differ, Scan, Survey}
use Rattle.sixel_report.specs.Conversions.{of_input}
use Rattle.sixel_run.specs.LineTasks.{EndsAs, IsOverFor, ReadsOver, WritesItems, has_lines, scans}
use Rattle.sixel_report.specs.Outputs.{CountsWrites, PutsText, WroteBy, failures_by}
use Rattle.sixel_run.specs.Outputs.{FoundNoFault, Gives, RunWrote, TakesMemory, Wrote, WroteBefore, WroteUnread}
use Rattle.sixel_report.specs.Texts.{BeginsWith, Text, item_line, items_text}
use Rattle.sixel_report.proofs.OutputLemmas.{begins-then}
use Rattle.sixel_run.proofs.RunLemmas.{gives-once}

-- ---- a check or a survey

-- it read to the end
over_for : (t : Task) (answer : Result Status RunFault) (left : Option (List ℕ)) (bytes : List ℕ)
    → scans t ≡ false → OnOk answer (IsAtEnd left) → OnOk answer (IsOverFor t left bytes)
over_for (Scan profile eight) answer left bytes unscanned ended = absurd (let no : true ≡ false = unscanned in cc)
over_for t answer left bytes unscanned ended = ended

-- it was refused, or an allocation or a read failed
refused_by : (gives : Text → Result Status RunFault → Type 0) (bytes : List ℕ) (left : Option (List ℕ))
    (fault : InputFault) → ((f : Fault) → IsFaultOf bytes f → gives [] (Err (Grammar f))) → Explains fault bytes
    → (fault ≡ input.Read → NoFaultBefore left bytes)
    → WroteBy gives (FoundNoFault bytes left) (Err (of_input fault)) (Some []) (Some [])
refused_by gives bytes left (input.Grammar f) given is none = ([], given f is, refl)
refused_by gives bytes left input.OutOfMemory given is none = refl
refused_by gives bytes left input.Read given is none = (none refl, refl)

pub refused_if : (gives : List ℕ → Text → Result Status RunFault → Type 0) (told left : Option (List ℕ))
    (fault : InputFault) → ((bytes : List ℕ) (f : Fault) → IsFaultOf bytes f → gives bytes [] (Err (Grammar f)))
    → IfSome told (Explains fault) → (fault ≡ input.Read → IfSome told (NoFaultBefore left))
    → IfSome told (λ bytes. WroteBy (gives bytes) (FoundNoFault bytes left) (Err (of_input fault)) (Some []) (Some []))
refused_if gives None left fault given is none = tt
refused_if gives (Some bytes) left fault given is none = refused_by (gives bytes) bytes left fault (given bytes) is none

fault_unwritten : (fault : InputFault)
    → (let k : Result Status RunFault = Err (of_input fault) in k) ≢ Err Write
fault_unwritten (input.Grammar f) = λ is. cc
fault_unwritten input.OutOfMemory = λ is. cc
fault_unwritten input.Read = λ is. cc

nothing_put : (fault : InputFault) (had : Option (List ℕ)) → PutsText (Err (of_input fault)) had had []
nothing_put (input.Grammar f) had = Appends-none had
nothing_put input.OutOfMemory had = Appends-none had
nothing_put input.Read had = Appends-none had

none_failed : (fault : InputFault) (n : ℕ)
    → CountsWrites (let k : Result Status RunFault = Err (of_input fault) in k) n n
none_failed (input.Grammar f) n = refl
none_failed input.OutOfMemory n = refl
none_failed input.Read n = refl

reads_counted : (A : Type 0) (fault : InputFault) (old new : ℕ)
    → new ≡ failures_after (let k : Result A InputFault = Err fault in k) old
    → new ≡ failures_by Read (let k : Result Status RunFault = Err (of_input fault) in k) old
reads_counted A (input.Grammar f) old new is = is
reads_counted A input.OutOfMemory old new is = is
reads_counted A input.Read old new is = is

pub lines_refused : (A : Type 0) (t : Task) → scans t ≡ false → (written : Item → Text) (fault : InputFault)
    (i : Change SourceState) (o : SinkState)
    → IfSome i.old.remaining
    (λ bytes. Wrote t bytes i.new.remaining (Err (of_input fault)) (Some []) (Some []))
    → ((let k : Result Status RunFault = Err (of_input fault) in k) ≡ Err OutOfMemory
    → TakesMemory t i.old.remaining)
    → ReadsToEnd (let k : Result A InputFault = Err fault in k) i.old.remaining i.new.remaining
    → i.new.failures ≡ failures_after (let k : Result A InputFault = Err fault in k) i.old.failures
    → WritesItems t written (Err (of_input fault)) i (change o o)
lines_refused A t unscanned written fault i o wrote memory read reads = record {
  found = Err (of_input fault);
  items = [];
  wrote = wrote;
  refused = λ none other is. refl;
  unwritten = λ none. fault_unwritten fault;
  ends = inl refl;
  put = nothing_put fault o.taken;
  memory = memory;
  over = record { bytes = read.read.0; read = read.read.1; ended = tt };
  reads = reads_counted A fault i.old.failures i.new.failures reads;
  writes = none_failed fault o.failures;
}

wrote_given : (t : Task) (told left : Option (List ℕ)) (text : Text) (s : Status)
    → IfSome told (λ bytes. Gives t bytes text (Ok s))
    → IfSome told (λ bytes. Wrote t bytes left (Ok s) (Some []) (Some text))
wrote_given t None left text s given = tt
wrote_given t (Some bytes) left text s given = (text, given, refl)

-- it has these items
module _ (A : Type 0) (x : A) (t : Task) (unscanned : scans t ≡ false) (written : Item → Text) (items : List Item)
    (s : Status) (i : Change SourceState) (o₀ o₁ : SinkState)
    (given : IfSome i.old.remaining (λ bytes. Gives t bytes (items_text items) (Ok s)))
    (read : ReadsToEnd (let k : Result A InputFault = Ok x in k) i.old.remaining i.new.remaining)
    (reads : i.new.failures ≡ i.old.failures) where
  over_all : ReadsOver t (Ok s) i.old.remaining i.new.remaining
  over_all = record {
    bytes = read.read.0;
    read = read.read.1;
    ended = over_for t (Ok s) i.new.remaining read.read.0 unscanned read.ended;
  }

  -- which were put
  pub lines_put : (B : Type 0) (y : B)
      → Writes (let k : Result B DeviceFault = Ok y in k) o₀ o₁ (flat_map written items)
      → WritesItems t written (Ok s) i (change o₀ o₁)
  lines_put B y put = record {
    found = Ok s;
    items = items;
    wrote = wrote_given t i.old.remaining i.new.remaining (items_text items) s given;
    refused = λ none fault is. cc;
    unwritten = λ none is. cc;
    ends = inl refl;
    put = put.taken;
    memory = λ is. cc;
    over = over_all;
    reads = reads;
    writes = put.failures;
  }

  -- or the output failed
  pub lines_cut : (B : Type 0) (f : DeviceFault)
      → Writes (let k : Result B DeviceFault = Err f in k) o₀ o₁ (flat_map written items)
      → WritesItems t written (Err Write) i (change o₀ o₁)
  lines_cut B f put = record {
    found = Ok s;
    items = items;
    wrote = wrote_given t i.old.remaining i.new.remaining (items_text items) s given;
    refused = λ none fault is. cc;
    unwritten = λ none is. cc;
    ends = inr (s, refl, refl);
    put = put.taken;
    memory = λ is. cc;
    over = over_all;
    reads = reads;
    writes = put.failures;
  }

-- ---- items as lines

put_as : (had has : Option (List ℕ)) (xs ys : List ℕ) → xs ≡ ys → Appends had has xs → Appends had has ys
put_as had has xs ys same put = rw (← same) put

moved_unread : (t : Task) (bytes : List ℕ) (left had has : Option (List ℕ)) (text : Text)
    → WroteUnread t bytes left (Some []) (Some text) → Appends had has text → WroteUnread t bytes left had has
moved_unread Listing bytes left had has text w put = (w.0, w.1, w.2, w.3, put_as had has text w.1 w.4 put)
moved_unread (Scan profile eight) bytes left had has text w put = (w.0, w.1, put_as had has text _ w.2 put)
moved_unread _ bytes left had has text w put = (w.0, put_as had has text [] w.1 put)

moved_before : (t : Task) (bytes : List ℕ) (had has : Option (List ℕ)) (text : Text)
    → WroteBefore t bytes (Some []) (Some text) → Appends had has text → WroteBefore t bytes had has
moved_before (Scan profile eight) bytes had has text w put = (w.0, w.1, put_as had has text _ w.2 put)
moved_before _ bytes had has text w put = put_as had has text [] w put

-- what a run found was written
moved : (t : Task) (bytes : List ℕ) (left had has : Option (List ℕ)) (found : Result Status RunFault) (text : Text)
    → Wrote t bytes left found (Some []) (Some text) → PutsText found had has text → Wrote t bytes left found had has
moved t bytes left had has (Err OutOfMemory) text w put = moved_before t bytes had has text w put
moved t bytes left had has (Err Read) text w put = moved_unread t bytes left had has text w put
moved t bytes left had has (Err Write) text w put = (
  take put.0 text,
  put.1,
  λ other answer g.
      begins-then other text (take put.0 text) (subst (BeginsWith other) (sym w.1) (w.2 other answer g))
      (drop put.0 text, sym (take-append-drop put.0 text)),
)
moved t bytes left had has answer text w put = (w.0, w.1, put_as had has text w.0 w.2 put)

-- or a prefix of it
moved_cut : (t : Task) (bytes : List ℕ) (left had has : Option (List ℕ)) (s : Status) (text : Text)
    → Wrote t bytes left (Ok s) (Some []) (Some text) → (n : ℕ) × Appends had has (take n text)
    → Wrote t bytes left (Err Write) had has
moved_cut t bytes left had has s text w put = (
  take put.0 text,
  put.1,
  λ other answer g.
      let same = (gives-once t bytes other w.0 answer (Ok s) g w.1).0 in
      (drop put.0 text, same ∙ sym w.2 ∙ sym (take-append-drop put.0 text)),
)

plain_by : (t : Task) (bytes : List ℕ) (left had has : Option (List ℕ)) (found answer : Result Status RunFault)
    (text : Text) → EndsAs found answer → Wrote t bytes left found (Some []) (Some text)
    → PutsText answer had has text → Wrote t bytes left answer had has
plain_by t bytes left had has found answer text (inl same) w put =
    rw same (moved t bytes left had has found text w (rw same at put))
plain_by t bytes left had has found answer text (inr cut) w put =
    rw cut.2 (moved_cut t bytes left had has cut.0 text (rw cut.1 at w) (rw cut.2 at put))

plain_if : (t : Task) (told left had has : Option (List ℕ)) (found answer : Result Status RunFault) (text : Text)
    → EndsAs found answer → IfSome told (λ bytes. Wrote t bytes left found (Some []) (Some text))
    → PutsText answer had has text → IfSome told (λ bytes. Wrote t bytes left answer had has)
plain_if t None left had has found answer text ends w put = tt
plain_if t (Some bytes) left had has found answer text ends w put =
    plain_by t bytes left had has found answer text ends w put

module _ (t : Task) (answer : Result Status RunFault) (i : Change SourceState) (o : Change SinkState)
    (k : WritesItems t item_line answer i o) where
  pub plain_wrote : IfSome i.old.remaining (λ bytes. Wrote t bytes i.new.remaining answer o.old.taken o.new.taken)
  plain_wrote =
      plain_if t i.old.remaining i.new.remaining o.old.taken o.new.taken k.found answer (items_text k.items) k.ends k.wrote
      k.put

pub same_found : (found answer : Result Status RunFault) → EndsAs found answer → answer ≢ Err Write → answer ≡ found
same_found found answer (inl same) other = same
same_found found answer (inr cut) other = absurd (other cut.2)

-- a task with lines has no picture
pub lines_wrote : (t : Task) (told left had has : Option (List ℕ)) (answer : Result Status RunFault)
    → has_lines t ≡ true → IfSome told (λ bytes. Wrote t bytes left answer had has)
    → IfSome told (λ bytes. RunWrote t bytes left answer had has)
lines_wrote (Check profile terminals) told left had has answer lines w = w
lines_wrote (Survey profile terminals) told left had has answer lines w = w
lines_wrote (Scan profile eight) told left had has answer lines w = w
lines_wrote (Differ background) told left had has answer lines w = w
lines_wrote t told left had has answer lines w = absurd (let no : false ≡ true = lines in cc)
