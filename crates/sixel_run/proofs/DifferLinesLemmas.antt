-- What a run of `differ` owes.
use Rattle.std.proofs.Common.{◌≡◌, ◌∙◌, ℕ, List, [], Option, Some, None, inl, refl}
use Rattle.std.specs.Prelude.{◌≢◌, ◌&&◌, Result, Ok, Err, IfSome}
use Rattle.sixel_io.specs.Devices.{Change, ReadsToEnd, SinkState, SourceState, change}
use Rattle.sixel_io.proofs.SinkLemmas.{Appends-none}
use Rattle.sixel_grammar.specs.declared.fault.InputFault.{InputFault}
use Rattle.sixel_grammar.specs.Reading.{NoFaultBefore}
use Rattle.sixel_model.specs.declared.colour.Parts.{Parts}
use Rattle.sixel_differ.specs.declared.comparison.Comparison.{Comparison}
use Rattle.sixel_differ.specs.declared.view.Views.{Views}
use Rattle.sixel_differ.specs.Comparisons.{IsComparison}
use Rattle.sixel_differ.specs.Views.{AreViews}
use Rattle.sixel_report.specs.declared.fault.RunFault.{RunFault}
use Rattle.sixel_report.specs.declared.fault.RunFault.TheVariants.{Grammar, Empty, OutOfMemory, Read, TooLarge, Write}
use Rattle.sixel_report.specs.declared.item.Item.{Item}
use Rattle.sixel_report.specs.declared.task.Status.{Status}
use Rattle.sixel_report.specs.declared.task.Task.TheVariants.{Differ}
use Rattle.sixel_sheet.specs.Outputs.{IsRefusalOf, HasEachSize}
use Rattle.sixel_report.specs.Differing.{differ_items, differ_status}
use Rattle.sixel_run.specs.LineTasks.{WritesItems}
use Rattle.sixel_report.specs.Outputs.{CountsWrites, PutsText, failures_by}
use Rattle.sixel_run.specs.Outputs.{Gives, Wrote}
use Rattle.sixel_report.specs.Texts.{Text, items_text}

pub memory_if : (a : Option (List ℕ)) (fault : RunFault) → IfSome a (λ bytes. IsRefusalOf bytes fault)
    → fault ≡ OutOfMemory → IfSome a HasEachSize
memory_if None fault is e = tt
memory_if (Some bytes) fault is e =
    let each : IsRefusalOf bytes OutOfMemory = rw e at is in λ m. each m

run_refused_by : (background : Parts) (bytes : List ℕ) (left : Option (List ℕ)) (fault : RunFault)
    → IsRefusalOf bytes fault → (fault ≡ Read → NoFaultBefore left bytes)
    → Wrote (Differ background) bytes left (Err fault) (Some []) (Some [])
run_refused_by background bytes left (Grammar f) is unread = ([], (refl, is), refl)
run_refused_by background bytes left Empty is unread = ([], (refl, is), refl)
run_refused_by background bytes left TooLarge is unread = ([], (refl, is), refl)
run_refused_by background bytes left OutOfMemory is unread = refl
run_refused_by background bytes left Read is unread = (unread refl, refl)
run_refused_by background bytes left fault is unread = absurd is

run_refused : (background : Parts) (a left : Option (List ℕ)) (fault : RunFault)
    → IfSome a (λ bytes. IsRefusalOf bytes fault) → (fault ≡ Read → IfSome a (NoFaultBefore left))
    → IfSome a (λ bytes. Wrote (Differ background) bytes left (Err fault) (Some []) (Some []))
run_refused background None left fault is unread = tt
run_refused background (Some bytes) left fault is unread = run_refused_by background bytes left fault is unread

pub fault_is : {A : Type 0} (a b : RunFault) → (let k : Result A RunFault = Err a in k) ≡ Err b → a ≡ b
fault_is a b e = cc

puts_none : (fault : RunFault) (had : Option (List ℕ)) → PutsText (Err fault) had had []
puts_none Write had = (0, Appends-none had)
puts_none fault had = Appends-none had

counts_none : (A : Type 0) (fault : RunFault) (n : ℕ) → fault ≢ Write
    → CountsWrites (let k : Result A RunFault = Err fault in k) n n
counts_none A Write n other = absurd (other refl)
counts_none A fault n other = refl

reads_as : (A B : Type 0) (fault : RunFault) (old new : ℕ)
    → new ≡ failures_by Read (let k : Result A RunFault = Err fault in k) old
    → new ≡ failures_by Read (let k : Result B RunFault = Err fault in k) old
reads_as A B Read old new is = is
reads_as A B fault old new is = is

pub differ_refused : (A : Type 0) (background : Parts) (written : Item → Text) (fault : RunFault)
    (i : Change SourceState) (o : SinkState) → IfSome i.old.remaining (λ bytes. IsRefusalOf bytes fault)
    → fault ≢ Write → (fault ≡ Read → IfSome i.old.remaining (NoFaultBefore i.new.remaining))
    → ReadsToEnd (let k : Result A RunFault = Err fault in k) i.old.remaining i.new.remaining
    → i.new.failures ≡ failures_by Read (let k : Result A RunFault = Err fault in k) i.old.failures
    → WritesItems (Differ background) written (Err fault) i (change o o)
differ_refused A background written fault i o is other unread read reads = record {
  found = Err fault;
  items = [];
  wrote = run_refused background i.old.remaining i.new.remaining fault is unread;
  refused = λ none f e. refl;
  unwritten = λ none e. other (fault_is {A = Status} fault Write e);
  ends = inl refl;
  put = puts_none fault o.taken;
  memory = λ e. memory_if i.old.remaining fault is (fault_is {A = Status} fault OutOfMemory e);
  over = record { bytes = read.read.0; read = read.read.1; ended = tt };
  reads = reads_as A Status fault i.old.failures i.new.failures reads;
  writes = counts_none Status fault o.failures other;
}

-- ---- the lines

-- the same of a reading with other faults
pub reads_on : (A : Type 0) (x : A) (old new : Option (List ℕ))
    → ReadsToEnd (let k : Result A RunFault = Ok x in k) old new
    → ReadsToEnd (let k : Result A InputFault = Ok x in k) old new
reads_on A x old new read = record { read = read.read; ended = read.ended }

pub differ_gives : (background : Parts) (a : Option (List ℕ)) (v : Views) (c : Comparison)
    → IfSome a (λ bytes. AreViews background bytes v) → IsComparison v c
    → IfSome a (λ bytes.
    Gives (Differ background) bytes (items_text (differ_items v.width v.height c)) (Ok (differ_status c)))
differ_gives background None v c are is = tt
differ_gives background (Some bytes) v c are is = (v, are, (c, is, refl))
