-- How the check, the survey or the scan of an input ends, quiet or not.
use Rattle.std.proofs.Common.{◌≡◌, ◌∙◌, ℕ, Bool, true, false, List, [], ◌∷◌, Option, Some, None, flat_map, inl, inr, ap}
use Rattle.std.proofs.Common.{refl, subst, sym, take}
use Rattle.std.specs.Prelude.{◌⊎◌, ◌≢◌, IfErr, IfOk, Result, Ok, Err}
use Rattle.std.specs.Io.KnownBytes.{Appends, Keeps}
use Rattle.std.proofs.KnownBytes.{Appends-trans}
use Rattle.sixel_io.specs.Devices.{Change, SinkState, SourceState, Writes, change, one_more}
use Rattle.sixel_io.proofs.SinkLemmas.{Appends-none, puts-longer, puts-then}
use Rattle.sixel_report.specs.declared.fault.RunFault.{RunFault}
use Rattle.sixel_report.specs.declared.fault.RunFault.TheVariants as run
use Rattle.sixel_report.specs.declared.item.Item.{Item}
use Rattle.sixel_report.specs.declared.task.Status.{Status}
use Rattle.sixel_report.specs.declared.task.Task.{Task}
use Rattle.sixel_run.specs.LineTasks.{EndsAs, WritesItems}
use Rattle.sixel_report.specs.Outputs.{CountsWrites, PutsText, failures_by}
use Rattle.sixel_report.specs.Texts.{Text}
use Rattle.sixel_run.proofs.LineTaskLemmas.{same_found}
use Rattle.sixel_report.specs.Lines.{is_quiet}
use Rattle.sixel_messages.specs.declared.formats.Format.{Format}
use Rattle.sixel_report.specs.declared.wanted_lines.Lines.{Lines}
use Rattle.sixel_report.specs.declared.wanted_lines.Lines.TheVariants.{Nothing}
use Rattle.sixel_program.specs.Files.{IsFileEnd, IsNamedEnd}
use Rattle.sixel_messages.specs.Reports.{refusal_text, said_of_file, written_for}
use Rattle.sixel_messages.specs.Puts.{ArePut}
use Rattle.sixel_messages.specs.Formats.{IsFormat}
use Rattle.sixel_program.proofs.FilesLemmas.{memory_kept, over_kept, wrote_kept}
use Rattle.sixel_messages.proofs.ReportLemmas.{no_message, no_refusal, unwritten_refusal}

-- ---- what is written

-- a quiet task writes nothing of its items
pub none_written : (json : Bool) (label : Option Text) (items : List Item)
    → flat_map (written_for (Nothing json) label) items ≡ []
none_written json label [] = refl
none_written json label (i ∷ items) = none_written json label items

-- ---- the answer

unfailed_put : (answer : Result Status RunFault) (had has : Option (List ℕ)) (text : Text) → answer ≢ Err run.Write
    → PutsText answer had has text → Appends had has text
unfailed_put (Err run.Write) had has text other put = absurd (other refl)
unfailed_put answer had has text other put = put

unfailed_count : (answer : Result Status RunFault) (old new : ℕ) → answer ≢ Err run.Write
    → CountsWrites answer old new → new ≡ old
unfailed_count (Err run.Write) old new other counts = absurd (other refl)
unfailed_count answer old new other counts = counts

puts_unfailed : (answer : Result Status RunFault) (had has : Option (List ℕ)) (text : Text) → answer ≢ Err run.Write
    → Appends had has text → PutsText answer had has text
puts_unfailed (Err run.Write) had has text other put = absurd (other refl)
puts_unfailed answer had has text other put = put

counts_unfailed : (answer : Result Status RunFault) (n : ℕ) → answer ≢ Err run.Write → CountsWrites answer n n
counts_unfailed (Err run.Write) n other = absurd (other refl)
counts_unfailed answer n other = refl

-- a sink on which no call fails
pub none_unwritten : (answer : Result Status RunFault) (old new : ℕ) → old ≡ 0 → new ≡ 0 → CountsWrites answer old new
    → answer ≢ Err run.Write
none_unwritten answer old new first last counts is =
    let one : 0 ≡ one_more 0 = rw (is, first, last) at counts in absurd (let no : 0 ≡ 1 = one in cc)

-- ---- quiet or not

-- the lines were put to such a sink, and nothing was put to the output
pub quiet_lines : (t : Task) (json : Bool) (written : Item → Text) (label : Option Text) (answer : Result Status RunFault)
    (i : Change SourceState) (nowhere : Change SinkState) (o : SinkState) → WritesItems t written answer i nowhere
    → answer ≢ Err run.Write → WritesItems t (written_for (Nothing json) label) answer i (change o o)
quiet_lines t json written label answer i nowhere o k other = record {
  found = k.found;
  items = k.items;
  wrote = k.wrote;
  refused = k.refused;
  unwritten = k.unwritten;
  ends = k.ends;
  put = puts_unfailed answer o.taken o.taken (flat_map (written_for (Nothing json) label) k.items) other
      (subst (Appends o.taken o.taken) (sym (none_written json label k.items)) (Appends-none o.taken));
  memory = k.memory;
  over = k.over;
  reads = k.reads;
  writes = counts_unfailed answer o.failures other;
}

-- ---- the end

cut_put : (answer : Result Status RunFault) (had has : Option (List ℕ)) (text : Text) → answer ≡ Err run.Write
    → PutsText answer had has text → (n : ℕ) × Appends had has (take n text)
cut_put answer had has text is put = rw is at put

cut_count : (answer : Result Status RunFault) (old new : ℕ) → answer ≡ Err run.Write
    → CountsWrites answer old new → new ≡ one_more old
cut_count answer old new is counts = rw is at counts

-- if the output failed, there was nothing to say of the input
none_said : (lines : Lines) (label : Option Text) (format : Option Format) (found answer : Result Status RunFault)
    → EndsAs found answer → answer ≡ Err run.Write
    → (said_of_file lines label None format found ≡ []) ⊎ (found ≡ Err run.Write)
none_said lines label format found answer (inl same) is = inr (sym same ∙ is)
none_said lines label format found answer (inr cut) is = inl (rw cut.1 (no_message lines label format cut.0))

none_refused : (lines : Lines) (label : Option Text) (found answer : Result Status RunFault)
    → EndsAs found answer → answer ≡ Err run.Write → refusal_text lines label None found ≡ []
none_refused lines label found answer (inl same) is = rw (sym same ∙ is) (unwritten_refusal lines label)
none_refused lines label found answer (inr cut) is = rw cut.1 (no_refusal lines label cut.0)

not_quiet : (q : Bool) (answer : Result Status RunFault) → (q ≡ true → answer ≢ Err run.Write)
    → answer ≡ Err run.Write → q ≡ false
not_quiet true answer loud is = absurd (loud refl is)
not_quiet false answer loud is = refl

-- the task wrote the lines of an input, of whose bytes some were looked at
module _ (t : Task) (lines : Lines) (label : Option Text) (format : Option Format) (answer : Result Status RunFault)
    (old : SourceState) (i : Change SourceState) (o₀ o₁ : SinkState)
    (k : WritesItems t (written_for lines label) answer i (change o₀ o₁)) (same : Keeps old.remaining i.old.remaining)
    (counted : i.old.failures ≡ old.failures) (is_format : IsFormat old.remaining format) where
  file_end : IsFileEnd t (record {
    label = label;
    unopened = None;
    told = old.remaining;
    left = i.new.remaining;
    format = format;
    items = k.items;
    answer = k.found;
  })
  file_end = record {
    wrote = wrote_kept t old.remaining i.old.remaining i.new.remaining k.found (Some []) (Some _) same k.wrote;
    refused = k.refused;
    memory = λ out. memory_kept t old.remaining i.old.remaining same (k.memory out);
    written = k.unwritten;
    reads = over_kept t k.found old.remaining i.old.remaining i.new.remaining same k.over;
    is_format = is_format;
  }

  reads_all : i.new.failures ≡ failures_by run.Read k.found old.failures
  reads_all = subst (λ (n : ℕ). i.new.failures ≡ failures_by run.Read k.found n) counted k.reads

  -- the output failed while they were written
  pub named_cut : {E : Type 0} (f : E) (e : SinkState) → answer ≡ Err run.Write
      → (is_quiet lines ≡ true → answer ≢ Err run.Write)
      → IsNamedEnd {E = E} t lines label (Err f) (change old i.new) (change o₀ o₁) (change e e)
  named_cut f e is loud = record {
    format = format;
    items = k.items;
    answer = k.found;
    is_end = file_end;
    counted = reads_all;
    written = tt;
    outcome = (
      rw (none_refused lines label k.found answer k.ends is)
          (puts-longer o₀.taken o₁.taken (flat_map (written_for lines label) k.items) []
          (cut_put answer o₀.taken o₁.taken (flat_map (written_for lines label) k.items) is k.put)),
      not_quiet (is_quiet lines) answer loud is,
      cut_count answer o₀.failures o₁.failures is k.writes,
      none_said lines label format k.found answer k.ends is,
      refl,
    );
  }

  module _ (other : answer ≢ Err run.Write) (o₂ : SinkState) where
    found_is : answer ≡ k.found
    found_is = same_found k.found answer k.ends other

    items_put : Appends o₀.taken o₁.taken (flat_map (written_for lines label) k.items)
    items_put = unfailed_put answer o₀.taken o₁.taken (flat_map (written_for lines label) k.items) other k.put

    no_failure : o₁.failures ≡ o₀.failures
    no_failure = unfailed_count answer o₀.failures o₁.failures other k.writes

    -- or then its refusal was written, and its message was put
    pub named_said : {A B E : Type 0} (x : A) (answered : Result Status RunFault) (e : Change SinkState)
        → answered ≡ answer
        → Writes (let r : Result A B = Ok x in r) o₁ o₂ (refusal_text lines label None answer)
        → ArePut (said_of_file lines label None format answer) e
        → (is_quiet lines ≡ true → o₂ ≡ o₀)
        → IsNamedEnd {E = E} t lines label (Ok answered) (change old i.new) (change o₀ o₂) e
    named_said x answered e is refused says untouched = record {
      format = format;
      items = k.items;
      answer = k.found;
      is_end = file_end;
      counted = reads_all;
      written = λ write. other (found_is ∙ write);
      outcome = (
        is ∙ found_is,
        Appends-trans o₀.taken o₁.taken o₂.taken (flat_map (written_for lines label) k.items)
            (refusal_text lines label None k.found) items_put (rw found_is at refused.taken),
        refused.failures ∙ no_failure,
        rw found_is at says,
        untouched,
      );
    }

    -- or the output failed in the middle of its refusal
    pub named_unsaid : {A B E : Type 0} (x : B) (f : E) (e : SinkState)
        → Writes (let r : Result A B = Err x in r) o₁ o₂ (refusal_text lines label None answer)
        → said_of_file lines label None format answer ≡ [] → is_quiet lines ≡ false
        → IsNamedEnd {E = E} t lines label (Err f) (change old i.new) (change o₀ o₂) (change e e)
    named_unsaid {A} {B} x f e refused none loud = record {
      format = format;
      items = k.items;
      answer = k.found;
      is_end = file_end;
      counted = reads_all;
      written = tt;
      outcome = (
        puts-then (let r : Result A B = Err x in r) o₀.taken o₁.taken o₂.taken
            (flat_map (written_for lines label) k.items) (refusal_text lines label None k.found) items_put
            (rw found_is at refused.taken),
        loud,
        refused.failures ∙ ap one_more no_failure,
        inl (rw found_is at none),
        refl,
      );
    }

    -- whether it failed then or not
    pub named_answered : {E : Type 0} (r : Result (Result Status RunFault) E) (e : Change SinkState)
        → IfOk r (λ answered. answered ≡ answer) → Writes r o₁ o₂ (refusal_text lines label None answer)
        → ArePut (said_of_file lines label None format answer) e
        → IfErr r (λ _. said_of_file lines label None format answer ≡ []) → IfErr r (λ _. e.new ≡ e.old)
        → IfErr r (λ _. is_quiet lines ≡ false) → (is_quiet lines ≡ true → o₂ ≡ o₀)
        → IsNamedEnd {E = E} t lines label r (change old i.new) (change o₀ o₂) e
    named_answered {E} (Ok answered) e is refused says none same loud untouched =
        named_said {B = E} answered answered e is refused says untouched
    named_answered {E} (Err f) e is refused says none same loud untouched =
        subst (λ (n : SinkState). IsNamedEnd {E = E} t lines label (Err f) (change old i.new) (change o₀ o₂)
        (change e.old n)) (sym same) (named_unsaid {A = Result Status RunFault} f f e.old refused none loud)
