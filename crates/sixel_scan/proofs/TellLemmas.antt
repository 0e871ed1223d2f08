-- What a scan over a source tells.
use Rattle.std.proofs.Common.{◌≡◌, ◌∙◌, ℕ, ◌+◌, ◌-◌, ◌<◌, ◌≤◌, ◌^◌, inl, inr, Bool, true, false, Option, Some, None}
use Rattle.std.specs.Option.{option_to_list}
use Rattle.std.specs.Prelude.{if◌then◌else◌, is_some}
use Rattle.std.proofs.Common.{List, [], ◌∷◌, ◌++◌, length, take, drop, refl, sym, ap, subst, append_assoc, arith}
use Rattle.std.specs.Io.KnownBytes.{Consumes, Keeps}
use Rattle.std.proofs.KnownBytes.{Consumes-kept, Consumes-nil, Consumes-trans}
use Rattle.std.proofs.lemmas.List.{append-nil, length-append, take-append-drop, take-take, take_all, take_at}
use Rattle.sixel_model.specs.Profiles.{count_of}
use Rattle.sixel_scan.specs.declared.answer.Scanned.{Scanned}
use Rattle.sixel_scan.specs.declared.scan.Scan.{Scan}
use Rattle.sixel_scan.specs.declared.scanner.Scanner.{Scanner}
use Rattle.sixel_scan.specs.Marking.{Marks}
use Rattle.sixel_scan.specs.Prefixes.{AreBeforeGrowth, AreGiven}
use Rattle.sixel_scan.specs.Scans.{AfterTaking, AreFirst, GoesOn, GrowsWithin, HasTold, IsOver, IsReading, IsReady}
use Rattle.sixel_scan.specs.Scans.{IsThrough, Tells, TellsAll, TellsNext, longest_stream, steps_left}
use Rattle.sixel_scan.specs.Standing.{AreReported, Reports, ReportsAll}
use Rattle.sixel_scan.specs.Strings.{AreStrings, StringAt}
use Rattle.sixel_scan.specs.Wrapping.{AreMarked}
use Rattle.sixel_scan.proofs.GivenLemmas.{ended_of, given}
use Rattle.sixel_scan.proofs.MarkLemmas.{marked_more}
use Rattle.sixel_scan.proofs.StringLemmas.{one_list}

-- ---- a scan that goes on

pub reading_counts : {s : Scan} {told : List StringAt} {bytes : List ℕ} → IsReading s told bytes
    → s.scanner.read + length s.unread ≡ length bytes
reading_counts {s} r = omega (arith, r.stands.read_is, ap length r.bytes_are, length-append r.read s.unread)

-- the scan hasn't ended, so it goes on
pub still_goes : {eight : Bool} {registers : ℕ} {s : Scan} {remaining : Option (List ℕ)} {told : List StringAt}
    {bytes : List ℕ} → s.ended ≡ false → HasTold eight registers s remaining told bytes
    → GoesOn eight registers s told bytes
still_goes off h = elim h [ inl g ↦ g | inr t ↦ let both : true ≡ false = sym t.ended ∙ off in absurd (cc) ]

-- the same choices, and the scan still reads
pub goes_with : {eight : Bool} {registers : ℕ} {s t : Scan} {told now : List StringAt} {bytes after : List ℕ}
    → t.scanner.profile ≡ s.scanner.profile → t.scanner.eight ≡ s.scanner.eight → t.ended ≡ s.ended
    → GoesOn eight registers s told bytes → IsReading t now after → GoesOn eight registers t now after
goes_with profile eight_same ended g r = record {
  goes_on = ended ∙ g.goes_on;
  eight_is = eight_same ∙ g.eight_is;
  registers_are = ap count_of profile ∙ g.registers_are;
  reading = r;
}

-- a list is split at a place of its second part
pub split_later : (first rest : List ℕ) (n : ℕ) → first ++ rest ≡ (first ++ take n rest) ++ drop n rest
split_later first rest n =
    ap (λ (t : List ℕ). first ++ t) (sym (take-append-drop n rest))
    ∙ sym (append_assoc first (take n rest) (drop n rest))

-- the scanner read some of the unread bytes
pub tells_some : {s : Scan} (t : Scan) {told : List StringAt} {bytes : List ℕ} (count : ℕ) {reports : List Scanned}
    → t.unread ≡ drop count s.unread → (r : IsReading s told bytes)
    → Reports t.scanner told (r.read ++ take count s.unread) reports
    → Marks t.scanner (r.read ++ take count s.unread) reports → Tells t told bytes reports
tells_some {s} t count rest r k m = record {
  found = k.found;
  reported = k.reported;
  reading = record {
    read = r.read ++ take count s.unread;
    bytes_are = r.bytes_are ∙ split_later r.read s.unread count
        ∙ ap (λ (x : List ℕ). (r.read ++ take count s.unread) ++ x) (sym rest);
    within = r.within;
    stands = k.stands;
    knows = m.knows;
  };
}

pub marks_some : {s : Scan} {t : Scanner} {told : List StringAt} {bytes : List ℕ} (count : ℕ) {reports : List Scanned}
    → (r : IsReading s told bytes) → Marks t (r.read ++ take count s.unread) reports → AreMarked bytes reports
marks_some {s} count {reports} r m =
    subst (λ (l : List ℕ). AreMarked l reports) (sym (r.bytes_are ∙ split_later r.read s.unread count))
    (marked_more (r.read ++ take count s.unread) (drop count s.unread) reports m.marked)

pub grows_some : {s : Scan} {told : List StringAt} {bytes : List ℕ} → (r : IsReading s told bytes)
    → (n : ℕ) × AreBeforeGrowth s.scanner.eight (count_of s.scanner.profile) told (r.read ++ take n s.unread)
    → GrowsWithin s.scanner.eight (count_of s.scanner.profile) told bytes
grows_some {s} r grows = (
  r.read ++ take grows.0 s.unread,
  drop grows.0 s.unread,
  r.bytes_are ∙ split_later r.read s.unread grows.0,
  grows.1,
  r.within,
)

-- all that was taken is read
pub all_read : {s : Scan} {told : List StringAt} {bytes : List ℕ} → s.unread ≡ [] → (r : IsReading s told bytes)
    → bytes ≡ r.read
all_read none r = r.bytes_are ∙ ap (λ (t : List ℕ). r.read ++ t) none ∙ append-nil r.read

-- the scanner has ended the stream
pub tells_all : {s : Scan} {told : List StringAt} {bytes : List ℕ} {reports : List Scanned} → s.unread ≡ []
    → (r : IsReading s told bytes) → ReportsAll s.scanner told r.read reports → TellsAll s told bytes reports
tells_all {s} {told} none r k = record {
  found = k.found;
  reported = k.reported;
  strings = subst (AreStrings s.scanner.eight (told ++ k.found)) (sym (all_read none r)) k.strings;
}

pub grows_all : {s : Scan} {told : List StringAt} {bytes : List ℕ} → (r : IsReading s told bytes)
    → AreBeforeGrowth s.scanner.eight (count_of s.scanner.profile) told r.read
    → GrowsWithin s.scanner.eight (count_of s.scanner.profile) told bytes
grows_all {s} r grows = (r.read, s.unread, r.bytes_are, grows, r.within)

pub marks_all : {s : Scan} {told : List StringAt} {bytes : List ℕ} (reports : List Scanned) → s.unread ≡ []
    → (r : IsReading s told bytes) → AreMarked r.read reports → AreMarked bytes reports
marks_all reports none r are = subst (λ (t : List ℕ). AreMarked t reports) (sym (all_read none r)) are

nothing_found : (registers : ℕ) (found : List StringAt) → AreReported registers found [] → found ≡ []
nothing_found registers [] h = refl
nothing_found registers (s ∷ more) h = absurd h

pub tells_nothing : {s : Scan} {told : List StringAt} {bytes : List ℕ} → Tells s told bytes [] → IsReading s told bytes
tells_nothing {s} {told} {bytes} t =
    subst (λ (x : List StringAt). IsReading s x bytes)
    (ap (λ (x : List StringAt). told ++ x) (nothing_found (count_of s.scanner.profile) t.found t.reported)
    ∙ append-nil told)
    t.reading

pub no_string : (o : Option Scanned) → is_some o ≡ false → o ≡ None
no_string None off = refl
no_string (Some x) off = absurd (let both : true ≡ false = off in cc)

pub told_none : {s : Scan} {told : List StringAt} {bytes : List ℕ} (o : Option Scanned) → is_some o ≡ false
    → Tells s told bytes (option_to_list o) → Tells s told bytes []
told_none {s} {told} {bytes} o off t =
    subst (λ (x : Option Scanned). Tells s told bytes (option_to_list x)) (no_string o off) t

-- ---- a scan and its source, after calls in which no string was told

pub record Goes (s : Scan) (old : Option (List ℕ)) (t : Scan) (new : Option (List ℕ)) : Type 0 where
  pub on : (eight : Bool) (registers : ℕ) (told : List StringAt) (bytes : List ℕ)
      → GoesOn eight registers s told bytes
      → (taken : List ℕ) × Consumes old new taken × GoesOn eight registers t told (bytes ++ taken)

-- no string has ended in what was unread
pub read_past : {s t u : Scan} {old mid : Option (List ℕ)} (o : Option Scanned) → Goes s old t mid
    → u.scanner.profile ≡ t.scanner.profile → u.scanner.eight ≡ t.scanner.eight → u.ended ≡ t.ended → is_some o ≡ false
    → ((told : List StringAt) (bytes : List ℕ) → IsReading t told bytes → Tells u told bytes (option_to_list o))
    → Goes s old u mid
read_past o goes profile eight_same ended off tells = record {
  on = λ eight registers told bytes g.
      let r = goes.on eight registers told bytes g in (
        r.0,
        r.1,
        goes_with profile eight_same ended r.2
            (tells_nothing (told_none o off (tells told (bytes ++ r.0) r.2.reading))),
      );
}

-- and more was taken
pub taken_past : {s t u : Scan} {old mid new : Option (List ℕ)} → Goes s old t mid
    → u ≡ record t { unread = u.unread } → Consumes mid new u.unread
    → ((told : List StringAt) (bytes : List ℕ) → IsReading t told bytes → IsReading u told (bytes ++ u.unread))
    → Goes s old u new
taken_past {u} {old} {mid} {new} goes rest consumes more = record {
  on = λ eight registers told bytes g.
      let r = goes.on eight registers told bytes g in (
        r.0 ++ u.unread,
        Consumes-trans old mid new r.0 u.unread r.1 consumes,
        goes_with (ap (λ (x : Scan). x.scanner.profile) rest) (ap (λ (x : Scan). x.scanner.eight) rest)
            (ap (λ (x : Scan). x.ended) rest) r.2
            (subst (IsReading u told) (append_assoc bytes r.0 u.unread) (more told (bytes ++ r.0) r.2.reading)),
      );
}

-- ---- what a call answers

-- the strings told are the first of the stream
told_are_first : {eight : Bool} {registers : ℕ} {s : Scan} {remaining : Option (List ℕ)} {told : List StringAt}
    {bytes : List ℕ} → HasTold eight registers s remaining told bytes → AreFirst eight remaining told bytes
told_are_first {s} {told} {bytes} h = elim h [
  | inl g ↦
      let k = g.reading in
      let ended = ended_of s.scanner.eight told k.read (length k.stands.before) k.stands.held k.stands.resumes in
      inl (λ more.
      let all = ended (s.unread ++ more) in
      let whole : k.read ++ (s.unread ++ more) ≡ bytes ++ more =
      sym (append_assoc k.read s.unread more) ∙ ap (λ (t : List ℕ). t ++ more) (sym k.bytes_are) in (
        all.0,
        subst (λ (e : Bool). AreStrings e (told ++ all.0) (bytes ++ more)) g.eight_is
            (subst (AreStrings s.scanner.eight (told ++ all.0)) whole all.1),
      ))
  | inr t ↦ inr (t.strings, t.over)
]

-- a string was told, or none
pub next_told : {s t u : Scan} {old mid : Option (List ℕ)} {reports : List Scanned} → s.ended ≡ false
    → Goes s old t mid → u.scanner.profile ≡ t.scanner.profile → u.scanner.eight ≡ t.scanner.eight → u.ended ≡ t.ended
    → ((told : List StringAt) (bytes : List ℕ) → IsReading t told bytes → Tells u told bytes reports)
    → AfterTaking s old mid (λ eight registers told bytes. TellsNext eight registers u mid told bytes reports)
next_told {u} {mid} {reports} off goes profile eight_same ended tells = λ eight registers told bytes h.
    let r = goes.on eight registers told bytes (still_goes off h) in
    let k = tells told (bytes ++ r.0) r.2.reading in
    let has : HasTold eight registers u mid (told ++ k.found) (bytes ++ r.0) =
    inl (goes_with profile eight_same ended r.2 k.reading) in (
      r.0,
      r.1,
      record {
        found = k.found;
        reported = subst (λ (n : ℕ). AreReported n k.found reports) (ap count_of profile ∙ r.2.registers_are)
            k.reported;
        first = told_are_first has;
        has_told = has;
      },
    )

-- and it says whether it is wrapped
pub next_marked : {s t : Scan} {old mid : Option (List ℕ)} (reports : List Scanned) → s.ended ≡ false
    → Goes s old t mid
    → ((told : List StringAt) (bytes : List ℕ) → IsReading t told bytes → AreMarked bytes reports)
    → AfterTaking s old mid (λ eight registers told bytes. AreMarked bytes reports)
next_marked reports off goes marked = λ eight registers told bytes h.
    let r = goes.on eight registers told bytes (still_goes off h) in
    (r.0, r.1, marked told (bytes ++ r.0) r.2.reading)

pub none_marked : (s : Scan) (remaining : Option (List ℕ))
    → AfterTaking s remaining remaining (λ eight registers told bytes. AreMarked bytes [])
none_marked s remaining = λ eight registers told bytes h. ([], Consumes-nil remaining, tt)

-- an allocation failed
pub next_grows : {s t : Scan} {old mid : Option (List ℕ)} → s.ended ≡ false → Goes s old t mid
    → ((told : List StringAt) (bytes : List ℕ) → IsReading t told bytes
    → GrowsWithin t.scanner.eight (count_of t.scanner.profile) told bytes)
    → AfterTaking s old mid (λ eight registers told bytes. GrowsWithin eight registers told bytes)
next_grows {t} off goes grows = λ eight registers told bytes h.
    let r = goes.on eight registers told bytes (still_goes off h) in (
      r.0,
      r.1,
      subst (λ (n : ℕ). GrowsWithin eight n told (bytes ++ r.0)) r.2.registers_are
          (subst (λ (e : Bool). GrowsWithin e (count_of t.scanner.profile) told (bytes ++ r.0)) r.2.eight_is
          (grows told (bytes ++ r.0) r.2.reading)),
    )

-- the source failed
pub next_failed : {s t u : Scan} {old mid new : Option (List ℕ)} → s.ended ≡ false → Goes s old t mid → Keeps mid new
    → t.unread ≡ [] → u ≡ t
    → AfterTaking s old new (λ eight registers told bytes. AreGiven eight told bytes
    × HasTold eight registers u new told bytes)
next_failed {t} {old} {mid} {new} off goes kept none same = λ eight registers told bytes h.
    let r = goes.on eight registers told bytes (still_goes off h) in (
      r.0,
      Consumes-kept old mid new r.0 r.1 kept,
      (
        subst (λ (e : Bool). AreGiven e told (bytes ++ r.0)) r.2.eight_is
            (subst (AreGiven t.scanner.eight told) (sym (all_read none r.2.reading))
            (given t.scanner told r.2.reading.read r.2.reading.stands)),
        inl (subst (λ (x : Scan). GoesOn eight registers x told (bytes ++ r.0)) (sym same) r.2),
      ),
    )

-- the stream is over: the string that was open is told, if there was one
pub next_last : {s t u : Scan} {old new : Option (List ℕ)} {reports : List Scanned} → s.ended ≡ false → Goes s old t new
    → u.ended ≡ true → ((told : List StringAt) (bytes : List ℕ) → IsReading t told bytes → IsOver new bytes)
    → ((told : List StringAt) (bytes : List ℕ) → IsReading t told bytes → TellsAll t told bytes reports)
    → AfterTaking s old new (λ eight registers told bytes. TellsNext eight registers u new told bytes reports)
next_last {u} {new} {reports} off goes ended over all = λ eight registers told bytes h.
    let r = goes.on eight registers told bytes (still_goes off h) in
    let k = all told (bytes ++ r.0) r.2.reading in
    let through : IsThrough eight u new (told ++ k.found) (bytes ++ r.0) = record {
      ended = ended;
      within = r.2.reading.within;
      strings = subst (λ (e : Bool). AreStrings e (told ++ k.found) (bytes ++ r.0)) r.2.eight_is k.strings;
      over = over told (bytes ++ r.0) r.2.reading;
    } in (
      r.0,
      r.1,
      record {
        found = k.found;
        reported = subst (λ (n : ℕ). AreReported n k.found reports) r.2.registers_are k.reported;
        first = inr (through.strings, through.over);
        has_told = inr through;
      },
    )

is_through : {eight : Bool} {registers : ℕ} {s : Scan} {remaining : Option (List ℕ)} {told : List StringAt}
    {bytes : List ℕ} → s.ended ≡ true → HasTold eight registers s remaining told bytes
    → IsThrough eight s remaining told bytes
is_through on h = elim h [ inl g ↦ let both : true ≡ false = sym on ∙ g.goes_on in absurd (cc) | inr t ↦ t ]

-- if none was told, all are told
pub next_all : {s : Scan} (u : Scan) {old new : Option (List ℕ)} (o : Option Scanned) → o ≡ None → u.ended ≡ true
    → AfterTaking s old new (λ eight registers told bytes.
    TellsNext eight registers u new told bytes (option_to_list o))
    → AfterTaking s old new (λ eight registers told bytes. AreStrings eight told bytes × IsOver new bytes)
next_all u o none on next = λ eight registers told bytes h.
    let n = next eight registers told bytes h in
    let reported = subst (λ (x : Option Scanned). AreReported registers n.2.found (option_to_list x)) none
    n.2.reported in
    let same : told ++ n.2.found ≡ told =
    ap (λ (x : List StringAt). told ++ x) (nothing_found registers n.2.found reported) ∙ append-nil told in
    let t = is_through on n.2.has_told in
    (n.0, n.1, (subst (λ (x : List StringAt). AreStrings eight x (bytes ++ n.0)) same t.strings, t.over))

-- the stream was over before
pub next_none : (s : Scan) (remaining : Option (List ℕ)) → s.ended ≡ true
    → AfterTaking s remaining remaining
    (λ eight registers told bytes. TellsNext eight registers s remaining told bytes [])
next_none s remaining on = λ eight registers told bytes h.
    let has : HasTold eight registers s remaining (told ++ []) (bytes ++ []) =
    subst (λ (x : List StringAt). HasTold eight registers s remaining x (bytes ++ [])) (sym (append-nil told))
    (subst (HasTold eight registers s remaining told) (sym (append-nil bytes)) h) in
    ([], Consumes-nil remaining, record { found = []; reported = tt; first = told_are_first has; has_told = has })

-- ---- before and after a call

-- the scan still reads, and had told some strings
pub still_reading : {s t : Scan} {old mid : Option (List ℕ)} → s.ended ≡ false → Goes s old t mid → IsReady s old
    → (told : List StringAt) × (bytes : List ℕ) × IsReading t told bytes
still_reading off goes h =
    let r = goes.on h.0 h.1 h.2 h.3 (still_goes off h.4) in (h.2, h.3 ++ r.0, r.2.reading)

pub still_on : {s t : Scan} {old mid : Option (List ℕ)} → s.ended ≡ false → Goes s old t mid → IsReady s old
    → t.ended ≡ false
still_on off goes h = (goes.on h.0 h.1 h.2 h.3 (still_goes off h.4)).2.goes_on

pub ready_told : {s u : Scan} {old new : Option (List ℕ)} {reports : List Scanned} → IsReady s old
    → AfterTaking s old new (λ eight registers told bytes. TellsNext eight registers u new told bytes reports)
    → IsReady u new
ready_told h next = let n = next h.0 h.1 h.2 h.3 h.4 in (h.0, h.1, h.2 ++ n.2.found, h.3 ++ n.0, n.2.has_told)

pub ready_failed : {s u : Scan} {old new : Option (List ℕ)} → IsReady s old
    → AfterTaking s old new (λ eight registers told bytes. AreGiven eight told bytes
    × HasTold eight registers u new told bytes)
    → IsReady u new
ready_failed h next = let n = next h.0 h.1 h.2 h.3 h.4 in (h.0, h.1, h.2, h.3 ++ n.0, n.2.1)

-- ---- the calls come to an end

-- a scan that takes more
pub takes_more : {s t : Scan} {told : List StringAt} {bytes : List ℕ} → IsReading s told bytes
    → IsReading t told (bytes ++ t.unread) → 0 < length t.unread
    → longest_stream - (t.scanner.read + length t.unread) < longest_stream - (s.scanner.read + length s.unread)
takes_more {t} {bytes} old new some =
    omega (arith, reading_counts old, reading_counts new, length-append bytes t.unread, new.within, some)

-- a scan that reads
pub reads_later : {s t : Scan} {told now : List StringAt} {bytes : List ℕ} → IsReading s told bytes
    → IsReading t now bytes → length t.unread ≤ length s.unread → s.scanner.read ≤ t.scanner.read
reads_later old new less = omega (arith, reading_counts old, reading_counts new, less)

steps_of : (s : Scan) → s.ended ≡ false → steps_left s ≡ 2 ^ 64 - s.scanner.read
steps_of s off = ap (λ (e : Bool). if e then 0 else 2 ^ 64 - s.scanner.read) off

-- a scan that tells a string
pub tells_fewer : (s : Scan) {t u : Scan} {told now : List StringAt} {bytes : List ℕ} → s.ended ≡ false
    → u.ended ≡ false → s.scanner.read ≤ t.scanner.read → IsReading t told bytes → IsReading u now bytes
    → length u.unread < length t.unread → steps_left u < steps_left s
tells_fewer s {u} off still later old new less =
    let before : ℕ = steps_left s in
    let after : ℕ = steps_left u in
    let are : before ≡ 2 ^ 64 - s.scanner.read = steps_of s off in
    let now_are : after ≡ 2 ^ 64 - u.scanner.read = steps_of u still in
    omega (arith, are, now_are, later, reading_counts old, reading_counts new, new.within, less)

pub tells_none : {s : Scan} {told : List StringAt} {bytes : List ℕ} → IsReading s told bytes → Tells s told bytes []
tells_none {s} {told} {bytes} r = record {
  found = [];
  reported = tt;
  reading = subst (λ (x : List StringAt). IsReading s x bytes) (sym (append-nil told)) r;
}

pub grows_as : (s t : Scan) (told : List StringAt) (bytes : List ℕ) → t.scanner.profile ≡ s.scanner.profile
    → t.scanner.eight ≡ s.scanner.eight → GrowsWithin t.scanner.eight (count_of t.scanner.profile) told bytes
    → GrowsWithin s.scanner.eight (count_of s.scanner.profile) told bytes
grows_as s t told bytes profile eight_same grows =
    subst (λ (n : ℕ). GrowsWithin s.scanner.eight n told bytes) (ap count_of profile)
    (subst (λ (e : Bool). GrowsWithin e (count_of t.scanner.profile) told bytes) eight_same grows)

-- ---- what the strings told are of the stream

-- the bytes taken are the stream, if it is over
pub stream_over : (rest bytes : List ℕ) → length bytes ≤ longest_stream → IsOver (Some rest) bytes
    → take longest_stream (bytes ++ rest) ≡ bytes
stream_over rest bytes within over = elim over [
  | inl none ↦
      ap (λ (t : List ℕ). take longest_stream (bytes ++ t)) none ∙ ap (take longest_stream) (append-nil bytes)
      ∙ take_all longest_stream bytes within
  | inr full ↦ take_at bytes rest longest_stream full
]

-- the stream begins with the bytes taken
pub stream_begins : (rest bytes : List ℕ) → length bytes ≤ longest_stream
    → (more : List ℕ) × (take longest_stream (bytes ++ rest) ≡ bytes ++ more)
stream_begins rest bytes within =
    let stream = take longest_stream (bytes ++ rest) in
    let first : take (length bytes) stream ≡ bytes =
    take-take (length bytes) longest_stream (bytes ++ rest) within ∙ take_at bytes rest (length bytes) refl in (
      drop (length bytes) stream,
      sym (take-append-drop (length bytes) stream) ∙ ap (λ (t : List ℕ). t ++ drop (length bytes) stream) first,
    )

-- the strings told are the first of the stream
pub told_first : (eight : Bool) (registers : ℕ) (s : Scan) (rest : List ℕ) (told strings : List StringAt)
    (bytes : List ℕ) → HasTold eight registers s (Some rest) told bytes
    → AreStrings eight strings (take longest_stream (bytes ++ rest)) → (more : List StringAt) × (strings ≡ told ++ more)
told_first eight registers s rest told strings bytes h are = elim h [
  | inl g ↦
      let begins = stream_begins rest bytes g.reading.within in
      let k = g.reading in
      let ended = ended_of s.scanner.eight told k.read (length k.stands.before) k.stands.held k.stands.resumes
      (s.unread ++ begins.0) in
      let whole : k.read ++ (s.unread ++ begins.0) ≡ take longest_stream (bytes ++ rest) =
      sym (append_assoc k.read s.unread begins.0)
      ∙ ap (λ (t : List ℕ). t ++ begins.0) (sym k.bytes_are) ∙ sym begins.1 in
      let first : AreStrings eight (told ++ ended.0) (take longest_stream (bytes ++ rest)) =
      subst (AreStrings eight (told ++ ended.0)) whole
      (subst (λ (e : Bool). AreStrings e (told ++ ended.0) (k.read ++ (s.unread ++ begins.0))) g.eight_is ended.1) in
      (ended.0, one_list eight strings (told ++ ended.0) (take longest_stream (bytes ++ rest)) are first)
  | inr t ↦ (
    [],
    one_list eight strings told bytes
        (subst (AreStrings eight strings) (stream_over rest bytes t.within t.over) are) t.strings
        ∙ sym (append-nil told),
  )
]
