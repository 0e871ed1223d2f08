-- A scan, byte by byte.
use Rattle.std.proofs.Common.{◌≡◌, ◌≢◌, ◌∙◌, ℕ, ◌+◌, ◌-◌, ◌<◌, ◌⊎◌, inl, inr, Bool, true, false}
use Rattle.std.proofs.Common.{Some, List, [], ◌∷◌, ◌++◌, length, refl, sym, ap, subst, append_assoc, arith}
use Rattle.std.proofs.lemmas.List.{append-nil, length-append}
use Rattle.sixel_grammar.proofs.PieceLemmas.{all-append}
use Rattle.sixel_scan.specs.declared.opening.Opening.{Opening}
use Rattle.sixel_scan.specs.declared.opening.Opening.TheVariants.{Nothing, Escape, Letter, Control, Introduced}
use Rattle.sixel_scan.specs.declared.scanner.Stage.{Stage}
use Rattle.sixel_scan.specs.declared.scanner.Stage.TheVariants.{Text, Inside, Escaped}
use Rattle.sixel_scan.specs.declared.string_check.StringCheck.{StringCheck}
use Rattle.sixel_scan.specs.Checking.{HasRead}
use Rattle.sixel_scan.specs.Openings.{Advances, IsHeld, is_grown, is_introduced, is_longer}
use Rattle.sixel_scan.specs.Prefixes.{Resumes}
use Rattle.sixel_scan.specs.Scanning.{AreInside, IsInside}
use Rattle.sixel_scan.specs.Standing.{AdvancesFrom, Holds, IsOpenString, ReadsNextWith, StandsWith}
use Rattle.sixel_scan.specs.Strings.{EndsFirst, IsString, StringAt}
use Rattle.sixel_scan.proofs.AdvanceLemmas.{resumes_past_none}
use Rattle.sixel_scan.proofs.EndLemmas.{end_at_terminator, end_before, ends_past}
use Rattle.sixel_scan.proofs.StringLemmas.{resumes_after, resumes_more}

-- ---- a byte that comes

pub reads_next : {eight : Bool} {registers read opened : ℕ} {check : StringCheck} {stage : Stage} (byte : ℕ)
    {told : List StringAt} {bytes : List ℕ} → StandsWith eight registers read opened check stage told bytes
    → ReadsNextWith eight registers read opened check stage byte told (bytes ++ byte ∷ [])
reads_next {eight} byte {told} {bytes} at = record {
  before = at.before;
  held = at.held;
  bytes_are = ap (λ (t : List ℕ). t ++ byte ∷ []) at.bytes_are ∙ append_assoc at.before at.held (byte ∷ []);
  read_is = omega (arith, at.read_is, length-append bytes (byte ∷ []));
  resumes = resumes_more eight told bytes (length at.before) at.held (byte ∷ []) at.resumes;
  holds = at.holds;
}

-- where the bytes are split after a byte between strings
pub record Moved (eight : Bool) (told : List StringAt) (bytes before held : List ℕ) : Type 0 where
  pub bytes_are : bytes ≡ before ++ held
  pub resumes : Resumes eight told bytes (length before) held

moved : (eight : Bool) (told : List StringAt) (bytes before held passed kept : List ℕ) (byte : ℕ)
    → bytes ≡ before ++ (held ++ byte ∷ []) → held ++ byte ∷ [] ≡ passed ++ kept → (n : ℕ)
    → n ≡ length (before ++ passed) → Resumes eight told bytes n kept → Moved eight told bytes (before ++ passed) kept
moved eight told bytes before held passed kept byte are split n at r = record {
  bytes_are = are ∙ ap (λ (t : List ℕ). before ++ t) split ∙ sym (append_assoc before passed kept);
  resumes = subst (λ (m : ℕ). Resumes eight told bytes m kept) at r;
}

pub text_moves : {eight : Bool} (told : List StringAt) (bytes before : List ℕ) {held : List ℕ} {byte : ℕ}
    {next : Opening} → bytes ≡ before ++ (held ++ byte ∷ [])
    → Resumes eight told bytes (length before) (held ++ byte ∷ []) → (a : Advances eight next held byte)
    → Moved eight told bytes (before ++ a.passed) a.kept
text_moves {eight} told bytes before {held} {byte} are r a =
    moved eight told bytes before held a.passed a.kept byte are a.bytes_are (length before + length a.passed)
    (sym (length-append before a.passed))
    (resumes_past_none eight told bytes (length before) a.passed a.kept a.none
    (subst (Resumes eight told bytes (length before)) a.bytes_are r))

-- a longer beginning: nothing is passed
pub grown : {eight : Bool} {next : Opening} {held : List ℕ} {byte : ℕ} (a : Advances eight next held byte)
    → is_grown next ≡ true → a.kept ≡ held ++ byte ∷ []
grown a on = sym (a.bytes_are ∙ ap (λ (t : List ℕ). t ++ a.kept) (a.grows on).0)

pub grown_before : {eight : Bool} {next : Opening} (before : List ℕ) {held : List ℕ} {byte : ℕ}
    (a : Advances eight next held byte) → is_grown next ≡ true → before ++ a.passed ≡ before
grown_before before a on = ap (λ (t : List ℕ). before ++ t) (a.grows on).0 ∙ append-nil before

-- ---- strings

pub string_longer : {eight : Bool} {bytes : List ℕ} (run : List ℕ) → IsOpenString eight bytes → AreInside eight run
    → IsOpenString eight (bytes ++ run)
string_longer {eight} run s inside = record {
  opening = s.opening;
  body = s.body ++ run;
  opens = s.opens;
  inside = all-append (IsInside eight) s.body run s.inside inside;
  bytes_are = ap (λ (t : List ℕ). t ++ run) s.bytes_are ∙ append_assoc s.opening s.body run;
}

pub string_more : {eight : Bool} {bytes : List ℕ} {byte : ℕ} → IsOpenString eight bytes → IsInside eight byte
    → IsOpenString eight (bytes ++ byte ∷ [])
string_more {eight} {bytes} {byte} s inside = string_longer (byte ∷ []) s (inside, tt)

-- the string ends with these bytes
pub string_ends : {eight : Bool} {bytes last rest : List ℕ} → IsOpenString eight bytes → EndsFirst eight last rest
    → IsString eight (bytes ++ last) rest
string_ends {last} s ends = record {
  opening = s.opening;
  body = s.body ++ last;
  opens = s.opens;
  ends = ends_past s.body s.inside ends;
  bytes_are = ap (λ (t : List ℕ). t ++ last) s.bytes_are ∙ append_assoc s.opening s.body last;
}

pub string_ends_here : {eight : Bool} {bytes rest : List ℕ} → IsOpenString eight bytes → EndsFirst eight [] rest
    → IsString eight bytes rest
string_ends_here {eight} {bytes} {rest} s ends =
    subst (λ (t : List ℕ). IsString eight t rest) (append-nil bytes) (string_ends s ends)

-- ---- between strings

-- what is held
module _ (eight : Bool) (registers opened : ℕ) (check : StringCheck) where
  pub text_held : (opening : Opening) (offset : ℕ) (held : List ℕ)
      → Holds eight registers opened check (Text opening) offset held → IsHeld eight opening held
  text_held Nothing offset held h = h
  text_held Escape offset held h = h.0
  text_held Letter offset held h = h.0
  text_held Control offset held h = h.0
  text_held Introduced offset held h = h.0

  -- if something is held, its offset is known
  held_at : (opening : Opening) (offset : ℕ) (held : List ℕ) → 0 < length held
      → Holds eight registers opened check (Text opening) offset held → opened ≡ offset
  held_at Nothing offset held some h = absurd (omega (arith, some, ap length h))
  held_at Escape offset held some h = h.1
  held_at Letter offset held some h = h.1
  held_at Control offset held some h = h.1
  held_at Introduced offset held some h = h.1

  -- from a longer beginning on, the check has read it
  pub introduced_read : (opening : Opening) → is_introduced opening ≡ true → (opening ≡ Letter → ⊥)
      → (opening ≡ Control → ⊥) → (offset : ℕ) (held : List ℕ)
      → Holds eight registers opened check (Text opening) offset held → HasRead registers check held
  introduced_read Nothing on l k offset held h = absurd (let on : false ≡ true = on in cc)
  introduced_read Escape on l k offset held h = absurd (let on : false ≡ true = on in cc)
  introduced_read Letter on l k offset held h = absurd (l refl)
  introduced_read Control on l k offset held h = absurd (k refl)
  introduced_read Introduced on l k offset held h = h.2

  pub letter_held : (opening : Opening) → opening ≡ Letter → (offset : ℕ) (held : List ℕ)
      → Holds eight registers opened check (Text opening) offset held → held ≡ 27 ∷ 80 ∷ []
  letter_held opening e offset held h =
      (subst (λ (o : Opening). Holds eight registers opened check (Text o) offset held) e h).0

  pub control_held : (opening : Opening) → opening ≡ Control → (offset : ℕ) (held : List ℕ)
      → Holds eight registers opened check (Text opening) offset held → held ≡ 144 ∷ []
  control_held opening e offset held h =
      (subst (λ (o : Opening). Holds eight registers opened check (Text o) offset held) e h).0.1

-- a byte that comes
module _ {eight : Bool} {registers read opened : ℕ} {check : StringCheck} {opening : Opening} {byte : ℕ}
    {told : List StringAt} {bytes : List ℕ}
    (r : ReadsNextWith eight registers read opened check (Text opening) byte told bytes) where
  -- what is held then
  advance_of : {next : Opening} → AdvancesFrom eight opening next byte → Advances eight next r.held byte
  advance_of f = f r.held (text_held eight registers opened check opening (length r.before) r.held r.holds)

  -- the new parts, but for the check
  moves_to : {next : Opening} (a : Advances eight next r.held byte) (start : ℕ) (now : StringCheck)
      → Holds eight registers start now (Text next) (length (r.before ++ a.passed)) a.kept
      → StandsWith eight registers (read + 1) start now (Text next) told bytes
  moves_to a start now holds =
      let m = text_moves told bytes r.before r.bytes_are r.resumes a in record {
        before = r.before ++ a.passed;
        held = a.kept;
        bytes_are = m.bytes_are;
        read_is = r.read_is;
        resumes = m.resumes;
        holds = holds;
      }

  -- the one byte kept is the last
  last_at : {next : Opening} (a : Advances eight next r.held byte) → length a.kept ≡ 1
      → read ≡ length (r.before ++ a.passed)
  last_at a one =
      let are = (text_moves told bytes r.before r.bytes_are r.resumes a).bytes_are in
      omega (arith, ap length are, length-append (r.before ++ a.passed) a.kept, one, r.read_is)

  -- the offset stays, if what is held grows
  grown_at : {next : Opening} → is_grown next ≡ true → (a : Advances eight next r.held byte)
      → opened ≡ length (r.before ++ a.passed)
  grown_at on a =
      held_at eight registers opened check opening (length r.before) r.held (a.grows on).1 r.holds
      ∙ sym (ap length (grown_before r.before a on))

  pub to_introduced : (now : StringCheck) → AdvancesFrom eight opening Introduced byte
      → HasRead registers now (r.held ++ byte ∷ [])
      → StandsWith eight registers (read + 1) opened now (Text Introduced) told bytes
  to_introduced now f new =
      let a = advance_of f in
      moves_to a opened now (a.is_held, grown_at refl a, subst (HasRead registers now) (sym (grown a refl)) new)

  -- what is held next is short
  pub to_held : (next : Opening) → is_longer (Some next) ≡ false → (next ≡ Escape → ⊥) → (next ≡ Control → ⊥)
      → AdvancesFrom eight opening next byte
      → StandsWith eight registers (read + 1) opened check (Text next) told bytes
  to_held Nothing short e k f = let a = advance_of f in moves_to a opened check a.is_held
  to_held Escape short e k f = absurd (e refl)
  to_held Letter short e k f = let a = advance_of f in moves_to a opened check (a.is_held, grown_at refl a)
  to_held Control short e k f = absurd (k refl)
  to_held Introduced short e k f = absurd (let on : true ≡ false = short in cc)

  pub to_anew : (next : Opening) → (next ≡ Escape) ⊎ (next ≡ Control) → AdvancesFrom eight opening next byte
      → StandsWith eight registers (read + 1) read check (Text next) told bytes
  to_anew Nothing which f = elim which [ inl e ↦ cc | inr e ↦ cc ]
  to_anew Escape which f =
      let a = advance_of f in moves_to a read check (a.is_held, last_at a (ap length a.is_held))
  to_anew Letter which f = elim which [ inl e ↦ cc | inr e ↦ cc ]
  to_anew Control which f =
      let a = advance_of f in moves_to a read check (a.is_held, last_at a (ap length a.is_held.1))
  to_anew Introduced which f = elim which [ inl e ↦ cc | inr e ↦ cc ]

-- ---- in a string

-- bytes at which the string doesn't end
pub past_inside : {eight : Bool} {registers read opened : ℕ} {check : StringCheck} (now : StringCheck)
    {told : List StringAt} {bytes : List ℕ} (run : List ℕ)
    (at : StandsWith eight registers read opened check Inside told bytes) → AreInside eight run
    → HasRead registers now (at.held ++ run)
    → StandsWith eight registers (read + length run) opened now Inside told (bytes ++ run)
past_inside {eight} now {told} {bytes} run at inside new = record {
  before = at.before;
  held = at.held ++ run;
  bytes_are = ap (λ (t : List ℕ). t ++ run) at.bytes_are ∙ append_assoc at.before at.held run;
  read_is = omega (arith, at.read_is, length-append bytes run);
  resumes = resumes_more eight told bytes (length at.before) at.held run at.resumes;
  holds = (string_longer run at.holds.0 inside, at.holds.1, new);
}

-- after a string, with nothing held
to_reported : (eight : Bool) (registers read opened : ℕ) (now : StringCheck) (told : List StringAt)
    (bytes before string : List ℕ) → bytes ≡ before ++ string → read + 1 ≡ length bytes
    → Resumes eight told bytes (length before) string → ((rest : List ℕ) → IsString eight string rest)
    → StandsWith eight registers (read + 1) opened now (Text Nothing)
    (told ++ record { place = length before; bytes = string } ∷ []) bytes
to_reported eight registers read opened now told bytes before string are read_is r is = record {
  before = bytes;
  held = [];
  bytes_are = sym (append-nil bytes);
  read_is = read_is;
  resumes = subst
      (λ (n : ℕ). Resumes eight (told ++ record { place = length before; bytes = string } ∷ []) bytes n [])
      (sym (ap length are ∙ length-append before string))
      (resumes_after eight told bytes (length before) string [] is
      (subst (Resumes eight told bytes (length before)) (sym (append-nil string)) r));
  holds = refl;
}

module _ {eight : Bool} {registers read opened : ℕ} {check : StringCheck} {byte : ℕ} {told : List StringAt}
    {bytes : List ℕ} (r : ReadsNextWith eight registers read opened check Inside byte told bytes) where
  pub to_inside : (now : StringCheck) → IsInside eight byte → HasRead registers now (r.held ++ byte ∷ [])
      → StandsWith eight registers (read + 1) opened now Inside told bytes
  to_inside now inside new = record {
    before = r.before;
    held = r.held ++ byte ∷ [];
    bytes_are = r.bytes_are;
    read_is = r.read_is;
    resumes = r.resumes;
    holds = (string_more r.holds.0 inside, r.holds.1, new);
  }

  pub to_escaped : byte ≡ 27 → StandsWith eight registers (read + 1) opened check Escaped told bytes
  to_escaped e = record {
    before = r.before;
    held = r.held ++ byte ∷ [];
    bytes_are = r.bytes_are;
    read_is = r.read_is;
    resumes = r.resumes;
    holds = (r.held, ap (λ (b : ℕ). r.held ++ b ∷ []) e, r.holds.0, r.holds.1, r.holds.2);
  }

  -- the string is reported
  pub to_ended : (now : StringCheck) → ((rest : List ℕ) → EndsFirst eight (byte ∷ []) rest)
      → StandsWith eight registers (read + 1) opened now (Text Nothing)
      (told ++ record { place = length r.before; bytes = r.held ++ byte ∷ [] } ∷ []) bytes
  to_ended now ends =
      to_reported eight registers read opened now told bytes r.before (r.held ++ byte ∷ []) r.bytes_are r.read_is
      r.resumes (λ rest. string_ends r.holds.0 (ends rest))

pub two_more : (string held : List ℕ) (byte : ℕ) → held ≡ string ++ 27 ∷ []
    → held ++ byte ∷ [] ≡ string ++ 27 ∷ byte ∷ []
two_more string held byte e = ap (λ (t : List ℕ). t ++ byte ∷ []) e ∙ append_assoc string (27 ∷ []) (byte ∷ [])

module _ {eight : Bool} {registers read opened : ℕ} {check : StringCheck} {byte : ℕ} {told : List StringAt}
    {bytes : List ℕ} (r : ReadsNextWith eight registers read opened check Escaped byte told bytes) where
  both_more : r.held ++ byte ∷ [] ≡ r.holds.0 ++ 27 ∷ byte ∷ []
  both_more = two_more r.holds.0 r.held byte r.holds.1

  -- the string ends with ESC \
  pub to_terminated : (now : StringCheck) → byte ≡ 92
      → StandsWith eight registers (read + 1) opened now (Text Nothing)
      (told ++ record { place = length r.before; bytes = r.holds.0 ++ 27 ∷ byte ∷ [] } ∷ []) bytes
  to_terminated now is =
      to_reported eight registers read opened now told bytes r.before (r.holds.0 ++ 27 ∷ byte ∷ [])
      (r.bytes_are ∙ ap (λ (t : List ℕ). r.before ++ t) both_more) r.read_is
      (subst (Resumes eight told bytes (length r.before)) both_more r.resumes)
      (λ rest.
      string_ends r.holds.2
      (subst (λ (b : ℕ). EndsFirst eight (27 ∷ b ∷ []) rest) (sym is) (end_at_terminator eight rest)))

  -- the string ended before the ESC, which may begin an opening
  pub to_next_escape : (now : StringCheck) → byte ≢ 92
      → ReadsNextWith eight registers read (read - 1) now (Text Escape) byte
      (told ++ record { place = length r.before; bytes = r.holds.0 } ∷ []) bytes
  to_next_escape now ne =
      let string = r.holds.0 in
      let whole : bytes ≡ (r.before ++ string) ++ 27 ∷ byte ∷ [] =
      r.bytes_are ∙ ap (λ (t : List ℕ). r.before ++ t) both_more
      ∙ sym (append_assoc r.before string (27 ∷ byte ∷ [])) in
      let told_now : List StringAt = told ++ record { place = length r.before; bytes = string } ∷ [] in
      record {
        before = r.before ++ string;
        held = 27 ∷ [];
        bytes_are = whole;
        read_is = r.read_is;
        resumes = subst (λ (n : ℕ). Resumes eight told_now bytes n (27 ∷ byte ∷ []))
            (sym (length-append r.before string))
            (resumes_after eight told bytes (length r.before) string (27 ∷ byte ∷ [])
            (λ rest. string_ends_here r.holds.2 (end_before eight byte rest ne))
            (subst (Resumes eight told bytes (length r.before)) both_more r.resumes));
        holds = (
          refl,
          omega (arith, r.read_is, ap length whole, length-append (r.before ++ string) (27 ∷ byte ∷ [])),
        );
      }
