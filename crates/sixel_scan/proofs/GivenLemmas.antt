-- The strings of a stream of which only the first bytes are known.
use Rattle.std.proofs.Common.{◌≡◌, ◌∙◌, ℕ, ◌<◌, inl, inr, Bool, List, [], ◌∷◌, ◌++◌, length}
use Rattle.std.proofs.Common.{sym, ap, subst, append_assoc, arith}
use Rattle.std.proofs.lemmas.List.{append-nil, append_cancel_left, length-append}
use Rattle.sixel_scan.specs.declared.scanner.Scanner.{Scanner}
use Rattle.sixel_scan.specs.declared.scanner.Stage.{Stage}
use Rattle.sixel_scan.specs.declared.scanner.Stage.TheVariants.{Text, Inside, Escaped}
use Rattle.sixel_scan.specs.declared.string_check.StringCheck.{StringCheck}
use Rattle.sixel_scan.specs.Prefixes.{AreEnded, AreGiven, LeavesOpen, Resumes}
use Rattle.sixel_scan.specs.Scanning.{IsInside}
use Rattle.sixel_scan.specs.Standing.{IsOpenString, Stands, StandsWith}
use Rattle.sixel_scan.specs.Strings.{AreStrings, AreStringsFrom, IsString, StringAt}
use Rattle.sixel_scan.proofs.AdvanceLemmas.{held_in}
use Rattle.sixel_scan.proofs.EndLemmas.{end_at_last_escape, end_at_terminator, end_of_stream}
use Rattle.sixel_scan.proofs.ScanLemmas.{string_ends, string_ends_here, string_more, text_held}
use Rattle.sixel_scan.proofs.StringLemmas.{begin_with, none_in_nothing, one_list, resumes_to_end, strings_from}

-- the strings told are ended
pub ended_of : (eight : Bool) (told : List StringAt) (bytes : List ℕ) (offset : ℕ) (held : List ℕ)
    → Resumes eight told bytes offset held → AreEnded eight told bytes
ended_of eight told bytes offset held r =
    λ more. let s = strings_from eight offset (held ++ more) in (s.0, r s.0 more s.1)

-- a string at the end of the bytes is the only one of them
one_at_end : {eight : Bool} (offset : ℕ) {string : List ℕ} → IsString eight string []
    → AreStringsFrom eight offset (record { place = offset; bytes = string } ∷ []) string
one_at_end {eight} offset {string} is =
    subst (AreStringsFrom eight offset (record { place = offset; bytes = string } ∷ [])) (append-nil string)
    (begin_with offset [] is (none_in_nothing eight))

same_head : (s t : StringAt) (xs ys : List StringAt) → s ∷ xs ≡ t ∷ ys → s ≡ t
same_head s t xs ys e = cc

-- with more bytes, the string that is held would be longer
not_both : (eight : Bool) (told found : List StringAt) (bytes : List ℕ) (offset : ℕ) (held more : List ℕ)
    → 0 < length more
    → AreStrings eight ((told ++ record { place = offset; bytes = held } ∷ []) ++ found) (bytes ++ more)
    → AreStrings eight (told ++ record { place = offset; bytes = held ++ more } ∷ []) (bytes ++ more) → ⊥
not_both eight told found bytes offset held more some p q =
    let short : StringAt = record { place = offset; bytes = held } in
    let long : StringAt = record { place = offset; bytes = held ++ more } in
    let same : (told ++ short ∷ []) ++ found ≡ told ++ long ∷ [] =
    one_list eight ((told ++ short ∷ []) ++ found) (told ++ long ∷ []) (bytes ++ more) p q in
    let tails : short ∷ found ≡ long ∷ [] =
    append_cancel_left told (short ∷ found) (long ∷ []) (sym (append_assoc told (short ∷ []) found) ∙ same) in
    let bytes_are : held ≡ held ++ more =
    ap (λ (s : StringAt). s.bytes) (same_head short long found [] tails) in
    absurd (omega (arith, ap length bytes_are, length-append held more, some))

-- a string is held that ends with the bytes, and would be longer with more
pub left_open : {eight : Bool} (told : List StringAt) (bytes : List ℕ) (offset : ℕ) {held : List ℕ} (more : List ℕ)
    → Resumes eight told bytes offset held → IsString eight held [] → IsString eight (held ++ more) [] → 0 < length more
    → LeavesOpen eight told bytes
left_open {eight} told bytes offset {held} more r is longer some = record {
  open_string = record { place = offset; bytes = held };
  strings = resumes_to_end eight told (record { place = offset; bytes = held } ∷ []) bytes offset held r
      (one_at_end offset is);
  cut = λ ended.
      let others = ended more in
      not_both eight told others.0 bytes offset held more some others.1
      (r (record { place = offset; bytes = held ++ more } ∷ []) more (one_at_end offset longer));
}

-- `?` ends no string
data_inside : (eight : Bool) → IsInside eight 63
data_inside eight = record {
  no_escape = λ e. absurd (omega (arith, e));
  no_cancel = λ e. absurd (omega (arith, e));
  no_substitute = λ e. absurd (omega (arith, e));
  no_terminator = λ on e. absurd (omega (arith, e));
}

open_ends : {eight : Bool} {bytes : List ℕ} → IsOpenString eight bytes → IsString eight bytes []
open_ends {eight} s = string_ends_here s (end_of_stream eight)

pub given_with : {eight : Bool} {registers read opened : ℕ} {check : StringCheck} (stage : Stage) {told : List StringAt}
    {bytes : List ℕ} → StandsWith eight registers read opened check stage told bytes → AreGiven eight told bytes
given_with {eight} {registers} {opened} {check} (Text opening) {told} {bytes} at = record {
  ended = ended_of eight told bytes (length at.before) at.held at.resumes;
  all = inl (subst (λ (t : List StringAt). AreStrings eight t bytes) (append-nil told)
      (resumes_to_end eight told [] bytes (length at.before) at.held at.resumes
      (held_in eight opening at.held
      (text_held eight registers opened check opening (length at.before) at.held at.holds))));
}
given_with {eight} Inside {told} {bytes} at = record {
  ended = ended_of eight told bytes (length at.before) at.held at.resumes;
  all = inr (left_open told bytes (length at.before) (63 ∷ []) at.resumes (open_ends at.holds.0)
      (open_ends (string_more at.holds.0 (data_inside eight))) (omega arith));
}
given_with {eight} Escaped {told} {bytes} at = record {
  ended = ended_of eight told bytes (length at.before) at.held at.resumes;
  all = inr (left_open told bytes (length at.before) (92 ∷ []) at.resumes
      (subst (λ (t : List ℕ). IsString eight t []) (sym at.holds.1) (string_ends at.holds.2 (end_at_last_escape eight)))
      (subst (λ (t : List ℕ). IsString eight (t ++ 92 ∷ []) []) (sym at.holds.1)
      (subst (λ (t : List ℕ). IsString eight t []) (sym (append_assoc at.holds.0 (27 ∷ []) (92 ∷ [])))
      (string_ends at.holds.2 (end_at_terminator eight [])))) (omega arith));
}

pub given : (s : Scanner) (told : List StringAt) (bytes : List ℕ) → Stands s told bytes → AreGiven s.eight told bytes
given s told bytes at = given_with s.stage at
