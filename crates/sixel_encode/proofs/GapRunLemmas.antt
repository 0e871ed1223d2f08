-- Runs, by where gaps end.
use Rattle.std.proofs.Common.{◌≡◌, ◌≢◌, ◌==◌, ℕ, zero, suc, ◌+◌, ◌-◌, ◌<◌, ◌≤◌, Bool, true, false, not, List, length}
use Rattle.std.proofs.Common.{get_or, inl, inr, sym, ap, ◌∙◌, arith}
use Rattle.std.specs.Prelude.{nat_lt, slice_index, if◌then◌else◌}
use Rattle.std.proofs.lemmas.Bool.{and_from, and_parts, cases_eq, cases_lt, eq-eqb, eqb-true, le-ltb, lt-ltb}
use Rattle.std.proofs.lemmas.Bool.{eqb-false, not-false, not-true}
use Rattle.sixel_plane.specs.Lanes.{IsFirstAt, NonePasses}
use Rattle.sixel_encode.specs.Columns.{IsRepeatAt, IsRun, are_four}
use Rattle.sixel_encode.specs.Gaps.{AreGapEnds, IsApart, IsGapEnd, IsNext}

-- ---- runs

-- the items behind a column that no run passes
pub none_passed : {bytes ends : List ℕ} {count to : ℕ} → AreGapEnds to bytes ends count → IsNext 0 ends count 0
none_passed are = record {
  passed = λ i lt less. absurd (omega (arith, lt));
  ahead = λ i le lt. omega (arith, (are.items.each i lt).after);
}

-- no gap ends between where a search for a repeat began and the repeat
none_between : {from start x : ℕ} {bytes : List ℕ} → IsRepeatAt from bytes start → IsApart from bytes → IsGapEnd bytes x
    → from < x → x ≤ start → ⊥
none_between {from} {x} {bytes} repeat apart e after before = elim (cases_lt (x - 4) from) [
  | inl less ↦
      apart (omega (arith, less)) (omega (arith, e.within, after))
      (e.blank (from - 1) (omega (arith, less)) (omega (arith, after)) ∙ sym (e.blank from (omega (arith, less)) after))
  | inr past ↦
      let k = x - 4 in
      let a = e.blank k (omega (arith, e.after)) (omega (arith, e.after)) in
      let b = e.blank (k + 1) (omega (arith, e.after)) (omega (arith, e.after)) in
      let c = e.blank (k + 2) (omega (arith, e.after)) (omega (arith, e.after)) in
      let d = e.blank (k + 3) (omega (arith, e.after)) (omega (arith, e.after)) in
      let none : are_four bytes k ≡ false =
      repeat.before k (omega (arith, past)) (omega (arith, e.after, before)) (omega (arith, e.after, e.within)) in
      let four : are_four bytes k ≡ true =
      and_from _ _ (eq-eqb _ _ (a ∙ sym b)) (and_from _ _ (eq-eqb _ _ (a ∙ sym c)) (eq-eqb _ _ (a ∙ sym d))) in
      let wrong : true ≡ false = sym four ∙ none in
      cc wrong
]

-- the columns of a repeat are equal
repeated : {from start : ℕ} (k : ℕ) {bytes : List ℕ} → IsRepeatAt from bytes start → start ≤ k → k < start + 4
    → slice_index bytes k ≡ slice_index bytes start
repeated {start} k {bytes} repeat low high =
    let parts = and_parts _ _ repeat.four in
    let more = and_parts _ _ parts.1 in
    let at : (n : ℕ) → k ≡ n → slice_index bytes k ≡ slice_index bytes n =
    λ n e. ap (λ (m : ℕ). slice_index bytes m) e in
    elim (cases_eq k start) [
      | inl e ↦ at start e
      | inr o₁ ↦ elim (cases_eq k (start + 1)) [
        | inl e ↦ at (start + 1) e ∙ sym (eqb-true _ _ parts.0)
        | inr o₂ ↦ elim (cases_eq k (start + 2)) [
          | inl e ↦ at (start + 2) e ∙ sym (eqb-true _ _ more.0)
          | inr o₃ ↦ at (start + 3) (omega (arith, o₁, o₂, o₃, low, high)) ∙ sym (eqb-true _ _ more.1)
        ]
      ]
    ]

-- the columns from a blank repeat on, up to the next gap end
blank_up_to : (n : ℕ) {from start : ℕ} (end : ℕ) {bytes : List ℕ} → IsRepeatAt from bytes start
    → slice_index bytes start ≡ 63 → end ≤ length bytes → ((x : ℕ) → start < x → x < end → IsGapEnd bytes x → ⊥)
    → (k : ℕ) → start ≤ k → k < end → k < start + n → slice_index bytes k ≡ 63
blank_up_to zero end repeat blank within none k low high lt = absurd (omega (arith, low, lt))
blank_up_to (suc n) {start} end {bytes} repeat blank within none k low high lt = elim (cases_lt k (start + n)) [
  | inl less ↦ blank_up_to n end repeat blank within none k low high less
  | inr last ↦ elim (cases_lt k (start + 4)) [
    | inl first ↦ repeated k repeat low first ∙ blank
    | inr past ↦ elim (cases_eq (slice_index bytes k) 63) [
      | inl is ↦ is
      | inr ink ↦
          absurd (none k (omega (arith, past)) high (record {
            after = omega (arith, past);
            within = omega (arith, high, within);
            ink = ink;
            blank = λ j from₄ before. blank_up_to n end repeat blank within none j (omega (arith, past, from₄))
                (omega (arith, before, high)) (omega (arith, before, last, lt));
          }))
    ]
  ]
]

-- the next gap end, if there is one, and otherwise the end of all columns
abbrev pub end_at : ℕ → List ℕ → ℕ → ℕ → ℕ
end_at next ends count long = if nat_lt next count then get_or ends next 0 else long

-- the end of a blank run
record IsBlankEnd (start : ℕ) (bytes ends : List ℕ) (count next end : ℕ) : Type 0 where
  some : start < end
  within : end ≤ length bytes
  none : (x : ℕ) → start < x → x < end → IsGapEnd bytes x → ⊥
  ink : end < length bytes → slice_index bytes end ≢ 63
  passed : (i : ℕ) → i < next + 1 → i < count → get_or ends i 0 ≤ end
  ahead : (i : ℕ) → next + 1 ≤ i → i < count → end < get_or ends i 0

next_end : {from start next : ℕ} {bytes ends : List ℕ} {count : ℕ} → IsRepeatAt from bytes start → IsApart from bytes
    → AreGapEnds (length bytes) bytes ends count → IsNext from ends count next → next < count
    → IsBlankEnd start bytes ends count next (get_or ends next 0)
next_end {from} {start} {next} {ends} repeat apart are is lt =
    let e = are.items.each next lt in
    let behind : from < get_or ends next 0 = is.ahead next (omega arith) lt in
    record {
      some = elim (cases_lt start (get_or ends next 0)) [
        | inl less ↦ less
        | inr past ↦ absurd (none_between repeat apart e behind (omega (arith, past)))
      ];
      within = omega (arith, e.within);
      none = λ x after before other.
          let w = are.all x other.within other in
          elim (cases_lt w.0 next) [
            | inl less ↦ absurd (omega (arith, is.passed w.0 less w.1, w.2, after, repeat.after))
            | inr past ↦ elim (cases_eq w.0 next) [
              | inl same ↦ absurd (omega (arith, ap (λ (k : ℕ). get_or ends k 0) same, w.2, before))
              | inr differ ↦
                  absurd (omega (arith, are.items.rising next w.0 (omega (arith, past, differ)) w.1, w.2, before))
            ]
          ];
      ink = λ _. e.ink;
      passed = λ i low less. elim (cases_eq i next) [
        | inl same ↦ omega (arith, ap (λ (k : ℕ). get_or ends k 0) same)
        | inr differ ↦ omega (arith, are.items.rising i next (omega (arith, low, differ)) lt)
      ];
      ahead = λ i low less. are.items.rising next i (omega (arith, low)) less;
    }

last_end : {from start next : ℕ} {bytes ends : List ℕ} {count : ℕ} → IsRepeatAt from bytes start
    → AreGapEnds (length bytes) bytes ends count → IsNext from ends count next → count ≤ next
    → IsBlankEnd start bytes ends count next (length bytes)
last_end repeat are is le = record {
  some = omega (arith, repeat.within);
  within = omega arith;
  none = λ x after before other.
      let w = are.all x other.within other in
      absurd (omega (arith, is.passed w.0 (omega (arith, w.1, le)) w.1, w.2, after, repeat.after));
  ink = λ lt. absurd (omega (arith, lt));
  passed = λ i low less. omega (arith, are.before i less);
  ahead = λ i low less. absurd (omega (arith, low, less, le));
}

blank_end_is : {from start next : ℕ} (end : ℕ) {bytes ends : List ℕ} {count : ℕ} → IsRepeatAt from bytes start
    → IsApart from bytes → AreGapEnds (length bytes) bytes ends count → IsNext from ends count next
    → end ≡ end_at next ends count (length bytes) → IsBlankEnd start bytes ends count next end
blank_end_is {next} end {bytes} {ends} {count} repeat apart are is e = elim (cases_lt next count) [
  | inl lt ↦
      let its : end ≡ get_or ends next 0 =
      e ∙ ap (λ (t : Bool). if t then get_or ends next 0 else length bytes) (lt-ltb next count lt) in
      rw its (next_end repeat apart are is lt)
  | inr past ↦
      let its : end ≡ length bytes =
      e ∙ ap (λ (t : Bool). if t then get_or ends next 0 else length bytes) (le-ltb next count (omega (arith, past))) in
      rw its (last_end repeat are is (omega (arith, past)))
]

-- a blank run, and the gap ends behind it
pub blank_run : {from start next : ℕ} (end : ℕ) {bytes ends : List ℕ} {count : ℕ} → IsRepeatAt from bytes start
    → IsApart from bytes → AreGapEnds (length bytes) bytes ends count → IsNext from ends count next
    → slice_index bytes start ≡ 63 → end ≡ end_at next ends count (length bytes)
    → IsRun start end bytes × IsNext end ends count (next + 1)
blank_run {start} end {ends} repeat apart are is blank e =
    let its = blank_end_is end repeat apart are is e in (
      record {
        some = its.some;
        within = its.within;
        equal = λ k low high. blank_up_to (end - start) end repeat blank its.within its.none k low high
            (omega (arith, its.some, high)) ∙ sym blank;
        ends = λ lt same. its.ink lt (same ∙ blank);
      },
      record { passed = its.passed; ahead = its.ahead },
    )

-- behind a run of columns with ink are the same gap ends
pub ink_run : {from start next end : ℕ} {bytes ends : List ℕ} {count : ℕ} → IsRepeatAt from bytes start
    → IsApart from bytes → AreGapEnds (length bytes) bytes ends count → IsNext from ends count next
    → slice_index bytes start ≢ 63 → IsRun start end bytes → IsNext end ends count next
ink_run {from} {start} {end} {ends} repeat apart are is ink run = record {
  passed = λ i low less. omega (arith, is.passed i low less, repeat.after, run.some);
  ahead = λ i low less.
      let x = get_or ends i 0 in
      let e = are.items.each i less in
      let behind : from < x = is.ahead i low less in
      elim (cases_lt end x) [
        | inl lt ↦ lt
        | inr past ↦ elim (cases_lt start x) [
          | inl after ↦
              absurd (ink (sym (run.equal (x - 1) (omega (arith, after)) (omega (arith, past, after)))
              ∙ e.blank (x - 1) (omega (arith, after)) (omega (arith, after))))
          | inr before ↦ absurd (none_between repeat apart e behind (omega (arith, before)))
        ]
      ];
}

-- a run can begin where one ends
pub apart_behind : {start end : ℕ} {bytes : List ℕ} → IsRun start end bytes → IsApart end bytes
apart_behind {end} run some lt same =
    run.ends lt (sym same ∙ run.equal (end - 1) (omega (arith, run.some)) (omega (arith, run.some)))

-- a run that ends at the first other column
pub other_run : (start : ℕ) {end : ℕ} {bytes : List ℕ}
    → IsFirstAt (λ b. not (b == slice_index bytes start)) (start + 1) (length bytes) bytes end → IsRun start end bytes
other_run start {bytes} found = record {
  some = omega (arith, found.after);
  within = omega (arith, found.below);
  equal = λ k low high. elim (cases_eq k start) [
    | inl same ↦ ap (λ (n : ℕ). slice_index bytes n) same
    | inr differ ↦ eqb-true _ _ (not-false _ (found.before k (omega (arith, low, differ)) high))
  ];
  ends = λ lt. eqb-false _ _ (not-true _ found.passes);
}

-- a run up to the end of all columns
pub last_run : (start : ℕ) (bytes : List ℕ) → start < length bytes
    → NonePasses (λ b. not (b == slice_index bytes start)) (start + 1) (length bytes) bytes
    → IsRun start (length bytes) bytes
last_run start bytes lt none = record {
  some = lt;
  within = omega arith;
  equal = λ k low high. elim (cases_eq k start) [
    | inl same ↦ ap (λ (n : ℕ). slice_index bytes n) same
    | inr differ ↦ eqb-true _ _ (not-false _ (none k (omega (arith, low, differ)) high))
  ];
  ends = λ less. absurd (omega (arith, less));
}
