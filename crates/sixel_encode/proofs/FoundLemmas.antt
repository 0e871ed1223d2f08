-- The sixels of a register, group by group.
use Rattle.std.proofs.Common.{◌≡◌, ℕ, ◌+◌, ◌-◌, ◌*◌, ◌/◌, ◌<◌, ◌≤◌, List, get_or, length, min, replicate}
use Rattle.std.proofs.Common.{inl, inr, sym, ap, ◌∙◌, subst, arith}
use Rattle.std.specs.Int.{bit_at}
use Rattle.std.proofs.Math.ListN.{get_or-append}
use Rattle.std.proofs.Math.Seq.{get_or-append_right}
use Rattle.std.proofs.lemmas.Bool.{cases_eq, cases_lt}
use Rattle.std.proofs.lemmas.List.{ext_get_or, get_or-map, length-append, length-map}
use Rattle.std.proofs.lemmas.List.FromFn.{get_or-map-range_with_len, length-range_with_len}
use Rattle.std.proofs.lemmas.Nat.Bits.{bit_at-lt}
use Rattle.std.proofs.lemmas.Simd.{get_or-put_chunk_above, get_or-put_chunk_at, get_or-put_chunk_below}
use Rattle.std.proofs.lemmas.Simd.{get_or-replicate, length-put_chunk, length-replicate}
use lib.Lanes.{put_chunk}
use Rattle.sixel_model.specs.Pictures.{PictureValue}
use Rattle.sixel_encode.specs.Canon.{all_columns, below, column_bits}
use Rattle.sixel_encode.specs.Columns.{AreFilled, AreFound, AreRowsOf, AreSixels, HasBandGroups, padded, row_bits}
use Rattle.sixel_encode.specs.Columns.{sixels_of}
use Rattle.sixel_encode.proofs.BitLemmas.{column_most}
use Rattle.sixel_encode.proofs.RowsLemmas.{column_blank, row_bits_are}
use Rattle.sixel_encode.proofs.StretchLemmas.{sixels_are}

-- a group in the picture
pub filled_group : (at : ℕ) (rows : List ℕ) (width register : ℕ) (old lanes : List ℕ) → length lanes ≡ 32
    → at + 32 ≤ width → width ≤ length old
    → ((j : ℕ) → j < 32 → get_or lanes j 0 ≡ 63 + row_bits rows width register (at + j))
    → AreFilled at (min (at + 32) width) rows width register old (put_chunk at old lanes)
filled_group at rows width register old lanes long inside room each = record {
  long = length-put_chunk at old lanes;
  inside = λ x low high.
      let back : at + (x - at) ≡ x = omega arith in
      let within : x - at < 32 = omega arith in
      ap (λ (k : ℕ). get_or (put_chunk at old lanes) k 0) (sym back)
      ∙ get_or-put_chunk_at at old lanes (x - at) 0 (omega arith) (omega arith)
      ∙ each (x - at) within
      ∙ ap (λ (k : ℕ). 63 + row_bits rows width register k) back;
  before = λ x less. get_or-put_chunk_below at old lanes x 0 less;
  after = λ x high lt. get_or-put_chunk_above at old lanes x 0 (omega arith);
}

blank_at : (long sixel x : ℕ) → sixel ≡ 63 → x < length (replicate {A = ℕ} long sixel)
    → get_or (replicate {A = ℕ} long sixel) x 0 ≡ 63
blank_at long sixel x is lt =
    let inside : x < long = omega (arith, length-replicate {A = ℕ} long sixel) in
    get_or-replicate long x sixel 0 inside ∙ is

-- at first all columns are blank
pub found_none : (to : ℕ) (rows : List ℕ) (width register groups long sixel : ℕ) → sixel ≡ 63
    → ((i : ℕ) → 0 ≤ i → i < to → bit_at groups i ≡ 0)
    → AreFound (to * 32) rows width register groups (replicate long sixel)
found_none to rows width register groups long sixel is unset = record {
  inked = λ x lt in_picture set.
      let none : bit_at groups (x / 32) ≡ 0 = unset (x / 32) (omega arith) (omega arith) in
      absurd (omega arith);
  blank = λ x lt none. blank_at long sixel x is lt;
  behind = λ x lt past. blank_at long sixel x is lt;
  ahead = λ x lt low. blank_at long sixel x is lt;
}

-- ---- the sixels of the picture

get_padded : (columns : List ℕ) (long x : ℕ) → length columns ≤ x → x < long → get_or (padded long columns) x 0 ≡ 0
get_padded columns long x past lt =
    get_or-append_right columns (replicate (long - length columns) 0) x 0 past
    ∙ get_or-replicate (long - length columns) (x - length columns) 0 0 (omega arith)

length-padded : (columns : List ℕ) (long : ℕ) → length columns ≤ long → length (padded long columns) ≡ long
length-padded columns long room =
    omega (
      arith,
      length-append columns (replicate (long - length columns) 0),
      length-replicate {A = ℕ} (long - length columns) 0,
    )

length-all : (p : PictureValue) (band register : ℕ) → length (all_columns p band register) ≡ p.width
length-all p band register = length-map (below p.width) (column_bits p band register) ∙ length-range_with_len 0 p.width

get_all : (p : PictureValue) (band register x : ℕ) → x < p.width
    → get_or (all_columns p band register) x 0 ≡ column_bits p band register x
get_all p band register x lt = get_or-map-range_with_len (column_bits p band register) 0 p.width x x 0 lt (omega arith)

pub found_is : {p : PictureValue} {band register groups : ℕ} {rows sixels : List ℕ} → AreRowsOf p band rows p.width
    → HasBandGroups p band register groups → p.width ≤ length sixels
    → AreFound p.width rows p.width register groups sixels
    → sixels ≡ sixels_of (padded (length sixels) (all_columns p band register))
found_is {p} {band} {register} {groups} {sixels} are marked room found =
    let columns = all_columns p band register in
    let wide : length columns ≡ p.width = length-all p band register in
    let long : length (padded (length sixels) columns) ≡ length sixels =
    length-padded columns (length sixels) (omega arith) in
    let size : length (sixels_of (padded (length sixels) columns)) ≡ length sixels =
    length-map (padded (length sixels) columns) (λ bits. 63 + bits) ∙ long in
    ext_get_or 0 sixels (sixels_of (padded (length sixels) columns)) (sym size)
    (λ x lt.
    let within : x < length (padded (length sixels) columns) = omega arith in
    let spelled : get_or (sixels_of (padded (length sixels) columns)) x 0
    ≡ 63 + get_or (padded (length sixels) columns) x 0 =
    get_or-map (λ bits. 63 + bits) (padded (length sixels) columns) x 0 0 within in
    elim (cases_lt x p.width) [
      | inr past ↦
          found.behind x lt past
          ∙ sym (spelled ∙ ap (λ (n : ℕ). 63 + n) (get_padded columns (length sixels) x (omega arith) lt))
      | inl inside ↦
          let bits : get_or (padded (length sixels) columns) x 0 ≡ column_bits p band register x =
          get_or-append columns (replicate (length sixels - length columns) 0) 0 x (omega arith)
          ∙ get_all p band register x inside in
          elim (cases_eq (bit_at groups (x / 32)) 1) [
            | inl set ↦
                found.inked x inside inside set ∙ ap (λ (n : ℕ). 63 + n) (row_bits_are register x are inside)
                ∙ sym (spelled ∙ ap (λ (n : ℕ). 63 + n) bits)
            | inr unset ↦
                let none : bit_at groups (x / 32) ≡ 0 = omega (arith, bit_at-lt groups (x / 32)) in
                found.blank x lt none
                ∙ sym (spelled
                ∙ ap (λ (n : ℕ). 63 + n) (bits ∙ column_blank p band register groups x marked inside none))
          ]
    ])

-- each column has at most six bits
padded_most : (p : PictureValue) (band register long x : ℕ) → x < length (padded long (all_columns p band register))
    → get_or (padded long (all_columns p band register)) x 0 ≤ 63
padded_most p band register long x lt =
    let columns = all_columns p band register in
    let wide : length columns ≡ p.width = length-all p band register in
    elim (cases_lt x p.width) [
      | inl inside ↦
          rw (
            get_or-append columns (replicate (long - length columns) 0) 0 x (omega arith),
            get_all p band register x inside,
          ) (column_most p band register x)
      | inr past ↦
          let room : x < long =
          omega (
            arith,
            length-append columns (replicate (long - length columns) 0),
            length-replicate {A = ℕ} (long - length columns) 0,
          ) in
          rw (get_padded columns long x (omega arith) room) (omega arith)
    ]

pub are_sixels : (p : PictureValue) (band register long : ℕ) (sixels : List ℕ)
    → sixels ≡ sixels_of (padded long (all_columns p band register)) → AreSixels sixels
are_sixels p band register long sixels found =
    subst AreSixels (sym found)
    (sixels_are (padded long (all_columns p band register)) (padded_most p band register long))

-- the same, in a buffer of that length
pub found_in : {p : PictureValue} {band register groups width : ℕ} {rows : List ℕ} (old : List ℕ) {new : List ℕ}
    → AreRowsOf p band rows p.width → HasBandGroups p band register groups → width ≡ p.width → width ≤ length old
    → length new ≡ length old → AreFound width rows width register groups new
    → new ≡ sixels_of (padded (length old) (all_columns p band register))
found_in {p} {band} {register} old are marked wide room long found =
    found_is are marked (omega arith) (rw wide at found)
    ∙ ap (λ (n : ℕ). sixels_of (padded n (all_columns p band register))) long
