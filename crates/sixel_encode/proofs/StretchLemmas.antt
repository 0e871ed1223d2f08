-- The text of columns, in steps: single sixels, then the repeat after them.
use Rattle.std.proofs.Common.{◌≡◌, ◌≢◌, ◌==◌, ℕ, zero, suc, ◌+◌, ◌-◌, ◌<◌, ◌≤◌, true, false, ◌&&◌, List, [], ◌∷◌}
use Rattle.std.proofs.Common.{◌++◌, length, get_or, take, drop, replicate, not, inl, inr, refl, sym, ap, ap₂, ◌∙◌}
use Rattle.std.proofs.Common.{subst, arith, append_assoc, drop-cons}
use Rattle.std.proofs.lemmas.Bool.{and_from, and_parts, cases_eq, cases_lt, eq-eqb, eqb-true, ne_eqb, not_from_false}
use Rattle.std.proofs.lemmas.Bool.{or_left, or_right}
use Rattle.std.proofs.lemmas.List.{append-nil, drop-drop, drop-map, drop_all, get_or-map, length-map, take-append-drop}
use Rattle.std.proofs.lemmas.List.{take-map}
use Rattle.std.specs.Prelude.{flat_map}
use Rattle.sixel_grammar.specs.declared.command.Command.TheVariants.{Select}
use Rattle.sixel_model.specs.Pictures.{PictureValue}
use Rattle.sixel_encode.specs.Canon.{all_columns, band_columns, has_bits, register_commands, run_commands, runs}
use Rattle.sixel_encode.specs.Canon.{without_blanks}
use Rattle.sixel_encode.specs.Columns.{AreSixels, IsInkEnd, IsRepeatAt, IsRun, NoFour, are_four, bits_of_sixels, part}
use Rattle.sixel_encode.specs.Columns.{padded, sixel_commands, sixels_of}
use Rattle.sixel_encode.proofs.RunLemmas.{without_padding}
use Rattle.sixel_encode.proofs.TextLemmas.{columns-before, columns-blank, columns-end, columns_text, replicate-then}
use Rattle.sixel_encode.proofs.TextLemmas.{run-short, run_text}

-- ---- one single sixel

-- no repeat begins at column k, and it or a later column has a set bit
abbrev pub IsAlone : ℕ → List ℕ → Type 0
IsAlone k cs = (has_bits (drop k cs) ≡ true) × (k + 3 < length cs → are_four (sixels_of cs) k ≡ false)

-- a column before fewer than three equal ones
one_more : (m b : ℕ) → m < 3 → run_text (suc m) b ≡ (63 + b) ∷ run_text m b
one_more m b few =
    run-short (suc m) b (omega arith) ∙ sym (ap (λ (t : List ℕ). (63 + b) ∷ t) (run-short m b (omega arith)))

before_other : (m b c : ℕ) (cs : List ℕ) → m < 3 → c ≢ b
    → columns_text (b ∷ (replicate m b ++ c ∷ cs)) ≡ (63 + b) ∷ columns_text (replicate m b ++ c ∷ cs)
before_other m b c cs few other =
    columns-before (suc m) b c cs other ∙ ap (λ (t : List ℕ). t ++ columns_text (c ∷ cs)) (one_more m b few)
    ∙ sym (ap (λ (t : List ℕ). (63 + b) ∷ t) (columns-before m b c cs other))

before_end : (m b : ℕ) → m < 3 → b ≢ 0
    → columns_text (b ∷ (replicate m b ++ [])) ≡ (63 + b) ∷ columns_text (replicate m b ++ [])
before_end m b few some =
    columns-end (suc m) b some ∙ one_more m b few ∙ sym (ap (λ (t : List ℕ). (63 + b) ∷ t) (columns-end m b some))

none_blank : (n : ℕ) → has_bits (replicate n 0 ++ []) ≡ false
none_blank zero = refl
none_blank (suc n) = none_blank n

has_some : (m b : ℕ) → has_bits (b ∷ (replicate m b ++ [])) ≡ true → b ≢ 0
has_some m b ink = λ e.
    let none : has_bits (b ∷ (replicate m b ++ [])) ≡ false =
    ap (λ (n : ℕ). has_bits (n ∷ (replicate m n ++ []))) e ∙ none_blank m in
    cc (ink, none)

same_twice : (v : ℕ) → ((v == v) && ((v == v) && (v == v))) ≡ true
same_twice v = let e = eq-eqb v v refl in and_from _ _ e (and_from _ _ e e)

-- fewer than three equal columns follow
alone_step : (m b : ℕ) (cs : List ℕ) → m < 3 → IsAlone 0 (b ∷ (replicate m b ++ cs))
    → columns_text (b ∷ (replicate m b ++ cs)) ≡ (63 + b) ∷ columns_text (replicate m b ++ cs)
alone_step m b [] few alone = before_end m b few (has_some m b alone.0)
alone_step m b (c ∷ cs) few alone = elim (cases_eq c b) [
  | inr other ↦ before_other m b c cs few other
  | inl same ↦
      let whole : replicate m b ++ c ∷ cs ≡ replicate (suc m) b ++ cs =
      ap (λ (n : ℕ). replicate m b ++ n ∷ cs) same ∙ replicate-then m b cs in
      let free : IsAlone 0 (b ∷ (replicate (suc m) b ++ cs)) =
      subst (λ (t : List ℕ). IsAlone 0 (b ∷ t)) whole alone in
      elim (cases_lt m 2) [
        | inl less ↦ rw whole (alone_step (suc m) b cs (omega arith) free)
        | inr two ↦
            let is_two : m ≡ 2 = omega arith in
            let third : IsAlone 0 (b ∷ (replicate 3 b ++ cs)) =
            subst (λ (n : ℕ). IsAlone 0 (b ∷ (replicate (suc n) b ++ cs))) is_two free in
            let gone = third.1 (omega arith) in
            absurd (cc (gone, same_twice (63 + b)))
      ]
]

alone : (b : ℕ) (cs : List ℕ) → IsAlone 0 (b ∷ cs) → columns_text (b ∷ cs) ≡ (63 + b) ∷ columns_text cs
alone b cs free = alone_step 0 b cs (omega arith) free

-- ---- several single sixels

four_later : (v k : ℕ) (vs : List ℕ) → are_four (v ∷ vs) (suc k) ≡ are_four vs k
four_later v k vs =
    let one : suc k + 1 ≡ suc (k + 1) = omega arith in
    let two : suc k + 2 ≡ suc (k + 2) = omega arith in
    let three : suc k + 3 ≡ suc (k + 3) = omega arith in
    rw (one, two, three) refl

alone_later : (b k : ℕ) (cs : List ℕ) → IsAlone (suc k) (b ∷ cs) → IsAlone k cs
alone_later b k cs free = (
  free.0,
  λ room. sym (four_later (63 + b) k (sixels_of cs)) ∙ free.1 (omega arith),
)

stretch : (n : ℕ) (cs : List ℕ) → n ≤ length cs → ((k : ℕ) → k < n → IsAlone k cs)
    → columns_text cs ≡ sixels_of (take n cs) ++ columns_text (drop n cs)
stretch zero cs within each = refl
stretch (suc n) [] within each = absurd (omega arith)
stretch (suc n) (b ∷ cs) within each =
    alone b cs (each 0 (omega arith))
    ∙ ap (λ (t : List ℕ). (63 + b) ∷ t)
    (stretch n cs (omega arith) (λ k lt. alone_later b k cs (each (suc k) (omega arith))))

stretch_from : (from n : ℕ) (cs : List ℕ) → from + n ≤ length cs → ((k : ℕ) → from ≤ k → k < from + n → IsAlone k cs)
    → columns_text (drop from cs) ≡ sixels_of (take n (drop from cs)) ++ columns_text (drop n (drop from cs))
stretch_from zero n cs within each = stretch n cs (omega arith) (λ k lt. each k (omega arith) (omega arith))
stretch_from (suc from) n [] within each = absurd (omega arith)
stretch_from (suc from) n (b ∷ cs) within each =
    stretch_from from n cs (omega arith) (λ k low high. alone_later b k cs (each (suc k) (omega arith) (omega arith)))

part_of : (from n : ℕ) (cs : List ℕ) → sixels_of (take n (drop from cs)) ≡ take n (drop from (sixels_of cs))
part_of from n cs =
    sym (ap (take n) (drop-map (λ bits. 63 + bits) from cs) ∙ take-map (λ bits. 63 + bits) n (drop from cs))

-- column j has a set bit
has_at : (j : ℕ) (cs : List ℕ) → get_or cs j 0 ≢ 0 → has_bits cs ≡ true
has_at j [] some = absurd (some refl)
has_at zero (b ∷ cs) some = or_left (not (b == 0)) (has_bits cs) (not_from_false (b == 0) (ne_eqb b 0 some))
has_at (suc j) (b ∷ cs) some = or_right (not (b == 0)) (has_bits cs) (has_at j cs some)

has_from : (j k : ℕ) (cs : List ℕ) → get_or cs j 0 ≢ 0 → k ≤ j → has_bits (drop k cs) ≡ true
has_from j zero cs some le = has_at j cs some
has_from j (suc k) [] some le = absurd (some refl)
has_from zero (suc k) (b ∷ cs) some le = absurd (omega arith)
has_from (suc j) (suc k) (b ∷ cs) some le = has_from j k cs some (omega arith)

-- if a set bit comes at or after the last of these columns, and no repeat begins in them, they are single sixels
pub stretch_text : (cs : List ℕ) (from to j : ℕ) → from ≤ to → to ≤ length cs → get_or cs j 0 ≢ 0 → to ≤ j + 1
    → NoFour from to (sixels_of cs)
    → columns_text (drop from cs) ≡ part from to (sixels_of cs) ++ columns_text (drop to cs)
stretch_text cs from to j low high some ink none =
    let whole : from + (to - from) ≡ to = omega arith in
    let wide : length (sixels_of cs) ≡ length cs = length-map cs (λ bits. 63 + bits) in
    stretch_from from (to - from) cs (omega arith) (λ k after before. (
      has_from j k cs some (omega arith),
      λ room. none k after (omega arith) (omega arith),
    ))
    ∙ ap₂ (λ (s t : List ℕ). s ++ columns_text t) (part_of from (to - from) cs)
    (drop-drop (to - from) from cs ∙ ap (λ (n : ℕ). drop n cs) whole)

-- ---- a run

-- `n` equal columns from `a` on
equal_from : (n a v : ℕ) (cs : List ℕ) → a + n ≤ length cs → ((k : ℕ) → a ≤ k → k < a + n → get_or cs k 0 ≡ v)
    → take n (drop a cs) ≡ replicate n v
equal_from zero a v cs room each = refl
equal_from (suc n) a v cs room each =
    ap (take (suc n)) (drop-cons cs a 0 (omega arith))
    ∙ ap (λ (b : ℕ). b ∷ take n (drop (suc a) cs)) (each a (omega arith) (omega arith))
    ∙ ap (λ (t : List ℕ). v ∷ t)
    (equal_from n (suc a) v cs (omega arith) (λ k low high. each k (omega arith) (omega arith)))

run_from : (start end v : ℕ) (cs : List ℕ) → start ≤ end → end ≤ length cs
    → ((k : ℕ) → start ≤ k → k < end → get_or cs k 0 ≡ v) → drop start cs ≡ replicate (end - start) v ++ drop end cs
run_from start end v cs low high each =
    let whole : start + (end - start) ≡ end = omega arith in
    sym (take-append-drop (end - start) (drop start cs))
    ∙ ap₂ (λ (s t : List ℕ). s ++ t)
    (equal_from (end - start) start v cs (omega arith) (λ k from to. each k from (omega arith)))
    (drop-drop (end - start) start cs ∙ ap (λ (n : ℕ). drop n cs) whole)

-- a run before a different column
run_inside : (start end v : ℕ) (cs : List ℕ) → start ≤ end → end < length cs
    → ((k : ℕ) → start ≤ k → k < end → get_or cs k 0 ≡ v) → get_or cs end 0 ≢ v
    → columns_text (drop start cs) ≡ run_text (end - start) v ++ columns_text (drop end cs)
run_inside start end v cs low high each other =
    let rest : drop end cs ≡ get_or cs end 0 ∷ drop (suc end) cs = drop-cons cs end 0 high in
    ap columns_text (run_from start end v cs low (omega arith) each
    ∙ ap (λ (t : List ℕ). replicate (end - start) v ++ t) rest)
    ∙ columns-before (end - start) v (get_or cs end 0) (drop (suc end) cs) other
    ∙ ap (λ (t : List ℕ). run_text (end - start) v ++ columns_text t) (sym rest)

-- a run at the end of the row
run_at_end : (start v : ℕ) (cs : List ℕ) → start ≤ length cs → ((k : ℕ) → start ≤ k → k < length cs → get_or cs k 0 ≡ v)
    → columns_text (drop start cs) ≡ columns_text (replicate (length cs - start) v ++ [])
run_at_end start v cs low each =
    ap columns_text (run_from start (length cs) v cs low (omega arith) each
    ∙ ap (λ (t : List ℕ). replicate (length cs - start) v ++ t) (drop_all (length cs) cs (omega arith)))

-- blank columns at the end have no text
pub blank_text : (start : ℕ) (cs : List ℕ) → start ≤ length cs
    → ((k : ℕ) → start ≤ k → k < length cs → get_or cs k 0 ≡ 0) → columns_text (drop start cs) ≡ []
blank_text start cs low each = run_at_end start 0 cs low each ∙ columns-blank (length cs - start) 0 refl

-- the text of a run, at the end of the row or before another column
pub run_behind : (start end v : ℕ) (cs : List ℕ) → start ≤ end → end ≤ length cs
    → ((k : ℕ) → start ≤ k → k < end → get_or cs k 0 ≡ v) → (end < length cs → get_or cs end 0 ≢ v)
    → (end ≡ length cs → v ≢ 0) → columns_text (drop start cs) ≡ run_text (end - start) v ++ columns_text (drop end cs)
run_behind start end v cs low high each other some = elim (cases_lt end (length cs)) [
  | inl inside ↦ run_inside start end v cs low inside each (other inside)
  | inr past ↦
      let done : end ≡ length cs = omega arith in
      let none : columns_text (drop end cs) ≡ [] =
      ap columns_text (drop_all end cs past) ∙ columns-blank 0 0 refl in
      run_at_end start v cs (omega arith) (λ k from to. each k from (omega arith))
      ∙ columns-end (length cs - start) v (some done)
      ∙ ap (λ (n : ℕ). run_text (n - start) v) (sym done)
      ∙ sym (ap (λ (t : List ℕ). run_text (end - start) v ++ t) none ∙ append-nil (run_text (end - start) v))
]

-- ---- data bytes and their bits

spelled_at : (cs : List ℕ) (k : ℕ) → k < length cs → get_or (sixels_of cs) k 0 ≡ 63 + get_or cs k 0
spelled_at cs k lt = get_or-map (λ bits. 63 + bits) cs k 0 0 lt

pub bits_back : (cs : List ℕ) → bits_of_sixels (sixels_of cs) ≡ cs
bits_back [] = refl
bits_back (b ∷ cs) = let e : 63 + b - 63 ≡ b = omega arith in ap₂ (λ (n : ℕ) (t : List ℕ). n ∷ t) e (bits_back cs)

-- the commands of a register, from the data bytes of its columns and of blank ones behind them
pub register_is : (p : PictureValue) (band register long : ℕ) (sixels : List ℕ)
    → sixels ≡ sixels_of (padded long (all_columns p band register))
    → Select register ∷ sixel_commands sixels ≡ register_commands p band register
unfolding register_commands band_columns
register_is p band register long sixels e =
    let columns = all_columns p band register in
    ap (λ (t : List ℕ). Select register ∷ flat_map run_commands (runs t))
    (ap (λ (t : List ℕ). without_blanks (bits_of_sixels t)) e ∙ ap without_blanks (bits_back (padded long columns))
    ∙ without_padding columns (long - length columns))

sixels_later : (x : ℕ) (xs : List ℕ) → AreSixels (x ∷ xs) → AreSixels xs
sixels_later x xs are k lt = are (suc k) (omega arith)

pub sixels_back : (xs : List ℕ) → AreSixels xs → xs ≡ sixels_of (bits_of_sixels xs)
sixels_back [] are = refl
sixels_back (x ∷ xs) are =
    let least = (are 0 (omega arith)).0 in
    let e : x ≡ 63 + (x - 63) = omega (arith, least) in
    ap₂ (λ (n : ℕ) (t : List ℕ). n ∷ t) e (sixels_back xs (sixels_later x xs are))

pub sixels_are : (cs : List ℕ) → ((k : ℕ) → k < length cs → get_or cs k 0 ≤ 63) → AreSixels (sixels_of cs)
sixels_are cs most k lt =
    let inside : k < length cs = omega (arith, length-map cs (λ bits. 63 + bits)) in
    let is = spelled_at cs k inside in
    let few = most k inside in
    (omega arith, omega arith)

-- ---- the text so far, one step after another

-- the columns of a run have equal bits
run_bits : {start end : ℕ} (cs : List ℕ) → IsRun start end (sixels_of cs) → (k : ℕ) → start ≤ k → k < end
    → get_or cs k 0 ≡ get_or cs start 0
run_bits {start} cs run k low high =
    let wide = length-map cs (λ bits. 63 + bits) in
    let within = run.within in
    let some = run.some in
    let here : k < length cs = omega arith in
    let first : start < length cs = omega arith in
    let a = spelled_at cs k here in
    let b = spelled_at cs start first in
    let e = run.equal k low high in
    omega arith

run_other : {start end : ℕ} (cs : List ℕ) → IsRun start end (sixels_of cs) → end < length cs
    → get_or cs end 0 ≢ get_or cs start 0
run_other {start} {end} cs run inside = λ e.
    let wide = length-map cs (λ bits. 63 + bits) in
    let some = run.some in
    let first : start < length cs = omega arith in
    run.ends (omega arith) (spelled_at cs end inside ∙ ap (λ (n : ℕ). 63 + n) e ∙ sym (spelled_at cs start first))

-- single sixels, then the repeat after them
next_of : (cs : List ℕ) {from start end : ℕ} → IsRepeatAt from (sixels_of cs) start → IsRun start end (sixels_of cs)
    → (end ≡ length cs → get_or cs start 0 ≢ 0)
    → columns_text (drop from cs)
    ≡ (part from start (sixels_of cs) ++ run_text (end - start) (get_or cs start 0)) ++ columns_text (drop end cs)
next_of cs {from} {start} {end} next run some =
    let wide = length-map cs (λ bits. 63 + bits) in
    let within = run.within in
    let more = run.some in
    let low = next.after in
    let inside : start < length cs = omega arith in
    let single : columns_text (drop from cs) ≡ part from start (sixels_of cs) ++ columns_text (drop start cs) =
    elim (cases_eq (get_or cs start 0) 0) [
      | inr ink ↦ stretch_text cs from start start low (omega arith) ink (omega arith) next.before
      | inl blank ↦
          let before : end < length cs = elim (cases_lt end (length cs)) [
            | inl lt ↦ lt
            | inr past ↦ absurd (some (omega arith) blank)
          ] in
          let ink : get_or cs end 0 ≢ 0 = λ e. run_other cs run before (e ∙ sym blank) in
          stretch_text cs from start end low (omega arith) ink (omega arith) next.before
    ] in
    single ∙ ap (λ (t : List ℕ). part from start (sixels_of cs) ++ t)
    (run_behind start end (get_or cs start 0) cs (omega arith) (omega arith) (run_bits cs run) (run_other cs run) some)
    ∙ sym (append_assoc (part from start (sixels_of cs)) (run_text (end - start) (get_or cs start 0))
    (columns_text (drop end cs)))

-- the same for data bytes
pub next_text : (xs : List ℕ) (from start end : ℕ) → AreSixels xs → IsRepeatAt from xs start → IsRun start end xs
    → (end ≡ length xs → get_or xs start 0 ≢ 63)
    → columns_text (drop from (bits_of_sixels xs))
    ≡ (part from start xs ++ run_text (end - start) (get_or xs start 0 - 63))
    ++ columns_text (drop end (bits_of_sixels xs))
next_text xs from start end are next run some =
    let cs = bits_of_sixels xs in
    let e : xs ≡ sixels_of cs = sixels_back xs are in
    let wide : length cs ≡ length xs = length-map xs (λ sixel. sixel - 63) in
    let within = run.within in
    let more = run.some in
    let inside : start < length xs = omega arith in
    let bits : get_or cs start 0 ≡ get_or xs start 0 - 63 = get_or-map (λ sixel. sixel - 63) xs start 0 0 inside in
    let least = (are start inside).0 in
    let ink : end ≡ length cs → get_or cs start 0 ≢ 0 = λ done none. some (omega arith) (omega arith) in
    next_of cs (subst (λ (t : List ℕ). IsRepeatAt from t start) e next)
    (subst (λ (t : List ℕ). IsRun start end t) e run) ink
    ∙ ap₂ (λ (t : List ℕ) (b : ℕ). (part from start t ++ run_text (end - start) b) ++ columns_text (drop end cs))
    (sym e) bits

-- if the last repeat is blank, the column before it isn't
last_of : {xs : List ℕ} {from start : ℕ} → from < start → IsRepeatAt from xs start → get_or xs start 0 ≡ 63
    → get_or xs (start - 1) 0 ≢ 63
last_of {xs} {start} low next blank = λ also.
    let k = start - 1 in
    let at : k + 1 ≡ start = omega arith in
    let at1 : k + 2 ≡ start + 1 = omega arith in
    let at2 : k + 3 ≡ start + 2 = omega arith in
    let parts = and_parts _ _ next.four in
    let more = and_parts _ _ parts.1 in
    let v0 : get_or xs (k + 1) 0 ≡ 63 = ap (λ (n : ℕ). get_or xs n 0) at ∙ blank in
    let v1 : get_or xs (k + 2) 0 ≡ 63 = ap (λ (n : ℕ). get_or xs n 0) at1 ∙ sym (eqb-true _ _ parts.0) ∙ blank in
    let v2 : get_or xs (k + 3) 0 ≡ 63 = ap (λ (n : ℕ). get_or xs n 0) at2 ∙ sym (eqb-true _ _ more.0) ∙ blank in
    let all : are_four xs k ≡ true =
    and_from _ _ (eq-eqb _ _ (also ∙ sym v0))
    (and_from _ _ (eq-eqb _ _ (also ∙ sym v1)) (eq-eqb _ _ (also ∙ sym v2))) in
    let room = next.within in
    let none : are_four xs k ≡ false = next.before k (omega arith) (omega arith) (omega arith) in
    cc (all, none)

-- the last single sixels, followed only by blank columns
last_of_all : (cs : List ℕ) (from to : ℕ) → from ≤ to → to ≤ length cs → NoFour from to (sixels_of cs)
    → ((k : ℕ) → to ≤ k → k < length cs → get_or cs k 0 ≡ 0) → (from < to → get_or cs (to - 1) 0 ≢ 0)
    → columns_text (drop from cs) ≡ part from to (sixels_of cs)
last_of_all cs from to low high none blank some =
    let end : columns_text (drop to cs) ≡ [] = blank_text to cs high blank in
    elim (cases_lt from to) [
      | inl less ↦
          stretch_text cs from to (to - 1) low high (some less) (omega arith) none
          ∙ ap (λ (t : List ℕ). part from to (sixels_of cs) ++ t) end
          ∙ append-nil (part from to (sixels_of cs))
      | inr past ↦
          let same : from ≡ to = omega arith in
          let nothing : to - from ≡ 0 = omega arith in
          ap (λ (n : ℕ). columns_text (drop n cs)) same ∙ end
          ∙ sym (ap (λ (n : ℕ). take n (drop from (sixels_of cs))) nothing)
    ]

pub last_text : (xs : List ℕ) (from to : ℕ) → AreSixels xs → from ≤ to → to ≤ length xs → NoFour from to xs
    → ((k : ℕ) → to ≤ k → k < length xs → get_or xs k 0 ≡ 63) → (from < to → get_or xs (to - 1) 0 ≢ 63)
    → columns_text (drop from (bits_of_sixels xs)) ≡ part from to xs
last_text xs from to are low high none blank some =
    let cs = bits_of_sixels xs in
    let e : xs ≡ sixels_of cs = sixels_back xs are in
    let wide : length cs ≡ length xs = length-map xs (λ sixel. sixel - 63) in
    let bits : (k : ℕ) → k < length xs → get_or cs k 0 ≡ get_or xs k 0 - 63 =
    λ k lt. get_or-map (λ sixel. sixel - 63) xs k 0 0 lt in
    last_of_all cs from to low (omega arith) (subst (λ (t : List ℕ). NoFour from to t) e none)
    (λ k after before.
    let inside : k < length xs = omega arith in
    let is = bits k inside in
    let sixel = blank k after inside in
    omega arith)
    (λ less zero_bits.
    let inside : to - 1 < length xs = omega arith in
    let is = bits (to - 1) inside in
    let least = (are (to - 1) inside).0 in
    some less (omega arith))
    ∙ ap (λ (t : List ℕ). part from to t) (sym e)

-- the end, if the last repeat is blank
pub blank_end : {xs : List ℕ} {from start end : ℕ} → AreSixels xs → IsRepeatAt from xs start → IsRun start end xs
    → end ≡ length xs → get_or xs start 0 ≡ 63 → columns_text (drop from (bits_of_sixels xs)) ≡ part from start xs
blank_end {xs} {from} {start} are next run done blank =
    let room = next.within in
    last_text xs from start are next.after (omega arith) next.before
    (λ k low high. run.equal k low (omega arith) ∙ blank) (λ less. last_of less next blank)

-- the end, if no repeat is left
pub ink_text : {xs : List ℕ} {from to : ℕ} → AreSixels xs → NoFour from (length xs) xs → IsInkEnd from to xs
    → columns_text (drop from (bits_of_sixels xs)) ≡ part from to xs
ink_text {xs} {from} {to} are none ink =
    let high = ink.within in
    last_text xs from to are ink.after ink.within (λ k low lt room. none k low (omega arith) room) ink.blank ink.ink
