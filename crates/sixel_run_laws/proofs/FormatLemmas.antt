-- Lemmas for the laws of the formats of pictures.
use Rattle.std.proofs.Common.{◌≡◌, ◌∙◌, ◌↔◌, ◌⊎◌, ◌<◌, ◌≤◌, ◌^◌, ◌++◌, ◌∷◌, ℕ, List, [], Option, Some, ap, ap₂, arith}
use Rattle.std.proofs.Common.{append_assoc, codes, inl, inr, map, refl, subst, sym}
use Rattle.std.specs.Prelude.{Result, Ok, decimal}
use Rattle.std.specs.Char.{digit_value}
use Rattle.std.specs.Str.Parse.{AllDigits, digits_value}
use Rattle.std.proofs.lemmas.Fmt.{decimal_is_IsNumeral}
use Rattle.sixel_ppm.specs.Ppm.{ppm_header}
use Rattle.sixel_png.specs.Levels.{level}
use Rattle.sixel_png.specs.Png.{IsPng}
use Rattle.sixel_report.specs.declared.fault.RunFault.{RunFault}
use Rattle.sixel_report.specs.declared.task.PictureFormat.{PictureFormat}
use Rattle.sixel_report.specs.declared.task.PictureFormat.TheVariants.{Ppm, Png}
use Rattle.sixel_report.specs.declared.task.Status.{Status}
use Rattle.sixel_report.specs.Outputs.{GivesAs, IsPngFor, IsPngOf, WroteAs}
use Rattle.sixel_report.specs.Texts.{Text}
use Rattle.sixel_run.specs.Outputs.{Gives, WroteBefore, WroteUnread, format_of}
use Rattle.sixel_run.proofs.RunLemmas.{gives-once}
use Rattle.sixel_run_laws.specs.Laws.{AreOne, AreOnePicture, RunsGiveOnePicture, RunsWriteWhatTheyGive}

-- ---- the header of a PPM

-- digits end at a byte that is none
split_digits : (xs ys r s : List ℕ) (c : ℕ) → 10 ≤ digit_value c → AllDigits 10 xs → AllDigits 10 ys
    → xs ++ c ∷ r ≡ ys ++ c ∷ s → (xs ≡ ys) × (r ≡ s)
split_digits [] [] r s c other dx dy e = (refl, cc)
split_digits [] (y ∷ ys) r s c other dx dy e =
    let same : y ≡ c = cc in
    let low : digit_value c < 10 = subst (λ (k : ℕ). digit_value k < 10) same dy.0 in absurd (omega (arith, other, low))
split_digits (x ∷ xs) [] r s c other dx dy e =
    let same : x ≡ c = cc in
    let low : digit_value c < 10 = subst (λ (k : ℕ). digit_value k < 10) same dx.0 in absurd (omega (arith, other, low))
split_digits (x ∷ xs) (y ∷ ys) r s c other dx dy e =
    let first : x ≡ y = cc in
    let more : xs ++ c ∷ r ≡ ys ++ c ∷ s = cc in
    let rest = split_digits xs ys r s c other dx.1 dy.1 more in
    (ap₂ (λ (b : ℕ) (bs : List ℕ). b ∷ bs) first rest.0, rest.1)

-- two numbers and what is behind the byte that ends them
split_number : (m n : ℕ) (r s : List ℕ) (c : ℕ) → 10 ≤ digit_value c → m < 2 ^ 64 → n < 2 ^ 64
    → decimal m ++ c ∷ r ≡ decimal n ++ c ∷ s → (m ≡ n) × (r ≡ s)
split_number m n r s c other lm ln e =
    let dm = decimal_is_IsNumeral m lm in
    let dn = decimal_is_IsNumeral n ln in
    let both = split_digits (decimal m) (decimal n) r s c other dm.0.1 dn.0.1 e in
    (sym dm.1 ∙ ap (digits_value 10) both.0 ∙ dn.1, both.1)

-- the header, then the samples
header_as : (w h : ℕ) (r : List ℕ) → ppm_header w h ++ r
    ≡ 80 ∷ 54 ∷ 10 ∷ (decimal w ++ 32 ∷ (decimal h ++ 10 ∷ (49 ∷ 48 ∷ 48 ∷ 10 ∷ r)))
unfolding ppm_header
header_as w h r =
    let wide : List ℕ = decimal w in
    let high : List ℕ = 32 ∷ decimal h in
    let most : List ℕ = 10 ∷ codes "100" in
    let end : List ℕ = 10 ∷ [] in
    ap (λ (t : List ℕ). 80 ∷ 54 ∷ 10 ∷ t)
    (append_assoc ((wide ++ high) ++ most) end r
    ∙ append_assoc (wide ++ high) most (end ++ r)
    ∙ append_assoc wide high (most ++ (end ++ r)))

-- the width, the height and the samples are those of the text
pub same_header : (w h u v : ℕ) (r s : List ℕ) → w < 2 ^ 64 → h < 2 ^ 64 → u < 2 ^ 64 → v < 2 ^ 64
    → ppm_header w h ++ r ≡ ppm_header u v ++ s → (w ≡ u) × (h ≡ v) × (r ≡ s)
same_header w h u v r s lw lh lu lv e =
    let all = sym (header_as w h r) ∙ e ∙ header_as u v s in
    let first : decimal w ++ 32 ∷ (decimal h ++ 10 ∷ (49 ∷ 48 ∷ 48 ∷ 10 ∷ r))
    ≡ decimal u ++ 32 ∷ (decimal v ++ 10 ∷ (49 ∷ 48 ∷ 48 ∷ 10 ∷ s)) = cc in
    let wide = split_number w u (decimal h ++ 10 ∷ (49 ∷ 48 ∷ 48 ∷ 10 ∷ r)) (decimal v ++ 10 ∷ (49 ∷ 48 ∷ 48 ∷ 10 ∷ s))
    32 (omega arith) lw lu first in
    let high = split_number h v (49 ∷ 48 ∷ 48 ∷ 10 ∷ r) (49 ∷ 48 ∷ 48 ∷ 10 ∷ s) 10 (omega arith) lh lv wide.1 in
    let rest : 49 ∷ 48 ∷ 48 ∷ 10 ∷ r ≡ 49 ∷ 48 ∷ 48 ∷ 10 ∷ s = high.1 in
    let same : r ≡ s = cc in (wide.0, high.0, same)

pub some_header : (w h : ℕ) (r : List ℕ) → ppm_header w h ++ r ≡ [] → ⊥
some_header w h r e =
    let none : 80 ∷ 54 ∷ 10 ∷ (decimal w ++ 32 ∷ (decimal h ++ 10 ∷ (49 ∷ 48 ∷ 48 ∷ 10 ∷ r))) ≡ [] =
    sym (header_as w h r) ∙ e in cc

-- ---- PNGs of one PPM

below : (n : ℕ) → n < 2 ^ 31 → n < 2 ^ 64
below n lt = omega (arith, lt)

pub same_picture : (ppm png : Text) (w h : ℕ) (samples : List ℕ) → w < 2 ^ 31 → h < 2 ^ 31
    → ppm ≡ ppm_header w h ++ samples → IsPngOf ppm png → IsPng png w h (map level samples)
same_picture ppm png w h samples lw lh is p =
    let same = same_header p.width p.height w h p.samples samples (below p.width p.png_is.wide.1)
    (below p.height p.png_is.high.1) (below w lw) (below h lh) (sym p.ppm_is ∙ is) in
    subst (λ (k : ℕ). IsPng png k h (map level samples)) same.0
    (subst (λ (k : ℕ). IsPng png p.width k (map level samples)) same.1
    (subst (λ (l : List ℕ). IsPng png p.width p.height (map level l)) same.2 p.png_is))

-- without a PPM there is no PNG
pub png_of_none : (ppm png : Text) → ppm ≡ [] → IsPngFor ppm png → png ≡ []
png_of_none ppm png none (inl is) = is.1
png_of_none ppm png none (inr is) = absurd (some_header is.width is.height is.samples (sym is.ppm_is ∙ none))

one_picture : (ppm first second : Text) → IsPngFor ppm first → IsPngFor ppm second → AreOne Png first second
one_picture ppm first second (inl p) q = inl (p.1 ∙ sym (png_of_none ppm second p.0 q))
one_picture ppm first second (inr p) (inl q) = absurd (some_header p.width p.height p.samples (sym p.ppm_is ∙ q.0))
one_picture ppm first second (inr p) (inr q) = inr (record {
  width = p.width;
  height = p.height;
  samples = map level p.samples;
  one = p.png_is;
  other = same_picture ppm second p.width p.height p.samples p.png_is.wide.1 p.png_is.high.1 p.ppm_is q;
})

-- ---- what runs give

one_by : (format : PictureFormat) (gives : Text → Result Status RunFault → Type 0)
    → ((t u : Text) (c d : Result Status RunFault) → gives t c → gives u d → (t ≡ u) × (c ≡ d))
    → (first second : Text) (a b : Result Status RunFault) → GivesAs format gives first a
    → GivesAs format gives second b → AreOne format first second × (a ≡ b)
one_by Ppm gives once first second a b g h = once first second a b g h
one_by Png gives once first second a b g h =
    let same = once g.0 h.0 a b g.1 h.1 in
    (one_picture g.0 first second g.2 (subst (λ (t : Text). IsPngFor t second) (sym same.0) h.2), same.1)

pub runs_give_one_picture : RunsGiveOnePicture
runs_give_one_picture task bytes first second a b g h =
    one_by (format_of task) (Gives task bytes) (λ t u c d. gives-once task bytes t u c d) first second a b g h

written_by : (format : PictureFormat) (gives : Text → Result Status RunFault → Type 0)
    (unread before : Option (List ℕ) → Option (List ℕ) → Type 0) (status : Status) (text : Text)
    → WroteAs format gives unread before (Ok status) (Some []) (Some text) → GivesAs format gives text (Ok status)
written_by Ppm gives unread before status text w = subst (λ (t : Text). gives t (Ok status)) (sym w.2) w.1
written_by Png gives unread before status text w = (
  w.0,
  subst (λ (t : Text). gives t (Ok status)) (sym w.1.2) w.1.1,
  subst (λ (t : Text). IsPngFor w.0 t) (sym w.2.2) w.2.1,
)

pub runs_write_what_they_give : RunsWriteWhatTheyGive
runs_write_what_they_give task bytes left status text w =
    written_by (format_of task) (Gives task bytes) (WroteUnread task bytes left) (WroteBefore task bytes) status text w

-- a task that gives nothing but a fault
pub only_refused : (format : PictureFormat) (gives : Text → Result Status RunFault → Type 0)
    (refusal : Result Status RunFault)
    → ((t : Text) (a : Result Status RunFault) → gives t a ↔ ((t ≡ []) × (a ≡ refusal))) → (text : Text)
    (answer : Result Status RunFault) → GivesAs format gives text answer ↔ ((text ≡ []) × (answer ≡ refusal))
only_refused Ppm gives refusal only text answer = only text answer
only_refused Png gives refusal only text answer = (
  λ g. (let none = (only g.0 answer).0 g.1 in (png_of_none g.0 text none.0 g.2, none.1)),
  λ e. ([], (only [] answer).1 (refl, e.1), inl (refl, e.0)),
)
