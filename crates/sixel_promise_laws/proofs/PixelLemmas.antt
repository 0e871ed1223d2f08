-- The colours of a picture's pixels, row by row, and what `render` gives of it.
use Rattle.std.proofs.Common.{◌≡◌, ◌∙◌, ◌≤◌, ◌<◌, ◌+◌, ◌*◌, ◌/◌, ◌%◌, ℕ, zero, suc, Bool, true, false, List, [], ◌∷◌}
use Rattle.std.proofs.Common.{◌^◌, Option, Some, Result, Ok, Err, ap, ap₂, arith, filter_map, inl, inr, length, map, refl}
use Rattle.std.proofs.Common.{subst, sym}
use Rattle.std.specs.Prelude.{◌↔◌, slice_get, unwrap_or}
use Rattle.std.specs.List.{cons_option, flat_map, range_with_len}
use Rattle.std.proofs.lemmas.Nat.{mod_below, row-Below}
use Rattle.sixel_grammar.specs.declared.command.Event.{Event}
use Rattle.sixel_grammar.specs.declared.command.Placed.{Placed}
use Rattle.sixel_grammar.specs.Document.{Document}
use Rattle.sixel_model.specs.declared.colour.Parts.{Parts}
use Rattle.sixel_model.specs.Colours.{palette_at}
use Rattle.sixel_model.specs.Grids.{row_by_row}
use Rattle.sixel_model.specs.Pictures.{PictureValue, register_of}
use Rattle.sixel_model.specs.Rules.{palette_left, picture_left, register_at}
use Rattle.sixel_model.proofs.GridLemmas.{at_rows, get_rows, length_rows}
use Rattle.sixel_ppm.specs.Ppm.{are_rgb, colours_of, ppm_text, samples_of}
use Rattle.sixel_png.specs.Png.{IsPng}
use Rattle.sixel_png.specs.Writing.{levels_of}
use Rattle.sixel_judge.specs.declared.verdict.Verdict.TheVariants.{Portable}
use Rattle.sixel_judge.specs.Verdicts.{IsVerdict}
use Rattle.sixel_report.specs.declared.fault.RunFault.{RunFault}
use Rattle.sixel_report.specs.declared.fault.RunFault.TheVariants.{NotRgb}
use Rattle.sixel_report.specs.declared.task.Status.{Status}
use Rattle.sixel_report.specs.declared.task.Status.TheVariants.{Done}
use Rattle.sixel_report.specs.Outputs.{IsPngFor, IsPngOf}
use Rattle.sixel_report.specs.Texts.{Text}
use Rattle.sixel_run.specs.Outputs.{RenderGives, picture_output}
use Rattle.sixel_run.proofs.PictureLemmas.{render-once}
use Rattle.sixel_run_laws.proofs.FormatLemmas.{png_of_none, same_picture, some_header}
use Rattle.sixel_promise_laws.specs.Twice.{IsPngOutput}

-- ---- the colours

-- of numbers in a row, what k gives of each is there
filter_range : {A : Type 0} (k : ℕ → Option A) (r : ℕ → ℕ) (f : ℕ → A) (a n : ℕ)
    → ((i : ℕ) → a ≤ i → i < a + n → k (r i) ≡ Some (f i))
    → filter_map k (map r (range_with_len a n)) ≡ map f (range_with_len a n)
filter_range k r f a zero each = refl
filter_range k r f a (suc n) each =
    ap (λ o. cons_option o (filter_map k (map r (range_with_len (a + 1) n)))) (each a (omega arith) (omega arith))
    ∙ ap (λ l. f a ∷ l) (filter_range k r f (a + 1) n (λ i low high. each i (omega arith) (omega arith)))

filter_rows : {A : Type 0} (k : ℕ → Option A) (r : ℕ → ℕ → ℕ) (f : ℕ → ℕ → A) (w h : ℕ)
    → ((x y : ℕ) → x < w → y < h → k (r x y) ≡ Some (f x y))
    → filter_map k (row_by_row w h r) ≡ row_by_row w h f
unfolding row_by_row
filter_rows k r f w h each =
    filter_range k (λ i. r (i % w) (i / w)) (λ i. f (i % w) (i / w)) 0 (w * h) (λ i low high.
    let below : i < w * h = omega (arith, high) in
    let at = row-Below i w w h below (omega arith) in
    each (i % w) (i / w) (mod_below i w (some_columns i w h below)) at.1)
  where
    some_columns : (i w h : ℕ) → i < w * h → 0 < w
    some_columns i zero h below = absurd (omega (arith, below))
    some_columns i (suc w) h below = omega arith

-- the pixels of a picture have these colours
abbrev pub HavePixels : PictureValue → (ℕ → ℕ → Parts) → Type 0
HavePixels p f =
    (x y : ℕ) → x < p.width → y < p.height → palette_at p.palette (register_of p x y) ≡ Some (f x y)

colours_left : (n : ℕ) (events : List Event) (f : ℕ → ℕ → Parts) → HavePixels (picture_left n events) f
    → colours_of (picture_left n events)
    ≡ row_by_row (picture_left n events).width (picture_left n events).height f
unfolding picture_left
colours_left n events f each =
    let register : ℕ → ℕ → ℕ = λ x y. unwrap_or (register_at events x y) 0 in
    filter_rows (palette_at (palette_left n events)) register f _ _
    (λ x y across down.
    ap (palette_at (palette_left n events)) (sym (get_rows _ _ register x y 0 across down)) ∙ each x y across down)

-- the colours of the picture that the events leave are those of its pixels
pub colours_are : (n : ℕ) (events : List Event) (p : PictureValue) (f : ℕ → ℕ → Parts) → p ≡ picture_left n events
    → HavePixels p f → colours_of p ≡ row_by_row p.width p.height f
colours_are n events p f left =
    subst (λ (q : PictureValue). HavePixels q f → colours_of q ≡ row_by_row q.width q.height f) (sym left)
    (colours_left n events f)

pub colours_count : (p : PictureValue) (f : ℕ → ℕ → Parts) → colours_of p ≡ row_by_row p.width p.height f
    → length (colours_of p) ≡ p.width * p.height
colours_count p f are = ap (λ (l : List Parts). length l) are ∙ length_rows p.width p.height f

pub colours_at : (p : PictureValue) (f : ℕ → ℕ → Parts) → colours_of p ≡ row_by_row p.width p.height f → HavePixels p f
    → (x y : ℕ) → x < p.width → y < p.height
    → slice_get (colours_of p) (y * p.width + x) ≡ palette_at p.palette (register_of p x y)
colours_at p f are each x y across down =
    ap (λ (l : List Parts). slice_get l (y * p.width + x)) are
    ∙ at_rows p.width p.height f x y across down
    ∙ sym (each x y across down)

-- ---- what `render` gives

abbrev Output : Type 0
Output = Text × Result Status RunFault

pub output_is : (text : Text) (answer : Result Status RunFault) (o : Text × Result Status RunFault) → text ≡ o.0
    → answer ≡ o.1 → (text, answer) ≡ o
output_is text answer o e f = ap₂ (λ (t : Text) (a : Result Status RunFault). let p : Output = (t, a) in p) e f

render_picture : (n : ℕ) (bytes : List ℕ) (d : List Placed) (p : PictureValue) (rgb : Bool)
    → are_rgb (colours_of p) ≡ rgb → Document d bytes → IsVerdict n d (Portable p)
    → RenderGives n bytes (picture_output p).0 (picture_output p).1
render_picture n bytes d p true e document is =
    let o : picture_output p ≡ (ppm_text p.width p.height (colours_of p), Ok Done) = rw e refl in
    rw o (d, document, (Portable p, is, sym o))
render_picture n bytes d p false e document is =
    let o : picture_output p ≡ ([], Err NotRgb) = rw e refl in
    rw o (d, document, (Portable p, is, sym o))

-- it gives the picture, and nothing else
pub render_is : (n : ℕ) (bytes : List ℕ) (d : List Placed) (p : PictureValue) → Document d bytes
    → IsVerdict n d (Portable p) → (text : Text) (answer : Result Status RunFault)
    → RenderGives n bytes text answer ↔ ((text, answer) ≡ picture_output p)
render_is n bytes d p document is text answer =
    let given = render_picture n bytes d p (are_rgb (colours_of p)) refl document is in (
      λ g.
          (let same = render-once n bytes text (picture_output p).0 answer (picture_output p).1 g given in
          output_is text answer (picture_output p) same.0 same.1),
      λ e. subst (λ (o : Output). RenderGives n bytes o.0 o.1) (sym e) given,
    )

png_of_picture : (p : PictureValue) (text ppm : Text) → p.width < 2 ^ 31 → p.height < 2 ^ 31
    → ppm ≡ ppm_text p.width p.height (colours_of p) → IsPngFor ppm text
    → IsPng text p.width p.height (levels_of (colours_of p))
unfolding ppm_text
png_of_picture p text ppm wide high is (inl none) =
    absurd (some_header p.width p.height (flat_map samples_of (colours_of p)) (sym is ∙ none.0))
png_of_picture p text ppm wide high is (inr png) =
    same_picture ppm text p.width p.height (flat_map samples_of (colours_of p)) wide high is png

png_from : (p : PictureValue) (text : Text) → IsPng text p.width p.height (levels_of (colours_of p))
    → IsPngOf (ppm_text p.width p.height (colours_of p)) text
unfolding ppm_text
png_from p text is = record {
  width = p.width;
  height = p.height;
  samples = flat_map samples_of (colours_of p);
  ppm_is = refl;
  png_is = is;
}

-- the same with `--png`
png_given : (p : PictureValue) (text : Text) (answer : Result Status RunFault) (rgb : Bool)
    → are_rgb (colours_of p) ≡ rgb → p.width < 2 ^ 31 → p.height < 2 ^ 31
    → (ppm : Text) × ((ppm, answer) ≡ picture_output p) × IsPngFor ppm text → IsPngOutput p text answer
png_given p text answer true e wide high g =
    let o : picture_output p ≡ (ppm_text p.width p.height (colours_of p), Ok Done) = rw e refl in
    let ppm : g.0 ≡ ppm_text p.width p.height (colours_of p) = ap (λ (q : Output). q.0) (g.1 ∙ o) in
    let done : answer ≡ Ok Done = ap (λ (q : Output). q.1) (g.1 ∙ o) in
    rw done (e, png_of_picture p text g.0 wide high ppm g.2, refl)
png_given p text answer false e wide high g =
    let o : picture_output p ≡ ([], Err NotRgb) = rw e refl in
    let none : g.0 ≡ [] = ap (λ (q : Output). q.0) (g.1 ∙ o) in
    let refused : answer ≡ Err NotRgb = ap (λ (q : Output). q.1) (g.1 ∙ o) in
    rw refused (e, png_of_none g.0 text none g.2)

gives_png : (p : PictureValue) (text : Text) (answer : Result Status RunFault) → IsPngOutput p text answer
    → (ppm : Text) × ((ppm, answer) ≡ picture_output p) × IsPngFor ppm text
gives_png p text (Ok status) g = (
  ppm_text p.width p.height (colours_of p),
  rw (g.0, g.2) refl,
  inr (png_from p text g.1),
)
gives_png p text (Err NotRgb) g = ([], rw g.0 refl, inl (refl, g.1))
gives_png p text (Err other) g = absurd g

pub render_png : (n : ℕ) (bytes : List ℕ) (d : List Placed) (p : PictureValue) → Document d bytes
    → IsVerdict n d (Portable p) → p.width < 2 ^ 31 → p.height < 2 ^ 31 → (text : Text)
    (answer : Result Status RunFault)
    → ((ppm : Text) × RenderGives n bytes ppm answer × IsPngFor ppm text) ↔ IsPngOutput p text answer
render_png n bytes d p document is wide high text answer = (
  λ g.
      png_given p text answer (are_rgb (colours_of p)) refl wide high
      (g.0, (render_is n bytes d p document is g.0 answer).0 g.1, g.2),
  λ g.
      (let given = gives_png p text answer g in
      (given.0, (render_is n bytes d p document is given.0 answer).1 given.1, given.2)),
)
