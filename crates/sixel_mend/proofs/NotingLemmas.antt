-- The mended picture and how many painted pixels it hides, from the numbers of what is shown over the background.
use Rattle.std.proofs.Common.{◌≡◌, ◌∙◌, ◌*◌, ◌&&◌, ℕ, List, None, Ok, Option, ap, ap₂, arith, length}
use Rattle.std.proofs.Common.{refl, subst, sym, true}
use Rattle.sixel_grammar.specs.declared.command.Placed.{Placed}
use Rattle.sixel_grammar.specs.Document.{events_of}
use Rattle.sixel_model.specs.declared.colour.Parts.{Parts}
use Rattle.sixel_model.specs.Pictures.{PictureValue, is_side, picture_fault, picture_of_parts}
use Rattle.sixel_ppm.specs.PpmReading.{distinct, palette_of, picture_of}
use Rattle.sixel_ppm.proofs.PpmSampleLemmas.{picture_accepted}
use Rattle.sixel_mend.specs.declared.mending.Mended.{Mended}
use Rattle.sixel_mend.specs.declared.mending.Mending.{Mending}
use Rattle.sixel_mend.specs.Marking.{IsNumbered, over}
use Rattle.sixel_mend.specs.Mended.{Mends, MendsNoting, mended_colours}
use Rattle.sixel_mend.specs.Painted.{hidden_among, hidden_pixels, painted_colours}
use Rattle.sixel_mend.proofs.MendLemmas.{IsMeasured, is_mended}
use Rattle.sixel_mend.proofs.NumberLemmas.{all_seen, length_palette}
use Rattle.sixel_mend.proofs.PaintedLemmas.{shown_over}

-- the parts make a picture
pub numbered_accepted : {count : ℕ} {palette : List (Option Parts)} {registers : List ℕ} {colours : List Parts}
    (width height : ℕ) → IsNumbered count palette registers colours → length colours ≡ width * height
    → (is_side width && is_side height) ≡ true
    → picture_fault (length palette) width height palette registers ≡ None
numbered_accepted {count} {palette} {registers} {colours} width height is whole sides =
    let seen = distinct colours in
    let long : length palette ≡ count =
    ap (λ (p : List (Option Parts)). length p) is.palette_is ∙ length_palette count seen in
    picture_accepted (record { palette = palette; count = length seen }) None 0 registers 0 width height colours
    (record {
      fills = record {
        palette = is.palette_is ∙ ap (λ (n : ℕ). palette_of n seen) (sym long);
        count = refl;
        few = omega (arith, is.few, long);
      };
      knows_last = tt;
      numbered = is.registers_are;
      all_seen = all_seen colours;
      whole = omega (arith, whole);
    }) refl sides

hidden_is : (m : Mending) (placed : List Placed) (w h hidden : ℕ)
    → hidden ≡ hidden_among m.background (painted_colours m (events_of placed) w h)
    → hidden ≡ hidden_pixels m (events_of placed) w h
unfolding hidden_pixels
hidden_is m placed w h hidden is = is

-- they make the mended picture
pub noting : {registers : ℕ} {m : Mending} {bytes : List ℕ} {placed : List Placed} {w h : ℕ}
    {palette : List (Option Parts)} {numbers : List ℕ} (hidden : ℕ) → IsMeasured m bytes placed w h
    → IsNumbered registers palette numbers (over m.background (painted_colours m (events_of placed) w h))
    → hidden ≡ hidden_among m.background (painted_colours m (events_of placed) w h)
    → MendsNoting registers m bytes (Ok (record { picture = picture_of_parts w h palette numbers; hidden = hidden }))
noting {registers} {m} {placed} {w} {h} {palette} {numbers} hidden d numbered is =
    let colours = mended_colours m (events_of placed) w h in
    let n : IsNumbered registers palette numbers colours =
    subst (IsNumbered registers palette numbers) (sym (shown_over m (events_of placed) w h)) numbered in
    let picture : picture_of_parts w h palette numbers ≡ picture_of registers w h colours =
    ap₂ (λ (p : List (Option Parts)) (rs : List ℕ). picture_of_parts w h p rs) n.palette_is n.registers_are in (
      placed,
      d.document,
      (
        w,
        h,
        d.size,
        ap (λ (p : PictureValue). Ok p) picture ∙ is_mended registers m (events_of placed) w h d.sides n.few,
        hidden_is m placed w h hidden is,
      ),
    )

-- without the number it is what mending gives
pub picture_mends : (registers : ℕ) (m : Mending) (bytes : List ℕ) (answer : Mended)
    → MendsNoting registers m bytes (Ok answer) → Mends registers m bytes (Ok answer.picture)
picture_mends registers m bytes answer noted =
    let d = noted.2 in (noted.0, noted.1, (d.0, d.1, d.2, d.3))
