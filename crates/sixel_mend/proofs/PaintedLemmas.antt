-- What is painted doesn't depend on the background, and what is shown is that over the background.
use Rattle.std.proofs.Common.{◌≡◌, ◌*◌, ◌<◌, ◌/◌, ◌%◌, ◌∙◌, ℕ, zero, suc, List, None, Option, ap, arith, get_or}
use Rattle.std.proofs.Common.{length, refl, replicate, sym}
use Rattle.std.specs.Prelude.{unwrap_or}
use Rattle.std.proofs.lemmas.List.{ext_get_or, get_or-map, length-map}
use Rattle.std.proofs.lemmas.Nat.{div-add-mod'}
use Rattle.sixel_grammar.specs.declared.command.Event.{Event}
use Rattle.sixel_model.specs.declared.colour.Parts.{Parts}
use Rattle.sixel_model.specs.declared.colour.Parts.TheVariants.{Rgb}
use Rattle.sixel_model.proofs.GridLemmas.{get_index, length_rows}
use Rattle.sixel_terminal.specs.Drawing.{height_of, is_kept_on, is_seen_on, map_on, paints_on, screen_on, selected_on}
use Rattle.sixel_terminal.specs.Drawing.{shown_on, stood_on, touches_on}
use Rattle.sixel_mend.specs.declared.mending.Mending.{Mending}
use Rattle.sixel_mend.specs.Marking.{over}
use Rattle.sixel_mend.specs.Mended.{mended_colours}
use Rattle.sixel_mend.specs.Painted.{painted_at, painted_colours}
use Rattle.sixel_mend.specs.Screens.{mending_terminal}

-- the same is painted over each background
pub painted_same : (m : Mending) (background : Parts) (events : List Event) (w h : ℕ)
    → painted_colours (record m { background = background }) events w h ≡ painted_colours m events w h
unfolding painted_colours paints_on is_seen_on is_kept_on touches_on height_of selected_on map_on
painted_same m background events w h = refl

get_or-replicate : {X : Type 0} (n : ℕ) (x : X) (i : ℕ) (d : X) → i < n → get_or (replicate n x) i d ≡ x
get_or-replicate zero x i d lt = absurd (omega arith)
get_or-replicate (suc n) x zero d lt = refl
get_or-replicate (suc n) x (suc i) d lt = get_or-replicate n x i d (omega (arith, lt))

-- before the events each pixel has the background's colour
stood_plain : (m : Mending) (w h i : ℕ) → i < w * h → stood_on (mending_terminal m w h) (i % w) (i / w) ≡ m.background
stood_plain m w h i lt =
    ap (λ (n : ℕ). get_or (replicate (w * h) m.background) n (Rgb 0 0 0)) (div-add-mod' i w)
    ∙ get_or-replicate (w * h) m.background i (Rgb 0 0 0) lt

shown_plain : (m : Mending) (events : List Event) (w h i : ℕ) → i < w * h
    → shown_on (mending_terminal m w h) events (i % w) (i / w)
    ≡ unwrap_or (painted_at m events w h (i % w) (i / w)) m.background
unfolding shown_on
shown_plain m events w h i lt =
    ap (λ (c : Parts). unwrap_or (painted_at m events w h (i % w) (i / w)) c) (stood_plain m w h i lt)

pub length_painted : (m : Mending) (events : List Event) (w h : ℕ) → length (painted_colours m events w h) ≡ w * h
unfolding painted_colours
length_painted m events w h = length_rows w h (painted_at m events w h)

painted_index : (m : Mending) (events : List Event) (w h i : ℕ) → i < w * h
    → get_or (painted_colours m events w h) i None ≡ painted_at m events w h (i % w) (i / w)
unfolding painted_colours
painted_index m events w h i lt = get_index w h (painted_at m events w h) i None lt

length_shown : (m : Mending) (events : List Event) (w h : ℕ) → length (mended_colours m events w h) ≡ w * h
unfolding screen_on
length_shown m events w h = length_rows w h (shown_on (mending_terminal m w h) events)

shown_index : (m : Mending) (events : List Event) (w h i : ℕ) → i < w * h
    → get_or (mended_colours m events w h) i m.background
    ≡ unwrap_or (painted_at m events w h (i % w) (i / w)) m.background
unfolding screen_on
shown_index m events w h i lt =
    get_index w h (shown_on (mending_terminal m w h) events) i m.background lt ∙ shown_plain m events w h i lt

-- what the terminal shows is what is painted, over the background
pub shown_over : (m : Mending) (events : List Event) (w h : ℕ)
    → mended_colours m events w h ≡ over m.background (painted_colours m events w h)
shown_over m events w h =
    let painted = painted_colours m events w h in
    let whole : length painted ≡ w * h = length_painted m events w h in
    let long : length (mended_colours m events w h) ≡ w * h = length_shown m events w h in
    ext_get_or m.background (mended_colours m events w h) (over m.background painted)
    (long ∙ sym whole ∙ sym (length-map painted (λ (o : Option Parts). unwrap_or o m.background)))
    (λ i lt.
    let below : i < w * h = omega (arith, lt, long) in
    shown_index m events w h i below
    ∙ ap (λ (o : Option Parts). unwrap_or o m.background) (sym (painted_index m events w h i below))
    ∙ sym (get_or-map (λ (o : Option Parts). unwrap_or o m.background) painted i None m.background
    (omega (arith, below, whole))))
