-- A screen that was drawn over a mark.
use Rattle.std.proofs.Common.{◌≡◌, ◌<◌, ◌≤◌, ◌*◌, ◌&&◌, ◌^◌, ◌∙◌, ℕ, List, ap, arith, false, length, map}
use Rattle.std.proofs.Common.{sym, true}
use Rattle.std.specs.List.{list_any}
use Rattle.std.proofs.Math.Nat.{mul-le-mul_right}
use Rattle.std.proofs.lemmas.List.{length-map}
use Rattle.sixel_grammar.specs.declared.command.Event.{Event}
use Rattle.sixel_grammar.specs.declared.command.Placed.{Placed}
use Rattle.sixel_grammar.specs.Document.{Document, events_of}
use Rattle.sixel_grammar.proofs.UniqueLemmas.{document_once}
use Rattle.sixel_model.specs.declared.colour.Parts.{Parts}
use Rattle.sixel_model.specs.Colours.{is_same}
use Rattle.sixel_model.specs.Pictures.{is_side}
use Rattle.sixel_terminal.specs.declared.pixel.Ink.{Ink}
use Rattle.sixel_terminal.specs.Screens.{colour_in_ink}
use Rattle.sixel_mend.specs.declared.extent.Extent.{Extent}
use Rattle.sixel_mend.specs.declared.mending.Mending.{Mending}
use Rattle.sixel_mend.specs.Marking.{IsMarked, IsMarkedScreen, is_hls, over}
use Rattle.sixel_mend.specs.Measures.{Measures, defines_hls}
use Rattle.sixel_mend.specs.Mended.{mended_colours}
use Rattle.sixel_mend.specs.Painted.{painted_colours}
use Rattle.sixel_mend.proofs.MendLemmas.{IsMeasured, few_sides, measured}
use Rattle.sixel_mend.proofs.PaintedLemmas.{length_painted, painted_same, shown_over}
use Rattle.sixel_mend.proofs.RgbLemmas.{none_in_hls}

-- ---- its colours

pub marked_colours : (m : Mending) (mark : Parts) (events : List Event) (w h : ℕ)
    → mended_colours (record m { background = mark }) events w h ≡ over mark (painted_colours m events w h)
marked_colours m mark events w h =
    shown_over (record m { background = mark }) events w h ∙ ap (over mark) (painted_same m mark events w h)

pub is_marked : {extent : Extent} {mark : Parts} {bytes : List ℕ} {first placed : List Placed} {colours : List Parts}
    (m : Mending) (w h : ℕ) → is_hls mark ≡ true → Document first bytes → Measures extent (events_of first)
    → Document placed bytes → colours ≡ mended_colours (record m { background = mark }) (events_of placed) w h
    → IsMarked mark extent.has_hls (painted_colours m (events_of placed) w h) colours
is_marked {extent} {mark} {bytes} {first} {placed} m w h hls doc measures again is =
    let known : extent.has_hls ≡ list_any defines_hls (events_of placed) =
    measures.has_hls_is
    ∙ ap (λ (ps : List Placed). list_any defines_hls (events_of ps)) (document_once bytes first placed doc again) in
    record {
      colours_are = is ∙ marked_colours m mark (events_of placed) w h;
      unpainted = λ none. none_in_hls mark m (events_of placed) w h hls (sym known ∙ none);
    }

pub marked_screen : {bytes : List ℕ} {placed : List Placed} {colours : List Parts} {w h : ℕ} (m : Mending)
    (mark : Parts) → is_same mark m.background ≡ false → IsMeasured m bytes placed w h
    → colours ≡ mended_colours (record m { background = mark }) (events_of placed) w h
    → IsMarkedScreen m bytes w h colours
marked_screen {placed} {w} {h} m mark other d is = record {
  mark = mark;
  other = other;
  events = placed;
  document = d.document;
  size = d.size;
  colours_are = is ∙ marked_colours m mark (events_of placed) w h;
}

-- the same for another reading of the bytes
pub marked_again : {m : Mending} {bytes : List ℕ} {colours : List Parts} {w h : ℕ} (placed : List Placed)
    (s : IsMarkedScreen m bytes w h colours) → Document placed bytes
    → colours ≡ over s.mark (painted_colours m (events_of placed) w h)
marked_again {m} {bytes} {w} {h} placed s doc =
    s.colours_are
    ∙ ap (λ (ps : List Placed). over s.mark (painted_colours m (events_of ps) w h))
    (document_once bytes s.events placed s.document doc)

pub measured_marked : {m : Mending} {bytes : List ℕ} {colours : List Parts} {w h : ℕ} (placed : List Placed)
    → IsMarkedScreen m bytes w h colours → (is_side w && is_side h) ≡ true → Document placed bytes
    → IsMeasured m bytes placed w h
measured_marked {m} {bytes} {w} {h} placed s sides doc =
    measured m bytes w h s.events placed s.document s.size sides doc

-- ---- how many pixels it has

pub length_over : (m : Mending) (events : List Event) (w h : ℕ) (background : Parts)
    → length (over background (painted_colours m events w h)) ≡ w * h
length_over m events w h background = length-map (painted_colours m events w h) _ ∙ length_painted m events w h

pub pixels_of : (m : Mending) (pixels : List Ink) (events : List Event) (w h : ℕ) (background : Parts)
    → map colour_in_ink pixels ≡ over background (painted_colours m events w h) → length pixels ≡ w * h
pixels_of m pixels events w h background is =
    sym (length-map pixels colour_in_ink) ∙ ap (λ (cs : List Parts). length cs) is
    ∙ length_over m events w h background

pub few_pixels : (w h n : ℕ) → (is_side w && is_side h) ≡ true → n ≡ w * h → n < 2 ^ 32
few_pixels w h n sides is =
    let few = few_sides w h sides in
    let across : w * h ≤ 2048 * h = mul-le-mul_right h few.0 in
    omega (arith, across, few.1, is)
