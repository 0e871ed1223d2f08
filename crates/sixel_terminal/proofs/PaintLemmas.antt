-- Painting the pixels of a screen.
use Rattle.std.proofs.Common.{◌≡◌, ◌==◌, ℕ, ◌+◌, ◌-◌, ◌*◌, ◌/◌, ◌%◌, ◌<◌, Bool, true, false, ◌&&◌, cond, List, length}
use Rattle.std.proofs.Common.{get_or, min, nat_le, nat_lt, refl, sym, ap, ap₂, ◌∙◌, arith}
use Rattle.std.specs.Int.{bit_at}
use Rattle.std.proofs.Math.Bool.{and_assoc}
use Rattle.std.proofs.lemmas.Bool.Decides.{nat_tests}
use Rattle.std.proofs.lemmas.Nat.{div_below, mod_below}
use Rattle.sixel_model.specs.Geometry.{covers}
use Rattle.sixel_model.specs.Positions.{any_below}
use Rattle.sixel_model.proofs.PaintLemmas.{IsPaintedBelow, bit_covers, bit_rows, painted_more}
use Rattle.std.specs.Prelude.{None, Some, unwrap_or, if◌then◌else◌}
use Rattle.std.specs.Bool.{then_some}
use Rattle.std.specs.Option.{option_map}
use Rattle.sixel_grammar.specs.declared.command.Command.{Command}
use Rattle.sixel_grammar.specs.declared.command.Command.TheVariants.{Sixel, Repeat, Raster, Select, Define}
use Rattle.sixel_grammar.specs.declared.command.Command.TheVariants.{CarriageReturn, NextLine}
use Rattle.sixel_grammar.specs.declared.command.Event.{Event}
use Rattle.sixel_grammar.specs.declared.command.Event.TheVariants.{Step}
use Rattle.sixel_model.specs.declared.colour.Parts.{Parts}
use Rattle.sixel_model.specs.Events.{bits_of, columns_of, raster_of}
use Rattle.sixel_terminal.specs.declared.choices.Ground.{Ground}
use Rattle.sixel_terminal.specs.declared.choices.Ground.TheVariants.{Kept, Filled}
use Rattle.sixel_terminal.specs.Drawing.{filled_on}
use Rattle.sixel_terminal.specs.declared.pixel.Ink.{Ink}
use Rattle.sixel_terminal.specs.declared.canvas.Span.{Span}
use Rattle.sixel_terminal.specs.declared.pen.Pen.{Pen}
use Rattle.sixel_terminal.specs.Canvases.{black, is_in_span, span_of}
use Rattle.sixel_terminal.specs.Displays.{Display}
use Rattle.sixel_terminal.specs.Steps.{bottom_edge, ink_after_event, ink_by_colours, is_before_edges, is_from_origin}
use Rattle.sixel_terminal.specs.Steps.{pen_covers, right_edge}

-- the pixels of a span before an edge, from the origin
span_from : (o l c edge x : ℕ)
    → is_in_span (span_of (o + l) c edge) x
    ≡ ((nat_le o x && nat_lt x edge) && (nat_le l (x - o) && nat_lt (x - o) (l + c)))
span_from o l c edge x = grind (arith, nat_tests)

-- the same for a span that begins at the origin
span_at : (o c w x : ℕ) → x < w → is_in_span (span_of o c w) x ≡ (nat_le o x && nat_lt (x - o) c)
span_at o c w x lt = grind (arith, nat_tests)

and_cross : (a b p q : Bool) → ((a && p) && (b && q)) ≡ ((a && b) && (p && q))
and_cross true true p q = refl
and_cross true false true q = refl
and_cross true false false q = refl
and_cross false b p q = refl

-- moves a middle test to the end
and_last : (f e c r : Bool) → ((f && e) && (c && r)) ≡ (f && ((c && r) && e))
and_last true true true r = bool_cases r
  where
    bool_cases : (r : Bool) → r ≡ (r && true)
    bool_cases true = refl
    bool_cases false = refl
and_last true true false r = refl
and_last true false true r = none r
  where
    none : (r : Bool) → false ≡ (r && false)
    none true = refl
    none false = refl
and_last true false false r = refl
and_last false e c r = refl

pub box_pixel : (t : Display) (width height x y : ℕ) → x < t.choices.screen_width → y < t.choices.screen_height
    → (is_in_span (span_of t.choices.origin_x width t.choices.screen_width) x
    && is_in_span (span_of t.choices.origin_y height t.choices.screen_height) y)
    ≡ (is_from_origin t x y && (nat_lt (x - t.choices.origin_x) width && nat_lt (y - t.choices.origin_y) height))
box_pixel t width height x y p q =
    ap₂ (λ a b. a && b) (span_at t.choices.origin_x width t.choices.screen_width x p)
    (span_at t.choices.origin_y height t.choices.screen_height y q)
    ∙ and_cross (nat_le t.choices.origin_x x) (nat_le t.choices.origin_y y)
    (nat_lt (x - t.choices.origin_x) width) (nat_lt (y - t.choices.origin_y) height)

-- the pixels of a box at the origin are what f makes of them
pub box_pixels : (t : Display) (width height : ℕ) (columns rows : Span) (f : Ink → Ink) (old new : List Ink)
    → length old ≡ t.choices.screen_width * t.choices.screen_height → 0 < t.choices.screen_width
    → columns ≡ span_of t.choices.origin_x width t.choices.screen_width
    → rows ≡ span_of t.choices.origin_y height t.choices.screen_height
    → ((i : ℕ) → i < length old
    → get_or new i black
    ≡ cond (is_in_span columns (i % t.choices.screen_width) && is_in_span rows (i / t.choices.screen_width))
    (f (get_or old i black)) (get_or old i black))
    → (i : ℕ) → i < length old
    → get_or new i black
    ≡ cond (is_from_origin t (i % t.choices.screen_width) (i / t.choices.screen_width)
    && (nat_lt (i % t.choices.screen_width - t.choices.origin_x) width
    && nat_lt (i / t.choices.screen_width - t.choices.origin_y) height)) (f (get_or old i black)) (get_or old i black)
box_pixels t width height columns rows f old new whole some across down filled i lt =
    let in_width = mod_below i t.choices.screen_width some in
    let in_height = div_below i t.choices.screen_width t.choices.screen_height some (omega (arith, whole, lt)) in
    filled i lt
    ∙ ap (λ (v : Bool). cond v (f (get_or old i black)) (get_or old i black))
    (rw (across, down)
    (box_pixel t width height (i % t.choices.screen_width) (i / t.choices.screen_width) in_width in_height))

-- the pixels of the screen after painting the bits below n
abbrev pub IsInkedBelow : ℕ → Display → Pen → ℕ → ℕ → Ink → List Ink → List Ink → Type 0
IsInkedBelow n t p count bits ink old new =
    IsPaintedBelow n p.band p.height bits
    (λ i. (is_from_origin t (i % t.choices.screen_width) (i / t.choices.screen_width)
    && is_before_edges t p.declared (i % t.choices.screen_width) (i / t.choices.screen_width))
    && (nat_le p.column (i % t.choices.screen_width - t.choices.origin_x)
    && nat_lt (i % t.choices.screen_width - t.choices.origin_x) (p.column + count)))
    (λ i. i / t.choices.screen_width - t.choices.origin_y) ink black old new

-- one more bit, which is set
pub inked_more : (k : ℕ) (t : Display) (p : Pen) (count bits : ℕ) (ink : Ink) (columns rows : Span)
    (old mid new : List Ink)
    → columns ≡ span_of (t.choices.origin_x + p.column) count (right_edge t p.declared)
    → rows ≡ span_of (t.choices.origin_y + (6 * p.band + k) * p.height) p.height (bottom_edge t p.declared)
    → (bit_at bits k == 1) ≡ true → IsInkedBelow k t p count bits ink old mid → length new ≡ length mid
    → ((i : ℕ) → i < length mid
    → get_or new i black
    ≡ cond (is_in_span columns (i % t.choices.screen_width) && is_in_span rows (i / t.choices.screen_width)) ink
    (get_or mid i black))
    → IsInkedBelow (k + 1) t p count bits ink old new
inked_more k t p count bits ink columns rows old mid new across down set before long filled =
    painted_more k p.band p.height bits _ _ ink black old mid new set before long (λ i lt.
    let x = i % t.choices.screen_width in
    let y = i / t.choices.screen_width in
    let px = x - t.choices.origin_x in
    let a = nat_le t.choices.origin_x x && nat_lt x (right_edge t p.declared) in
    let b = nat_le t.choices.origin_y y && nat_lt y (bottom_edge t p.declared) in
    let c = nat_le p.column px && nat_lt px (p.column + count) in
    let r = bit_rows p.band p.height (y - t.choices.origin_y) k in
    let here : (is_in_span columns x && is_in_span rows y) ≡ ((a && c) && (b && r)) =
    rw (across, down) (ap₂ (λ v w. v && w)
    (span_from t.choices.origin_x p.column count (right_edge t p.declared) x)
    (span_from t.choices.origin_y ((6 * p.band + k) * p.height) p.height (bottom_edge t p.declared) y)) in
    let edges : (a && b) ≡ (is_from_origin t x y && is_before_edges t p.declared x y) =
    and_cross (nat_le t.choices.origin_x x) (nat_le t.choices.origin_y y) (nat_lt x (right_edge t p.declared))
    (nat_lt y (bottom_edge t p.declared)) in
    filled i lt
    ∙ ap (λ (v : Bool). cond v ink (get_or mid i black))
    (here ∙ and_cross a b c r ∙ ap (λ (v : Bool). v && (c && r)) edges
    ∙ sym (and_assoc (is_from_origin t x y && is_before_edges t p.declared x y) c r)))

-- all six bits
pub inked_all : (t : Display) (p : Pen) (count bits : ℕ) (ink : Ink) (old new : List Ink)
    → IsInkedBelow 6 t p count bits ink old new → (i : ℕ) → i < length old
    → get_or new i black
    ≡ cond (pen_covers t p count bits (i % t.choices.screen_width) (i / t.choices.screen_width)) ink
    (get_or old i black)
unfolding covers
inked_all t p count bits ink old new painted i lt =
    let x = i % t.choices.screen_width in
    let y = i / t.choices.screen_width in
    let px = x - t.choices.origin_x in
    let py = y - t.choices.origin_y in
    painted.pixels i lt
    ∙ ap (λ (v : Bool). cond v ink (get_or old i black))
    (and_assoc (is_from_origin t x y && is_before_edges t p.declared x y)
    (nat_le p.column px && nat_lt px (p.column + count)) (any_below 6 (bit_covers p.band p.height bits py))
    ∙ and_last (is_from_origin t x y) (is_before_edges t p.declared x y)
    (nat_le p.column px && nat_lt px (p.column + count)) (any_below 6 (bit_covers p.band p.height bits py)))

empty_across : (o l c edge x : ℕ) → min (o + l) edge ≡ min (o + l + c) edge
    → ((nat_le o x && nat_lt x edge) && (nat_le l (x - o) && nat_lt (x - o) (l + c))) ≡ false
empty_across o l c edge x empty = grind (arith, nat_tests)

-- if the columns, the origin or the edge across exclude a pixel, all tests together do
and_first : (a b e f c d : Bool) → ((a && e) && c) ≡ false → ((a && b) && ((c && d) && (e && f))) ≡ false
and_first true true true f true d h = cc
and_first true true true f false d h = refl
and_first true true false f true true h = refl
and_first true true false f true false h = refl
and_first true true false f false d h = refl
and_first true false e f c d h = refl
and_first false b e f c d h = refl

-- a pen with no column before the edge paints nothing
pub off_screen : (t : Display) (p : Pen) (count bits : ℕ) (columns : Span) (ink : Ink) (xs : List Ink)
    → columns ≡ span_of (t.choices.origin_x + p.column) count (right_edge t p.declared)
    → columns.start ≡ columns.end
    → (i : ℕ) → i < length xs
    → get_or xs i black
    ≡ cond (pen_covers t p count bits (i % t.choices.screen_width) (i / t.choices.screen_width)) ink (get_or xs i black)
unfolding covers
off_screen t p count bits columns ink xs across empty i lt =
    let x = i % t.choices.screen_width in
    let ends : min (t.choices.origin_x + p.column) (right_edge t p.declared)
    ≡ min (t.choices.origin_x + p.column + count) (right_edge t p.declared) = rw across at empty in
    let none = empty_across t.choices.origin_x p.column count (right_edge t p.declared) x ends in
    let px = x - t.choices.origin_x in
    let y = i / t.choices.screen_width in
    ap (λ (v : Bool). cond v ink (get_or xs i black))
    (sym (and_first (nat_le t.choices.origin_x x) (nat_le t.choices.origin_y y)
    (nat_lt x (right_edge t p.declared)) (nat_lt y (bottom_edge t p.declared))
    (nat_le p.column px && nat_lt px (p.column + count))
    (any_below 6 (bit_covers p.band p.height bits (y - t.choices.origin_y))) none))

pub no_columns : (l line rows bits x y : ℕ) → covers l 0 line rows bits x y ≡ false
unfolding covers
no_columns l line rows bits x y = rw (outside l x) refl
  where
    outside : (l x : ℕ) → (nat_le l x && nat_lt x (l + 0)) ≡ false
    outside l x = grind (arith, nat_tests)

pixel : (from inside : Bool) (f : ℕ → Ink) (register : ℕ) (ink : Ink)
    → cond (from && inside) (f register) ink
    ≡ unwrap_or (option_map f (if from then then_some inside register else None)) ink
pixel true true f register ink = refl
pixel true false f register ink = refl
pixel false inside f register ink = refl

nothing : (from : Bool) (f : ℕ → Ink) (ink : Ink) → ink ≡ unwrap_or (option_map f (if from then None else None)) ink
nothing true f ink = refl
nothing false f ink = refl

-- what raster attributes fill
pub filled_pixel : (t : Display) (p : Pen) (colours : List Parts) (pan pad width height register x y : ℕ) (ink : Ink)
    → t.choices.ground ≡ Filled register
    → cond (is_from_origin t x y && (nat_lt (x - t.choices.origin_x) width && nat_lt (y - t.choices.origin_y) height))
    (ink_by_colours t colours register) ink
    ≡ ink_after_event t p colours (Step (Raster pan pad width height)) x y ink
filled_pixel t p colours pan pad width height register x y ink ground =
    rw (ground, no_columns p.column p.band p.height 0 (x - t.choices.origin_x) (y - t.choices.origin_y))
    (pixel (is_from_origin t x y) (nat_lt (x - t.choices.origin_x) width && nat_lt (y - t.choices.origin_y) height)
    (ink_by_colours t colours) register ink)

pub none_filled : (g : Ground) (e : Event) (x y : ℕ) → raster_of e ≡ None → filled_on g e x y ≡ None
none_filled Kept e x y none = refl
none_filled (Filled register) e x y none = rw none refl

drawn : (from inside : Bool) (f : ℕ → Ink) (register : ℕ) (ink : Ink)
    → cond (from && inside) (f register) ink
    ≡ unwrap_or (option_map f (if from then (if inside then Some register else None) else None)) ink
drawn true true f register ink = refl
drawn true false f register ink = refl
drawn false inside f register ink = refl

-- what a data command paints
pub data_pixel : (t : Display) (p : Pen) (colours : List Parts) (command : Command) (x y : ℕ) (ink : Ink)
    → raster_of (Step command) ≡ None
    → cond (pen_covers t p (columns_of t.choices.zero (Step command)) (bits_of (Step command)) x y)
    (ink_by_colours t colours p.selected) ink
    ≡ ink_after_event t p colours (Step command) x y ink
data_pixel t p colours command x y ink none =
    rw (none_filled t.choices.ground (Step command) (x - t.choices.origin_x) (y - t.choices.origin_y) none)
    (drawn (is_from_origin t x y)
    (covers p.column (columns_of t.choices.zero (Step command)) p.band p.height (bits_of (Step command))
    (x - t.choices.origin_x) (y - t.choices.origin_y)
    && is_before_edges t p.declared x y) (ink_by_colours t colours) p.selected ink)

-- an event that is neither a data command nor raster attributes paints nothing
pub unpainted_pixel : (t : Display) (p : Pen) (colours : List Parts) (e : Event) (x y : ℕ) (ink : Ink)
    → columns_of t.choices.zero e ≡ 0
    → filled_on t.choices.ground e (x - t.choices.origin_x) (y - t.choices.origin_y) ≡ None
    → ink ≡ ink_after_event t p colours e x y ink
unpainted_pixel t p colours e x y ink none unfilled =
    rw (
      none,
      unfilled,
      no_columns p.column p.band p.height (bits_of e) (x - t.choices.origin_x) (y - t.choices.origin_y),
    )
    (nothing (is_from_origin t x y) (ink_by_colours t colours) ink)

-- raster attributes whose ground is kept
pub kept_pixel : (t : Display) (p : Pen) (colours : List Parts) (pan pad width height x y : ℕ) (ink : Ink)
    → t.choices.ground ≡ Kept → ink ≡ ink_after_event t p colours (Step (Raster pan pad width height)) x y ink
kept_pixel t p colours pan pad width height x y ink ground =
    unpainted_pixel t p colours (Step (Raster pan pad width height)) x y ink refl (rw ground refl)

-- a command that is neither a data command nor raster attributes
pub other_pixel : (t : Display) (p : Pen) (colours : List Parts) (command : Command) (x y : ℕ) (ink : Ink)
    → ((bits : ℕ) → command ≡ Sixel bits → ⊥) → ((count bits : ℕ) → command ≡ Repeat count bits → ⊥)
    → ((pan pad width height : ℕ) → command ≡ Raster pan pad width height → ⊥)
    → ink ≡ ink_after_event t p colours (Step command) x y ink
other_pixel t p colours (Sixel bits) x y ink no_sixel no_repeat no_raster = absurd (no_sixel bits refl)
other_pixel t p colours (Repeat count bits) x y ink no_sixel no_repeat no_raster = absurd (no_repeat count bits refl)
other_pixel t p colours (Raster a b c d) x y ink no_sixel no_repeat no_raster = absurd (no_raster a b c d refl)
other_pixel t p colours (Select r) x y ink no_sixel no_repeat no_raster =
    unpainted_pixel t p colours (Step (Select r)) x y ink refl (none_filled t.choices.ground _ _ _ refl)
other_pixel t p colours (Define r s a b c) x y ink no_sixel no_repeat no_raster =
    unpainted_pixel t p colours (Step (Define r s a b c)) x y ink refl (none_filled t.choices.ground _ _ _ refl)
other_pixel t p colours CarriageReturn x y ink no_sixel no_repeat no_raster =
    unpainted_pixel t p colours (Step CarriageReturn) x y ink refl (none_filled t.choices.ground _ _ _ refl)
other_pixel t p colours NextLine x y ink no_sixel no_repeat no_raster =
    unpainted_pixel t p colours (Step NextLine) x y ink refl (none_filled t.choices.ground _ _ _ refl)
