-- Drawings: one more event, and the screen at the end.
use Rattle.std.proofs.Common.{◌≡◌, ℕ, zero, suc, ◌+◌, ◌*◌, ◌%◌, ◌<◌, Bool, true, false, ◌||◌, List, [], ◌∷◌, ◌++◌}
use Rattle.std.proofs.Common.{length, replicate, take, drop, set, get_or, map, refl, sym, ap, ap₂, ◌∙◌, add-one, arith}
use Rattle.std.specs.Prelude.{if◌then◌else◌, unwrap_or}
use Rattle.std.specs.List.{list_any}
use Rattle.std.specs.Option.{option_map}
use Rattle.std.proofs.lemmas.List.{ext_get_or, get_or-map, length-map, length-replicate}
use Rattle.std.proofs.lemmas.List.Folds.{list_any-append}
use Rattle.std.proofs.lemmas.Nat.{mod_below}
use Rattle.std.proofs.Math.Nat.{mod-eq_of_lt}
use Rattle.sixel_grammar.specs.declared.command.Event.{Event}
use Rattle.sixel_model.specs.declared.colour.Parts.{Parts}
use Rattle.sixel_model.specs.declared.colour.Parts.TheVariants.{Rgb}
use Rattle.sixel_model.specs.Events.{is_eight_bit}
use Rattle.sixel_model.specs.Positions.{last_at}
use Rattle.sixel_terminal.specs.declared.pen.Pen.{Pen}
use Rattle.sixel_terminal.specs.declared.pixel.Ink.{Ink}
use Rattle.sixel_terminal.specs.declared.pixel.Ink.TheVariants.{Fixed, Bound}
use Rattle.sixel_terminal.specs.Canvases.{black}
use Rattle.sixel_terminal.specs.Displays.{Display, registers_of}
use Rattle.sixel_terminal.specs.Drawing.{is_seen_on, map_on, paints_on, screen_on}
use Rattle.sixel_terminal.specs.Drawings.{Drawn, HasDrawn}
use Rattle.sixel_terminal.specs.Screens.{IsAllFixed, colour_in_ink}
use Rattle.sixel_terminal.specs.Standing.{IsInkBelow, StandsAfter, ink_at_point, ink_in_register, inked_by, shown_in}
use Rattle.sixel_terminal.proofs.InkLemmas.{map_same, paints_below}
use Rattle.sixel_terminal.proofs.RunLemmas.{Runs}
use Rattle.sixel_terminal.proofs.ShownLemmas.{all_shown, map_last, map_map, unseen_screen, unwrap_map}

-- ---- loops over pixels

laid_at : {A B : Type 0} (f : A → B) (xs : List A) (old : List B) (i : ℕ) (x d : A) → i < length xs
    → length old ≡ length xs → x ≡ get_or xs i d
    → set (map f (take i xs) ++ drop i old) i (f x) ≡ map f (take (suc i) xs) ++ drop (suc i) old
laid_at f [] old i x d lt same is = absurd (omega arith)
laid_at f (a ∷ xs) [] i x d lt same is = absurd (omega (arith, same))
laid_at f (a ∷ xs) (b ∷ old) zero x d lt same is = ap (λ c. f c ∷ old) is
laid_at f (a ∷ xs) (b ∷ old) (suc i) x d lt same is =
    ap (λ (ys : List _). f a ∷ ys) (laid_at f xs old i x d (omega (arith, lt)) (omega (arith, same)) is)

-- a loop that writes f of each element of xs over a list
pub laid_more : {A B : Type 0} (f : A → B) (xs : List A) (old ys : List B) (i : ℕ) (x d : A) → i < length xs
    → length old ≡ length xs → ys ≡ map f (take i xs) ++ drop i old → x ≡ get_or xs i d
    → set ys i (f x) ≡ map f (take (i + 1) xs) ++ drop (i + 1) old
laid_more f xs old ys i x d lt same before is = rw (before, add-one) (laid_at f xs old i x d lt same is)

get_or-same : {A : Type 0} (n : ℕ) (a : A) (i : ℕ) → get_or (replicate n a) i a ≡ a
get_or-same zero a i = refl
get_or-same (suc n) a zero = refl
get_or-same (suc n) a (suc i) = get_or-same n a i

-- pixels that all have the colour of a plain screen
pub laid_plain : (n : ℕ) (colour : Parts) (inks : List Ink) → length inks ≡ n
    → ((i : ℕ) → i < length inks → get_or inks i black ≡ Fixed colour)
    → inks ≡ map (λ c. Fixed c) (replicate n colour)
laid_plain n colour inks long each =
    ext_get_or black inks (map (λ c. Fixed c) (replicate n colour))
    (long ∙ sym (length-map (replicate n colour) (λ c. Fixed c) ∙ length-replicate n colour))
    (λ i lt.
    each i lt
    ∙ sym (get_or-map (λ c. Fixed c) (replicate n colour) i colour black
    (omega (arith, lt, long, length-replicate n colour))
    ∙ ap (λ c. Fixed c) (get_or-same n colour i)))

-- the pixels of a plain screen
pub plain_inks : (n : ℕ) (colour : Parts) → replicate n (Fixed colour) ≡ map (λ c. Fixed c) (replicate n colour)
plain_inks zero colour = refl
plain_inks (suc n) colour = ap (λ (inks : List Ink). Fixed colour ∷ inks) (plain_inks n colour)

-- ---- one more event

pub drawn_push : (d : Drawn) (before : List Event) (e : Event) (p : Pen) (colours : List Parts) (inks : List Ink)
    (bit : Bool) → HasDrawn d before → StandsAfter d.terminal (before ++ e ∷ []) p colours inks
    → bit ≡ is_eight_bit e
    → HasDrawn (record {
      terminal = d.terminal;
      pen = p;
      colours = colours;
      inks = inks;
      has_eight_bit = d.has_eight_bit || bit;
    }) (before ++ e ∷ [])
drawn_push d before e p colours inks bit drawn stands is = record {
  stands = stands;
  controls =
      ap₂ (λ v w. v || w) drawn.controls (is ∙ sym (or_none (is_eight_bit e)))
      ∙ sym (list_any-append is_eight_bit before (e ∷ []));
}
  where
    or_none : (b : Bool) → (b || false) ≡ b
    or_none true = refl
    or_none false = refl

-- ---- the end

pub all_fixed : {A : Type 0} (f : A → Parts) (xs : List A) (a : A) → IsAllFixed (map (λ x. Fixed (f x)) xs)
all_fixed f xs a k d lt =
    rw (get_or-map (λ x. Fixed (f x)) xs k a d (omega (arith, lt, length-map xs (λ x. Fixed (f x))))) tt

same_map : {A B : Type 0} (f g : A → B) (xs : List A) (d : A)
    → ((i : ℕ) → i < length xs → f (get_or xs i d) ≡ g (get_or xs i d)) → map f xs ≡ map g xs
same_map f g [] d each = refl
same_map f g (x ∷ xs) d each =
    ap₂ (λ (y : _) (ys : List _). y ∷ ys) (each 0 (omega arith))
    (same_map f g xs d (λ i lt. each (suc i) (omega (arith, lt))))

colours_back : {A : Type 0} (f : A → Parts) (xs : List A) → map colour_in_ink (map (λ x. Fixed (f x)) xs) ≡ map f xs
colours_back f [] = refl
colours_back f (x ∷ xs) = ap (λ (ys : List _). f x ∷ ys) (colours_back f xs)

-- the ink of its own colour, for an ink that is no register
abbrev fixed_again : Ink → Ink
fixed_again ink = Fixed (colour_in_ink ink)

ink_again : (binds : Bool) (t : Display) (before : List Event) (r : ℕ) → binds ≡ false
    → fixed_again (if binds then Bound r else Fixed (map_on t before r))
    ≡ (if binds then Bound r else Fixed (map_on t before r))
ink_again true t before r plain = cc
ink_again false t before r plain = refl

painted_again : (t : Display) (x y : ℕ) (before : List Event) (e : Event) → t.choices.binds_at_showing ≡ false
    → option_map fixed_again (inked_by t x y before e) ≡ inked_by t x y before e
painted_again t x y before e plain =
    map_map fixed_again (ink_in_register t before) (paints_on t before e x y)
    ∙ map_same _ _ (paints_on t before e x y)
    (λ r h. ink_again t.choices.binds_at_showing t before r plain)

point_again : (t : Display) (events : List Event) (x y : ℕ) → t.choices.binds_at_showing ≡ false
    → fixed_again (ink_at_point t events x y) ≡ ink_at_point t events x y
unfolding ink_at_point
point_again t events x y plain =
    unwrap_map fixed_again (last_at (inked_by t x y) events) _
    ∙ ap (λ o. unwrap_or o (Fixed (get_or t.screen (y * t.choices.screen_width + x) (Rgb 0 0 0))))
    (map_last fixed_again (inked_by t x y) (inked_by t x y) events (λ before e. painted_again t x y before e plain))

-- a terminal that binds at painting has no register as ink
pixel_again : (t : Display) (events : List Event) (p : Pen) (colours : List Parts) (inks : List Ink) (i : ℕ)
    → t.choices.binds_at_showing ≡ false → StandsAfter t events p colours inks → i < length inks
    → fixed_again (get_or inks i black) ≡ get_or inks i black
pixel_again t events p colours inks i plain s lt =
    let below : i < t.choices.screen_width * t.choices.screen_height = omega (arith, lt, s.pixels) in
    ap fixed_again (s.inks_are i below) ∙ point_again t events _ _ plain ∙ sym (s.inks_are i below)

pub painted_fixed : (t : Display) (events : List Event) (p : Pen) (colours : List Parts) (inks : List Ink)
    → t.choices.binds_at_showing ≡ false → StandsAfter t events p colours inks → IsAllFixed inks
painted_fixed t events p colours inks plain s k d lt =
    rw (default_is inks k d lt, sym (pixel_again t events p colours inks k plain s lt)) tt
  where
    default_is : (xs : List Ink) (k : ℕ) (d : Ink) → k < length xs → get_or xs k d ≡ get_or xs k black
    default_is [] k d lt = absurd (omega arith)
    default_is (x ∷ xs) zero d lt = refl
    default_is (x ∷ xs) (suc k) d lt = default_is xs k d (omega (arith, lt))

-- ---- the registers of pixels

-- the ink with its register modulo n
abbrev wrapped : ℕ → Ink → Ink
wrapped n (Fixed colour) = Fixed colour
wrapped n (Bound register) = Bound (register % n)

wrapped_below : (n : ℕ) (ink : Ink) → 0 < n → wrapped n ink ≡ ink → IsInkBelow n ink
wrapped_below n (Fixed colour) some same = tt
wrapped_below n (Bound register) some same =
    let is : register % n ≡ register = cc in
    omega (arith, is, mod_below register n some)

ink_wrapped : (binds : Bool) (t : Display) (before : List Event) (r : ℕ) → r < registers_of t
    → wrapped (registers_of t) (if binds then Bound r else Fixed (map_on t before r))
    ≡ (if binds then Bound r else Fixed (map_on t before r))
ink_wrapped true t before r lt = ap (λ n. Bound n) (mod-eq_of_lt lt)
ink_wrapped false t before r lt = refl

painted_wrapped : (t : Display) (x y : ℕ) (before : List Event) (e : Event) → Runs t
    → option_map (wrapped (registers_of t)) (inked_by t x y before e) ≡ inked_by t x y before e
painted_wrapped t x y before e runs =
    map_map (wrapped (registers_of t)) (ink_in_register t before) (paints_on t before e x y)
    ∙ map_same _ _ (paints_on t before e x y)
    (λ r h. ink_wrapped t.choices.binds_at_showing t before r (paints_below t before e x y r runs h))

point_wrapped : (t : Display) (events : List Event) (x y : ℕ) → Runs t
    → wrapped (registers_of t) (ink_at_point t events x y) ≡ ink_at_point t events x y
unfolding ink_at_point
point_wrapped t events x y runs =
    unwrap_map (wrapped (registers_of t)) (last_at (inked_by t x y) events) _
    ∙ ap (λ o. unwrap_or o (Fixed (get_or t.screen (y * t.choices.screen_width + x) (Rgb 0 0 0))))
    (map_last (wrapped (registers_of t)) (inked_by t x y) (inked_by t x y) events
    (λ before e. painted_wrapped t x y before e runs))

-- the register of each pixel is one of the terminal's
pub stands_below : (t : Display) (events : List Event) (p : Pen) (colours : List Parts) (inks : List Ink) (i : ℕ)
    → Runs t → StandsAfter t events p colours inks → i < length inks
    → IsInkBelow (length colours) (get_or inks i black)
stands_below t events p colours inks i runs s lt =
    let below : i < t.choices.screen_width * t.choices.screen_height = omega (arith, lt, s.pixels) in
    let some : 0 < registers_of t = omega (arith, runs.in_class.enough) in
    rw (s.registers, s.inks_are i below)
    (wrapped_below (registers_of t) (ink_at_point t events _ _) some (point_wrapped t events _ _ runs))

-- ---- the screen

pub painted_shown : (t : Display) (events : List Event) (p : Pen) (colours : List Parts) (inks : List Ink) → Runs t
    → is_seen_on t events ≡ true → t.choices.binds_at_showing ≡ false → StandsAfter t events p colours inks
    → map colour_in_ink inks ≡ screen_on t events
painted_shown t events p colours inks runs seen plain s =
    same_map colour_in_ink (shown_in colours) inks black
    (λ i lt. ap (shown_in colours) (pixel_again t events p colours inks i plain s lt))
    ∙ all_shown t events p colours inks runs seen s

pub bound_shown : (t : Display) (events : List Event) (p : Pen) (colours : List Parts) (inks : List Ink) → Runs t
    → is_seen_on t events ≡ true → StandsAfter t events p colours inks
    → map colour_in_ink (map (λ ink. Fixed (shown_in colours ink)) inks) ≡ screen_on t events
bound_shown t events p colours inks runs seen s =
    colours_back (shown_in colours) inks ∙ all_shown t events p colours inks runs seen s

-- the colours that pixels show which were made of them
pub colours_of_fixed : (colours : List Parts) → map colour_in_ink (map (λ c. Fixed c) colours) ≡ colours
colours_of_fixed [] = refl
colours_of_fixed (c ∷ rest) = ap (λ (cs : List _). c ∷ cs) (colours_of_fixed rest)

pub unseen_shown : (t : Display) (events : List Event) → Runs t → is_seen_on t events ≡ false
    → map colour_in_ink (map (λ c. Fixed c) t.screen) ≡ screen_on t events
unseen_shown t events runs unseen = colours_of_fixed t.screen ∙ unseen_screen t events runs unseen

-- whether a terminal sees a string, by what it kept of the controls
pub unseen_by : (t : Display) (events : List Event) (bit : Bool) → bit ≡ list_any is_eight_bit events → bit ≡ true
    → t.choices.eight_bit ≡ false → is_seen_on t events ≡ false
unfolding is_seen_on
unseen_by t events bit is set none = rw (none, sym is, set) refl

pub seen_by_controls : (t : Display) (events : List Event) → t.choices.eight_bit ≡ true → is_seen_on t events ≡ true
unfolding is_seen_on
seen_by_controls t events has = rw has refl

pub seen_by : (t : Display) (events : List Event) (bit : Bool) → bit ≡ list_any is_eight_bit events → bit ≡ false
    → is_seen_on t events ≡ true
unfolding is_seen_on
seen_by t events bit is clear = rw (sym is, clear) (or_true t.choices.eight_bit)
  where
    or_true : (b : Bool) → (b || true) ≡ true
    or_true true = refl
    or_true false = refl
