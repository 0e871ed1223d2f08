-- Where no picture is made there is none.
use Rattle.std.proofs.Common.{◌≡◌, ◌≢◌, ◌∙◌, ◌+◌, ◌%◌, ◌<◌, ◌≤◌, ◌++◌, ℕ, zero, suc, Bool, true, false, List, [], ◌∷◌}
use Rattle.std.proofs.Common.{Option, Some, None, ap, arith, get_or, inl, inr, is_none, length, map, not, refl, sym}
use Rattle.std.proofs.Common.{take}
use Rattle.std.specs.Prelude.{◌==◌, ◌&&◌, ◌||◌, IsTrue, if◌then◌else◌, nat_lt, position, slice_get}
use Rattle.std.specs.List.{cons_option, filter_map, list_any, position_or_len}
use Rattle.std.specs.Option.{option_map, option_or}
use Rattle.std.proofs.lemmas.Bool.{and_from, and_parts, cases_Bool, cases_lt, eq-eqb, eqb-true, lt-ltb, ltb-true}
use Rattle.std.proofs.lemmas.Bool.{or_cases, or_left, or_right}
use Rattle.std.proofs.lemmas.List.FromFn.{get_or-range_with_len, length-range_with_len}
use Rattle.std.proofs.lemmas.Option.{slice_get-get_or}
use Rattle.sixel_grammar.specs.declared.command.Command.{Command}
use Rattle.sixel_grammar.specs.declared.command.Command.TheVariants.{Raster, Define}
use Rattle.sixel_grammar.specs.declared.command.Event.{Event}
use Rattle.sixel_grammar.specs.declared.command.Event.TheVariants.{Step, Finish}
use Rattle.sixel_model.specs.declared.colour.Parts.{Parts}
use Rattle.sixel_model.specs.declared.colour.Parts.TheVariants.{Rgb, Hls}
use Rattle.sixel_model.specs.Colours.{is_entry, is_same, palette_at}
use Rattle.sixel_model.specs.Pictures.{IsPicture, PictureValue, register_of}
use Rattle.sixel_model.specs.Positions.{HoldsAtPosition}
use Rattle.sixel_encode.specs.Canon.{below, canon, canon_commands, define_command, define_commands, picture_commands}
use Rattle.sixel_encode.proofs.PartedLemmas.{Parted, parted}
use Rattle.sixel_emulator_rules.specs.Asked.{BreaksAsked, BreaksNoneAsked, breaks_hue, breaks_large, breaks_rows}
use Rattle.sixel_emulator_rules.specs.Asked.{is_asked}
use Rattle.sixel_emulator_rules.specs.declared.rule.AskedRule.TheVariants as rule
use Rattle.sixel_emulator_rules.specs.declared.terminals.Terminals.{Terminals}
use Rattle.sixel_fit.specs.Fits.{IsHeightFor, IsHeightIf, has_hue_for, is_large}
use Rattle.sixel_fit.specs.Rows.{is_hue, pad_register}
use Rattle.sixel_fit.specs.declared.making.FitFault.TheVariants.{Large, Hue, TooHigh, NoRegister, OutOfMemory}
use Rattle.sixel_fit.proofs.RowsLemmas.{entry_at}
use Rattle.sixel_fit_laws.specs.Laws.{HasAtTop, UnfitHasNone}

-- ---- events of a canonical list

-- the raster attributes
raster_there : (q : PictureValue) (P : List Event → Event → Type 0)
    → P (take 1 (canon q)) (Step (Raster 1 1 q.width q.height)) → HoldsAtPosition P (canon q) 1
unfolding canon canon_commands
raster_there q P holds = record { item = Step (Raster 1 1 q.width q.height); here = refl; holds = holds }

get_left : {A : Type 0} (xs ys : List A) (i : ℕ) (x : A) → slice_get xs i ≡ Some x → slice_get (xs ++ ys) i ≡ Some x
get_left [] ys i x is = cc
get_left (y ∷ xs) ys zero x is = is
get_left (y ∷ xs) ys (suc i) x is = get_left xs ys i x is

get_map : {A B : Type 0} (f : A → B) (xs : List A) (i : ℕ) (x : A) → slice_get xs i ≡ Some x
    → slice_get (map f xs) i ≡ Some (f x)
get_map f [] i x is = cc
get_map f (y ∷ xs) zero x is = ap (option_map f) is
get_map f (y ∷ xs) (suc i) x is = get_map f xs i x is

-- what is kept of an element
behind_kept : (o : Option Command) (rest : List Command) (c : Command) → (j : ℕ) × (slice_get rest j ≡ Some c)
    → (j : ℕ) × (slice_get (cons_option o rest) j ≡ Some c)
behind_kept None rest c is = is
behind_kept (Some d) rest c is = (suc is.0, is.1)

get_kept : (f : ℕ → Option Command) (xs : List ℕ) (i x : ℕ) (c : Command) → slice_get xs i ≡ Some x → f x ≡ Some c
    → (j : ℕ) × (slice_get (filter_map f xs) j ≡ Some c)
get_kept f [] i x c is kept = cc
get_kept f (y ∷ xs) zero x c is kept =
    let same : y ≡ x = cc in
    let here : f y ≡ Some c = ap f same ∙ kept in
    (0, rw here refl)
get_kept f (y ∷ xs) (suc i) x c is kept = behind_kept (f y) (filter_map f xs) c (get_kept f xs i x c is kept)

-- a register of the palette is one of the numbers below its length
register_below : (n r : ℕ) → r < n → slice_get (below n) r ≡ Some r
register_below n r lt =
    slice_get-get_or (below n) r 0 (omega (arith, lt, length-range_with_len 0 n))
    ∙ ap (λ (k : ℕ). Some k) (get_or-range_with_len 0 n r 0 lt ∙ (omega arith))

-- the palette has an entry there
entry_within : (palette : List (Option Parts)) (r : ℕ) (c : Parts) → palette_at palette r ≡ Some c → r < length palette
entry_within [] r c is = cc
entry_within (entry ∷ palette) zero c is = omega arith
entry_within (entry ∷ palette) (suc r) c is = omega (arith, entry_within palette r c is)

-- its definition is in the list
define_there : (q : PictureValue) (r : ℕ) (c : Parts) → palette_at q.palette r ≡ Some c
    → (j : ℕ) × (slice_get (define_commands q.palette) j ≡ Some (define_command r c))
unfolding define_commands
define_there q r c is =
    get_kept (λ (s : ℕ). option_map (define_command s) (palette_at q.palette s)) (below (length q.palette)) r r
    (define_command r c) (register_below (length q.palette) r (entry_within q.palette r c is))
    (ap (option_map (define_command r)) is)

define_at : (q : PictureValue) (r : ℕ) (c : Parts) → palette_at q.palette r ≡ Some c
    → (j : ℕ) × (slice_get (canon q) j ≡ Some (Step (define_command r c)))
unfolding canon canon_commands
define_at q r c is =
    let d = define_there q r c is in (
      suc (suc d.0),
      get_left (map Step (define_commands q.palette ++ picture_commands q)) (Finish false ∷ []) d.0
          (Step (define_command r c))
          (get_map Step (define_commands q.palette ++ picture_commands q) d.0 (define_command r c)
          (get_left (define_commands q.palette) (picture_commands q) d.0 (define_command r c) d.1)),
    )

-- ---- a rule that is broken

large_broken : (width height : ℕ) → (nat_lt 1000 width || nat_lt 996 height) ≡ true
    → IsTrue (breaks_large (Step (Raster 1 1 width height)))
unfolding breaks_large
large_broken width height is = is

hue_broken : (r hue lightness saturation : ℕ) → IsTrue (breaks_hue (Step (Define r 1 hue lightness saturation)))
unfolding breaks_hue
hue_broken r hue lightness saturation = refl

rows_broken : (width height : ℕ) → not (height % 6 == 0) ≡ true → IsTrue (breaks_rows (Step (Raster 1 1 width height)))
unfolding breaks_rows
rows_broken width height is = is

-- the height of a picture that breaks no such rule is a multiple of six
whole_by : (t : Terminals) (q : PictureValue) (b : Bool) → (q.height % 6 == 0) ≡ b → is_asked t rule.Rows ≡ true
    → BreaksNoneAsked t (canon q) → q.height % 6 ≡ 0
whole_by t q true is asks none = eqb-true (q.height % 6) 0 is
whole_by t q false is asks none =
    absurd (none rule.Rows asks 1
    (raster_there q (BreaksAsked rule.Rows) (rows_broken q.width q.height (ap not is))))

whole : (t : Terminals) (q : PictureValue) → is_asked t rule.Rows ≡ true → BreaksNoneAsked t (canon q)
    → q.height % 6 ≡ 0
whole t q asks none = whole_by t q (q.height % 6 == 0) refl asks none

-- ---- reasons

large_reason : (a b c d : Bool) (width height w h : ℕ)
    → (if a then Some (Large width height) else if b then Some Hue else if c then Some TooHigh else if d then Some
    NoRegister else None)
    ≡ Some (Large w h) → a ≡ true
large_reason true b c d width height w h is = refl
large_reason false true c d width height w h is = cc
large_reason false false true d width height w h is = cc
large_reason false false false true width height w h is = cc
large_reason false false false false width height w h is = cc

hue_reason : (a b c d : Bool) (width height : ℕ)
    → (if a then Some (Large width height) else if b then Some Hue else if c then Some TooHigh else if d then Some
    NoRegister else None)
    ≡ Some Hue → b ≡ true
hue_reason true b c d width height is = cc
hue_reason false true c d width height is = refl
hue_reason false false true d width height is = cc
hue_reason false false false true width height is = cc
hue_reason false false false false width height is = cc

high_reason : (a b c d : Bool) (width height : ℕ)
    → (if a then Some (Large width height) else if b then Some Hue else if c then Some TooHigh else if d then Some
    NoRegister else None)
    ≡ Some TooHigh → c ≡ true
high_reason true b c d width height is = cc
high_reason false true c d width height is = cc
high_reason false false true d width height is = refl
high_reason false false false true width height is = cc
high_reason false false false false width height is = cc

register_reason : (a b c d : Bool) (width height : ℕ)
    → (if a then Some (Large width height) else if b then Some Hue else if c then Some TooHigh else if d then Some
    NoRegister else None)
    ≡ Some NoRegister → d ≡ true
register_reason true b c d width height is = cc
register_reason false true c d width height is = cc
register_reason false false true d width height is = cc
register_reason false false false true width height is = refl
register_reason false false false false width height is = cc

-- ---- too large

larger : (t : Terminals) (pad : Parts) (p q : PictureValue) → is_large t p.width p.height ≡ true → HasAtTop pad p q
    → BreaksNoneAsked t (canon q) → ⊥
larger t pad p q large top none =
    let tests = and_parts (is_asked t rule.Large) (nat_lt 1000 p.width || nat_lt 996 p.height) large in
    let sides : (nat_lt 1000 q.width || nat_lt 996 q.height) ≡ true =
    elim (or_cases (nat_lt 1000 p.width) (nat_lt 996 p.height) tests.1) [
      | inl wide ↦
          or_left (nat_lt 1000 q.width) (nat_lt 996 q.height)
          (lt-ltb 1000 q.width (omega (arith, ltb-true 1000 p.width wide, top.width)))
      | inr high ↦
          or_right (nat_lt 1000 q.width) (nat_lt 996 q.height)
          (lt-ltb 996 q.height (omega (arith, ltb-true 996 p.height high, top.height)))
    ] in
    none rule.Large tests.0 1 (raster_there q (BreaksAsked rule.Large) (large_broken q.width q.height sides))

-- ---- hues

-- a colour of hue in a palette
record HasHue (palette : List (Option Parts)) : Type 0 where
  register : ℕ
  hue : ℕ
  lightness : ℕ
  saturation : ℕ
  is : palette_at palette register ≡ Some (Hls hue lightness saturation)

later_hue : (entry : Option Parts) (palette : List (Option Parts)) → HasHue palette → HasHue (entry ∷ palette)
later_hue entry palette has = record {
  register = suc has.register;
  hue = has.hue;
  lightness = has.lightness;
  saturation = has.saturation;
  is = has.is;
}

hue_in : (palette : List (Option Parts)) → list_any is_hue palette ≡ true → HasHue palette
hue_in [] any = cc
hue_in (Some (Hls hue lightness saturation) ∷ palette) any =
    record { register = 0; hue = hue; lightness = lightness; saturation = saturation; is = refl }
hue_in (Some (Rgb red green blue) ∷ palette) any = later_hue (Some (Rgb red green blue)) palette (hue_in palette any)
hue_in (None ∷ palette) any = later_hue None palette (hue_in palette any)

of_hue : (pad : Parts) → is_hue (Some pad) ≡ true
    → (hue : ℕ) × (lightness : ℕ) × (saturation : ℕ) × (pad ≡ Hls hue lightness saturation)
of_hue (Hls hue lightness saturation) is = (hue, lightness, saturation, refl)
of_hue (Rgb red green blue) is = cc

-- it breaks the rule
hue_defined : (t : Terminals) (q : PictureValue) (r hue lightness saturation : ℕ) → is_asked t rule.Hue ≡ true
    → palette_at q.palette r ≡ Some (Hls hue lightness saturation) → BreaksNoneAsked t (canon q) → ⊥
hue_defined t q r hue lightness saturation asks is none =
    let at = define_at q r (Hls hue lightness saturation) is in
    none rule.Hue asks at.0 (record {
      item = Step (Define r 1 hue lightness saturation);
      here = at.1;
      holds = hue_broken r hue lightness saturation;
    })

-- ---- rows below

-- rows are added only if a terminal asks for a multiple of six, and the picture isn't one
record NeedsRows (t : Terminals) (height : ℕ) : Type 0 where
  asks : is_asked t rule.Rows ≡ true
  odd : height % 6 ≢ 0

needs_if : (t : Terminals) (b : Bool) (height after : ℕ) → is_asked t rule.Rows ≡ b → IsHeightIf b height after
    → height < after → NeedsRows t height
needs_if t true height after asks is less =
    record { asks = asks; odd = λ even. absurd (omega (arith, even, is.whole, is.near, less)) }
needs_if t false height after asks is less = absurd (omega (arith, is, less))

needs : (t : Terminals) (height after : ℕ) → IsHeightFor t height after → height < after → NeedsRows t height
needs t height after is less = needs_if t (is_asked t rule.Rows) height after refl is less

-- so another picture with it at its top is higher
needs_higher : (t : Terminals) (pad : Parts) (p q : PictureValue) → NeedsRows t p.height → HasAtTop pad p q
    → BreaksNoneAsked t (canon q) → p.height < q.height
needs_higher t pad p q n top none =
    let even : q.height % 6 ≡ 0 = whole t q n.asks none in
    elim (cases_lt p.height q.height) [
      | inl less ↦ less
      | inr not_less ↦
          let same : q.height ≡ p.height = omega (arith, not_less, top.height) in
          absurd (n.odd (ap (λ (k : ℕ). k % 6) (sym same) ∙ even))
    ]

-- and has the colour below it
pad_below : (registers : ℕ) (pad : Parts) (p q : PictureValue) → IsPicture registers p → HasAtTop pad p q
    → p.height < q.height → palette_at q.palette (register_of q 0 p.height) ≡ Some pad
pad_below registers pad p q picture top less =
    let parts : Parted registers p = parted picture in
    top.added 0 p.height (omega (arith, parts.some_width)) (omega arith) less

hued : (registers : ℕ) (t : Terminals) (pad : Parts) (p q : PictureValue) (height : ℕ) → IsPicture registers p
    → IsHeightFor t p.height height → has_hue_for t pad p.palette (nat_lt p.height height) ≡ true → HasAtTop pad p q
    → BreaksNoneAsked t (canon q) → ⊥
hued registers t pad p q height picture is hue top none =
    let tests = and_parts (is_asked t rule.Hue)
    (list_any is_hue p.palette || (nat_lt p.height height && is_hue (Some pad))) hue in
    elim (or_cases (list_any is_hue p.palette) (nat_lt p.height height && is_hue (Some pad)) tests.1) [
      | inl some ↦
          let has : HasHue p.palette = hue_in p.palette some in
          hue_defined t q has.register has.hue has.lightness has.saturation tests.0
          (top.colours has.register (Hls has.hue has.lightness has.saturation) has.is) none
      | inr rows ↦
          let both = and_parts (nat_lt p.height height) (is_hue (Some pad)) rows in
          let higher : p.height < q.height =
          needs_higher t pad p q (needs t p.height height is (ltb-true p.height height both.0)) top none in
          let of = of_hue pad both.1 in
          hue_defined t q (register_of q 0 p.height) of.0 of.1 of.2 tests.0
          (pad_below registers pad p q picture top higher ∙ ap (λ (c : Parts). Some c) of.3) none
    ]

-- ---- too high

high_if : (t : Terminals) (b : Bool) (height after next : ℕ) → is_asked t rule.Rows ≡ b → IsHeightIf b height after
    → height ≤ next → (b ≡ true → next % 6 ≡ 0) → 2048 < after → height ≤ 2048 → 2048 < next
high_if t true height after next asks is above even high small =
    let whole_next : next % 6 ≡ 0 = even refl in omega (arith, is.whole, is.near, above, whole_next, high)
high_if t false height after next asks is above even high small = absurd (omega (arith, is, high, small))

higher : (registers : ℕ) (t : Terminals) (pad : Parts) (p q : PictureValue) (height : ℕ) → IsPicture registers p
    → IsPicture registers q → IsHeightFor t p.height height → nat_lt 2048 height ≡ true → HasAtTop pad p q
    → BreaksNoneAsked t (canon q) → ⊥
higher registers t pad p q height picture other is high top none =
    let parts : Parted registers p = parted picture in
    let others : Parted registers q = parted other in
    let above : 2048 < q.height =
    high_if t (is_asked t rule.Rows) p.height height q.height refl is top.height (λ asks. whole t q asks none)
    (ltb-true 2048 height high) parts.most_height in
    absurd (omega (arith, above, others.most_height))

-- ---- no register

-- one more element that fails, in front
fails_front : {X : Type 0} (test : X → Bool) (x : X) (xs : List X) (d : X) → test x ≡ false
    → ((k : ℕ) → k < length xs → test (get_or xs k d) ≡ false) → (k : ℕ) → k < length (x ∷ xs)
    → test (get_or (x ∷ xs) k d) ≡ false
fails_front test x xs d here rest zero lt = here
fails_front test x xs d here rest (suc k) lt = rest k (omega (arith, lt))

-- the first that passes is past the end, so none passes
fails_past : {X : Type 0} (test : X → Bool) (xs : List X) (d : X) → length xs ≤ position_or_len test xs → (k : ℕ)
    → k < length xs → test (get_or xs k d) ≡ false
fails_past test [] d past k lt = absurd (omega (arith, lt))
fails_past test (x ∷ xs) d past k lt = elim (cases_Bool (test x)) [
  | inl passes ↦
      let none : length (x ∷ xs) ≤ 0 = rw passes at past in absurd (omega (arith, none))
  | inr fails ↦
      let rest : length (x ∷ xs) ≤ 1 + position_or_len test xs = rw fails at past in
      fails_front test x xs d fails (fails_past test xs d (omega (arith, rest))) k lt
]

no_position : {X : Type 0} (test : X → Bool) (xs : List X) (d : X) → position test xs ≡ None → (k : ℕ)
    → k < length xs → test (get_or xs k d) ≡ false
no_position test xs d none k lt = elim (cases_lt (position_or_len test xs) (length xs)) [
  | inl within ↦
      let some : position test xs ≡ Some (position_or_len test xs) =
      rw (lt-ltb (position_or_len test xs) (length xs) within) refl in
      cc (some, none)
  | inr past ↦ fails_past test xs d past k lt
]

none_either : (first second : Option ℕ) → is_none (option_or first second) ≡ true → (first ≡ None) × (second ≡ None)
none_either None None is = (refl, refl)
none_either None (Some r) is = cc
none_either (Some r) second is = cc

same_self : (c : Parts) → is_same c c ≡ true
same_self (Rgb a b c) =
    and_from (a == a && b == b) (c == c) (and_from (a == a) (b == b) (eq-eqb a a refl) (eq-eqb b b refl))
    (eq-eqb c c refl)
same_self (Hls a b c) =
    and_from (a == a && b == b) (c == c) (and_from (a == a) (b == b) (eq-eqb a a refl) (eq-eqb b b refl))
    (eq-eqb c c refl)

-- an entry that isn't empty and isn't this colour is another one
full_entry : (pad : Parts) (o : Option Parts) → is_none o ≡ false → is_entry pad o ≡ false
    → (c : Parts) × (o ≡ Some c) × (is_same pad c ≡ false)
full_entry pad None some other = cc
full_entry pad (Some c) some other = (c, refl, other)

-- each register has a colour, none of them is this, and so no palette with these colours has it
unregistered : (registers : ℕ) (pad : Parts) (p q : PictureValue) (r : ℕ) → IsPicture registers p
    → IsPicture registers q → HasAtTop pad p q → is_none (pad_register pad p.palette) ≡ true
    → palette_at q.palette r ≡ Some pad → ⊥
unregistered registers pad p q r picture other top none has =
    let parts : Parted registers p = parted picture in
    let others : Parted registers q = parted other in
    let within : r < length q.palette = entry_within q.palette r pad has in
    let lt : r < length p.palette = omega (arith, within, parts.entries, others.entries) in
    let both = none_either (position (is_entry pad) p.palette) (position is_none p.palette) none in
    let full = full_entry pad (get_or p.palette r None) (no_position is_none p.palette None both.1 r lt)
    (no_position (is_entry pad) p.palette None both.0 r lt) in
    let stays : palette_at q.palette r ≡ Some full.0 = top.colours r full.0 (entry_at p.palette r ∙ full.1) in
    let same : pad ≡ full.0 = cc (stays, has) in
    let is : is_same pad full.0 ≡ true = ap (is_same pad) (sym same) ∙ same_self pad in
    cc (is, full.2)

no_more : (registers : ℕ) (t : Terminals) (pad : Parts) (p q : PictureValue) (height : ℕ) → IsPicture registers p
    → IsPicture registers q → IsHeightFor t p.height height
    → (nat_lt p.height height && is_none (pad_register pad p.palette)) ≡ true → HasAtTop pad p q
    → BreaksNoneAsked t (canon q) → ⊥
no_more registers t pad p q height picture other is tests top none =
    let both = and_parts (nat_lt p.height height) (is_none (pad_register pad p.palette)) tests in
    let taller : p.height < q.height =
    needs_higher t pad p q (needs t p.height height is (ltb-true p.height height both.0)) top none in
    unregistered registers pad p q (register_of q 0 p.height) picture other top both.1
    (pad_below registers pad p q picture top taller)

-- ---- the law

pub unfit_has_none : (registers : ℕ) → UnfitHasNone registers
unfit_has_none registers t pad p q (Large width height) picture other is known top none =
    larger t pad p q (large_reason (is_large t p.width p.height) (has_hue_for t pad p.palette (nat_lt p.height is.0))
    (nat_lt 2048 is.0) (nat_lt p.height is.0 && is_none (pad_register pad p.palette)) p.width p.height width height
    is.2) top none
unfit_has_none registers t pad p q Hue picture other is known top none =
    hued registers t pad p q is.0 picture is.1
    (hue_reason (is_large t p.width p.height) (has_hue_for t pad p.palette (nat_lt p.height is.0)) (nat_lt 2048 is.0)
    (nat_lt p.height is.0 && is_none (pad_register pad p.palette)) p.width p.height is.2) top none
unfit_has_none registers t pad p q TooHigh picture other is known top none =
    higher registers t pad p q is.0 picture other is.1
    (high_reason (is_large t p.width p.height) (has_hue_for t pad p.palette (nat_lt p.height is.0)) (nat_lt 2048 is.0)
    (nat_lt p.height is.0 && is_none (pad_register pad p.palette)) p.width p.height is.2) top none
unfit_has_none registers t pad p q NoRegister picture other is known top none =
    no_more registers t pad p q is.0 picture other is.1
    (register_reason (is_large t p.width p.height) (has_hue_for t pad p.palette (nat_lt p.height is.0))
    (nat_lt 2048 is.0) (nat_lt p.height is.0 && is_none (pad_register pad p.palette)) p.width p.height is.2) top none
unfit_has_none registers t pad p q OutOfMemory picture other is known top none = known refl
