-- The samples of a picture file.
use Rattle.std.proofs.Common.{◌≡◌, ◌==◌, ◌+◌, ◌*◌, ◌<◌, ◌≤◌, ℕ, zero, suc, Bool, true, false, ◌&&◌, nat_le, nat_lt}
use Rattle.std.proofs.Common.{Option, None, Result, Ok, Err, List, [], ◌∷◌, ◌++◌, length, map, refl, sym, ap, ap₂}
use Rattle.std.proofs.Common.{subst, ◌∙◌, append_assoc, arith, eq-eqb, length-append}
use Rattle.std.specs.Prelude.{◌-◌, IfErr, drop, fold, is_some, slice_index, take, unwrap_or}
use Rattle.std.specs.List.{list_all, list_any}
use Rattle.std.proofs.Math.Nat.{le_trans}
use Rattle.std.proofs.lemmas.Bool.Decides.{nat_tests}
use Rattle.std.proofs.lemmas.Bool.{eqb-true}
use Rattle.std.proofs.lemmas.List.{append-nil, length-map}
use Rattle.std.proofs.lemmas.List.Folds.{list_any-append}
use Rattle.std.proofs.lemmas.List.Sums.{fold-append}
use Rattle.sixel_grammar.proofs.SourceLemmas.{take_past}
use Rattle.sixel_model.specs.Colours.{is_same, palette_at}
use Rattle.sixel_model.specs.Pictures.{PictureValue, is_side, picture_fault, picture_of_parts}
use Rattle.sixel_ppm.specs.PpmColours.{Fills}
use Rattle.sixel_ppm.specs.PpmPartialPixel.{partial_samples, is_good}
use Rattle.sixel_ppm.specs.PpmReading.{◌>>=◌, at_fault, colour_of, distinct, palette_of, picture_of, pixels}
use Rattle.sixel_ppm.specs.PpmReading.{register_among, with_colour}
use Rattle.sixel_ppm.specs.PpmSamples.{AllSeen, Fails, FailsOn, HasRead, HoldsPixels, KeepsPixels, KnowsLast, Leads}
use Rattle.sixel_ppm.specs.PpmSamples.{LeadsOn, PutsPixel, Refuses, Registers, TooMany, budget, pixels_on}
use Rattle.sixel_ppm.specs.PpmSamples.{registers_in, samples_on}
use Rattle.sixel_model.specs.declared.colour.Parts.{Parts}
use Rattle.sixel_ppm.specs.declared.ppm.PpmFault.{PpmFault}
use Rattle.sixel_ppm.specs.declared.ppm.PpmReason.{PpmReason}
use Rattle.sixel_ppm.specs.declared.ppm.PpmReason.TheVariants.{Short, TooManyColours}
use Rattle.sixel_ppm.specs.declared.ppm.colours.Colours.{Colours}
use Rattle.sixel_ppm.specs.declared.ppm.samples.PartialPixel.{PartialPixel}
use Rattle.sixel_ppm.specs.declared.ppm.samples.PartialPixel.TheVariants.{Nothing, Red, RedGreen}
use Rattle.sixel_ppm.specs.declared.ppm.samples.Pixel.{Pixel}
use Rattle.sixel_ppm.specs.declared.ppm.samples.Samples.{Samples}
use Rattle.sixel_ppm.proofs.PpmColourLemmas.{entry_there, position_stays, register_within, same_as_itself}

-- ---- colours that were seen

seen_by : (seen : List Parts) (c : Parts) (t : Bool) → list_any (is_same c) seen ≡ t
    → list_any (is_same c) (with_colour seen c) ≡ true
seen_by seen c true e = rw e e
seen_by seen c false e =
    let itself : is_same c c ≡ true = same_as_itself c in
    rw e (list_any-append (is_same c) seen (c ∷ []) ∙ rw (e, itself) refl)

-- an added colour was seen
pub seen_with : (seen : List Parts) (c : Parts) → list_any (is_same c) (with_colour seen c) ≡ true
seen_with seen c = seen_by seen c (list_any (is_same c) seen) refl

-- a colour that was seen stays seen
stays_seen : (seen : List Parts) (c x : Parts) (t : Bool) → list_any (is_same c) seen ≡ t
    → list_any (is_same x) seen ≡ true
    → list_any (is_same x) (with_colour seen c) ≡ true
stays_seen seen c x true e s = rw e s
stays_seen seen c x false e s = rw e (list_any-append (is_same x) seen (c ∷ []) ∙ rw s refl)

-- and it keeps its register
stays_numbered : (seen : List Parts) (c x : Parts) (t : Bool) → list_any (is_same c) seen ≡ t
    → list_any (is_same x) seen ≡ true
    → register_among (with_colour seen c) x ≡ register_among seen x
stays_numbered seen c x true e s = rw e refl
stays_numbered seen c x false e s = rw e
    (ap (λ (o : Option ℕ). unwrap_or o 0) (position_stays (is_same x) seen (c ∷ []) 0 s))

pub seen_more : (seen : List Parts) (c : Parts) (colours : List Parts) → AllSeen seen colours
    → AllSeen (with_colour seen c) (colours ++ c ∷ [])
seen_more seen c [] all = (seen_with seen c, tt)
seen_more seen c (x ∷ colours) all =
    (stays_seen seen c x (list_any (is_same c) seen) refl all.0, seen_more seen c colours all.1)

pub numbered_more : (seen : List Parts) (c : Parts) (colours : List Parts) → AllSeen seen colours
    → map (register_among seen) colours ++ register_among (with_colour seen c) c ∷ []
    ≡ map (register_among (with_colour seen c)) (colours ++ c ∷ [])
numbered_more seen c [] all = refl
numbered_more seen c (x ∷ colours) all =
    ap₂ (λ (n : ℕ) (ns : List ℕ). n ∷ ns) (sym (stays_numbered seen c x (list_any (is_same c) seen) refl all.0))
    (numbered_more seen c colours all.1)

pub distinct-snoc : (colours : List Parts) (c : Parts) → distinct (colours ++ c ∷ []) ≡ with_colour (distinct colours) c
distinct-snoc colours c = fold-append with_colour [] colours (c ∷ [])

-- ---- one more pixel

-- the state after one more pixel
pub holds_more : (kept more : Colours) (last next : Option Pixel) (maxval : ℕ) (registers : List ℕ) (left total : ℕ)
    (colours : List Parts)
    (c : Parts) (register fewer : ℕ) → fewer + 1 ≡ left → HoldsPixels kept last maxval registers left total colours
    → Fills more (with_colour (distinct colours) c) → KnowsLast next maxval (with_colour (distinct colours) c)
    → register ≡ register_among (with_colour (distinct colours) c) c
    → HoldsPixels more next maxval (registers ++ register ∷ []) fewer total (colours ++ c ∷ [])
holds_more kept more last next maxval registers left total colours c register fewer less holds fills known is =
    let same = sym (distinct-snoc colours c) in
    record {
      fills = subst (λ (d : List Parts). Fills more d) same fills;
      knows_last = subst (λ (d : List Parts). KnowsLast next maxval d) same known;
      numbered = ap₂ (λ (rs : List ℕ) (r : ℕ). rs ++ r ∷ []) holds.numbered is
          ∙ numbered_more (distinct colours) c colours holds.all_seen
          ∙ ap (λ (d : List Parts). map (register_among d) (colours ++ c ∷ [])) same;
      all_seen = subst (λ (d : List Parts). AllSeen d (colours ++ c ∷ [])) same
          (seen_more (distinct colours) c colours holds.all_seen);
      whole = omega (arith, holds.whole, length-append colours (c ∷ []));
    }

pub passes : (v most : ℕ) → v ≤ most → nat_le v most ≡ true
passes v most le = grind (arith, nat_tests)

pub fails : (v most : ℕ) → most < v → nat_le v most ≡ false
fails v most lt = grind (arith, nat_tests)

pub below_limit : (v most : ℕ) → v < most → nat_lt v most ≡ true
below_limit v most lt = grind (arith, nat_tests)

-- a pixel whose colour has a register
pub pixel_read : (count maxval n at r g b : ℕ) (colours : List Parts) (rest : List ℕ) → r ≤ maxval → g ≤ maxval
    → b ≤ maxval
    → length (with_colour (distinct colours) (colour_of maxval r g b)) ≤ count
    → pixels count maxval (suc n) colours at (r ∷ g ∷ b ∷ rest)
    ≡ pixels count maxval n (colours ++ colour_of maxval r g b ∷ []) (at + 3) rest
pixel_read count maxval n at r g b colours rest red green blue few =
    let e₁ = passes r maxval red in
    let e₂ = passes g maxval green in
    let e₃ = passes b maxval blue in
    let e₄ : nat_le (length (distinct (colours ++ colour_of maxval r g b ∷ []))) count ≡ true =
    passes _ count (subst (λ (d : List Parts). length d ≤ count) (sym (distinct-snoc colours (colour_of maxval r g b)))
    few) in
    simp (e₁, e₂, e₃, e₄)

pub pixel_too_many : (count maxval n at r g b : ℕ) (colours : List Parts) (rest : List ℕ) → r ≤ maxval → g ≤ maxval
    → b ≤ maxval
    → count < length (with_colour (distinct colours) (colour_of maxval r g b))
    → pixels count maxval (suc n) colours at (r ∷ g ∷ b ∷ rest) ≡ at_fault TooManyColours at
pixel_too_many count maxval n at r g b colours rest red green blue many =
    let e₁ = passes r maxval red in
    let e₂ = passes g maxval green in
    let e₃ = passes b maxval blue in
    let e₄ : nat_le (length (distinct (colours ++ colour_of maxval r g b ∷ []))) count ≡ false =
    fails _ count (subst (λ (d : List Parts). count < length d) (sym (distinct-snoc colours (colour_of maxval r g b)))
    many) in
    simp (e₁, e₂, e₃, e₄)

-- ---- a refused pixel

abbrev Refused : ℕ → ℕ → ℕ → List Parts → ℕ → ℕ → ℕ → List ℕ → PpmReason → ℕ → Type 0
Refused count maxval n colours at width height samples reason place =
    (pixels count maxval n colours at samples >>= (λ all. Ok
    (picture_of count width height all))) ≡ at_fault reason place

pub colour_refused : (count maxval n at r g b width height : ℕ) (colours : List Parts) (rest : List ℕ) → 0 < n
    → r ≤ maxval → g ≤ maxval
    → b ≤ maxval → count < length (with_colour (distinct colours) (colour_of maxval r g b))
    → Refused count maxval n colours at width height (r ∷ g ∷ b ∷ rest) TooManyColours at
colour_refused count maxval zero at r g b width height colours rest some red green blue many = absurd (omega arith)
colour_refused count maxval (suc n) at r g b width height colours rest some red green blue many =
    rw (pixel_too_many count maxval n at r g b colours rest red green blue many) refl

-- a pixel that was read
pub pixel_led : (count maxval n m at next r g b width height : ℕ) (colours : List Parts) (rest : List ℕ) → m + 1 ≡ n
    → next ≡ at + 3
    → r ≤ maxval → g ≤ maxval → b ≤ maxval → length (with_colour (distinct colours) (colour_of maxval r g b)) ≤ count
    → (pixels count maxval n colours at (r ∷ g ∷ b ∷ rest) >>= (λ all. Ok (picture_of count width height all)))
    ≡ (pixels count maxval m (colours ++ colour_of maxval r g b ∷ []) next rest >>=
    (λ all. Ok (picture_of count width height all)))
pixel_led count maxval zero m at next r g b width height colours rest less e red green blue few = absurd (omega arith)
pixel_led count maxval (suc n) m at next r g b width height colours rest less e red green blue few =
    let same : n ≡ m = omega arith in
    ap (λ (x : Result (List Parts) PpmFault). x >>= (λ all. Ok (picture_of count width height all)))
    (pixel_read count maxval n at r g b colours rest red green blue few
    ∙ ap₂ (λ (k : ℕ) (place : ℕ). pixels count maxval k (colours ++ colour_of maxval r g b ∷ []) place rest) same
    (sym e))

-- ---- the same for the states

pub on_err : {A E : Type 0} (r : Result A E) (P Q : E → Type 0) → ((e : E) → P e → Q e) → IfErr r P → IfErr r Q
on_err (Ok x) P Q f h = tt
on_err (Err e) P Q f h = f e h

pub too_many_fails : (s : Samples) (r g b : ℕ) (fault : PpmFault) → 0 < s.left → r ≤ s.maxval → g ≤ s.maxval
    → b ≤ s.maxval
    → TooMany s r g b fault → Fails s fault (r ∷ g ∷ b ∷ [])
too_many_fails s r g b fault some red green blue many = λ colours holds rest.
    subst (λ (f : PpmFault). Refuses f (pixels_on s colours (r ∷ g ∷ b ∷ rest))) (sym many.0)
    (colour_refused (registers_in s) s.maxval s.left s.place r g b s.width s.height colours rest some red green blue
    (many.1 colours holds))

-- a pixel that has its register and was added
pub pixel_leads : (old mid new : Samples) (r g b register : ℕ) → Registers old mid r g b register → KeepsPixels old mid
    → PutsPixel mid new register → Leads old new (r ∷ g ∷ b ∷ [])
pixel_leads old mid new r g b register registers kept put = λ colours holds.
    let c = colour_of old.maxval r g b in
    let is = registers colours holds in
    let same : registers_in new ≡ registers_in old =
    ap (λ (c : Colours). length c.palette) put.colours ∙ is.same_registers in
    let less : new.left + 1 ≡ old.left = put.left ∙ kept.left in
    let place : new.place ≡ old.place + 3 = put.place ∙ ap (λ (n : ℕ). n + 3) kept.place in
    let maxval : new.maxval ≡ old.maxval = put.maxval ∙ kept.maxval in
    let width : new.width ≡ old.width = put.width ∙ kept.width in
    let height : new.height ≡ old.height = put.height ∙ kept.height in
    let items : new.registers.items ≡ old.registers.items ++ register ∷ [] =
    put.registers ∙ ap (λ (rs : List ℕ). rs ++ register ∷ []) kept.registers in
    let more = holds_more old.colours mid.colours old.last mid.last old.maxval old.registers.items old.left
    (old.width * old.height) colours c
    register new.left less holds is.fills is.knows_last is.known.register in (
      colours ++ c ∷ [],
      rw (put.colours, put.last, maxval, items, width, height) more,
      λ rest. rw (same, maxval, place, width, height)
          (pixel_led (registers_in old) old.maxval old.left new.left old.place
          (old.place + 3) r g b old.width old.height colours rest
          less refl
          is.known.red is.known.green is.known.blue (rw is.same_registers at is.fills.few)),
    )

-- ---- the whole picture

all_below : (count : ℕ) (seen colours : List Parts) → length seen ≤ count → AllSeen seen colours
    → list_all (λ r. nat_lt r count) (map (register_among seen) colours) ≡ true
all_below count seen [] few all = refl
all_below count seen (c ∷ colours) few all =
    let lt = register_within seen c all.0 in
    let below : nat_lt (register_among seen c) count ≡ true = below_limit (register_among seen c) count (omega arith) in
    ap₂ (λ (a b : Bool). a && b) below (all_below count seen colours few all.1)

all_there : (count : ℕ) (seen colours : List Parts) → length seen ≤ count → AllSeen seen colours
    → list_all (λ r. is_some (palette_at (palette_of count seen) r)) (map (register_among seen) colours) ≡ true
all_there count seen [] few all = refl
all_there count seen (c ∷ colours) few all =
    ap₂ (λ (a b : Bool). a && b) (entry_there count seen (register_among seen c) (register_within seen c all.0) few)
    (all_there count seen colours few all.1)

-- the state after all pixels makes a picture
pub picture_accepted : (kept : Colours) (last : Option Pixel) (maxval : ℕ) (registers : List ℕ)
    (left width height : ℕ) (colours : List Parts)
    → HoldsPixels kept last maxval registers left (width * height) colours → left ≡ 0
    → (is_side width && is_side height) ≡ true
    → picture_fault (length kept.palette) width height kept.palette registers ≡ None
picture_accepted kept last maxval registers left width height colours holds none sides =
    let seen = distinct colours in
    let long : length (map (register_among seen) colours) ≡ length colours = simp length-map in
    let whole : length colours ≡ width * height = omega (arith, holds.whole) in
    let many : length registers ≡ width * height = ap (λ (rs : List ℕ). length rs) holds.numbered ∙ long ∙ whole in
    let count : (length registers == width * height) ≡ true = eq-eqb (length registers) (width * height) many in
    let below : list_all (λ r. nat_lt r (length kept.palette)) registers ≡ true =
    ap (list_all (λ r. nat_lt r (length kept.palette))) holds.numbered
    ∙ all_below (length kept.palette) seen colours holds.fills.few holds.all_seen in
    let there : list_all (λ r. is_some (palette_at kept.palette r)) registers ≡ true =
    ap₂ (λ (p : List (Option Parts)) (rs : List ℕ). list_all (λ r. is_some (palette_at p r)) rs) holds.fills.palette
    holds.numbered
    ∙ all_there (length kept.palette) seen colours holds.fills.few holds.all_seen in
    rw (sides, count, below, there) refl

-- the picture is the result of reading
pub picture_is : (kept : Colours) (last : Option Pixel) (maxval : ℕ) (registers : List ℕ) (left width height : ℕ)
    (colours : List Parts)
    → HoldsPixels kept last maxval registers left (width * height) colours
    → picture_of_parts width height kept.palette registers ≡ picture_of (length kept.palette) width height colours
picture_is kept last maxval registers left width height colours holds =
    ap₂ (picture_of_parts width height) holds.fills.palette holds.numbered

-- ---- bytes one after another

pub leads_none : (s : Samples) → LeadsOn s s []
leads_none s = λ colours holds. (colours, holds, λ rest. refl)

pub leads_then : (a b c : Samples) (xs ys : List ℕ) → LeadsOn a b xs → LeadsOn b c ys → LeadsOn a c (xs ++ ys)
leads_then a b c xs ys f g = λ colours holds.
    let p = f colours holds in
    let q = g p.0 p.1 in
    (q.0, q.1, λ rest. ap (samples_on a colours) (append_assoc xs ys rest) ∙ p.2 (ys ++ rest) ∙ q.2 rest)

pub fails_then : (a b : Samples) (fault : PpmFault) (whole xs ys : List ℕ) → whole ≡ xs ++ ys → LeadsOn a b xs
    → FailsOn b fault ys
    → FailsOn a fault whole
fails_then a b fault whole xs ys e f g = λ colours holds rest.
    let p = f colours holds in
    subst (λ (r : Result PictureValue PpmFault). Refuses fault r)
    (sym (ap (λ (t : List ℕ). samples_on a colours (t ++ rest)) e
    ∙ ap (samples_on a colours) (append_assoc xs ys rest) ∙ p.2 (ys ++ rest)))
    (g p.0 p.1 rest)

pub has_read_more : (a b c : Samples) (bytes rest tail : List ℕ) → HasRead a b bytes rest → HasRead b c rest tail
    → HasRead a c bytes tail
has_read_more a b c bytes rest tail p q = record {
  prefix = p.prefix ++ q.prefix;
  joined = p.joined ∙ ap (λ (t : List ℕ). p.prefix ++ t) q.joined ∙ sym (append_assoc p.prefix q.prefix tail);
  fewer = omega (arith, p.fewer, q.fewer, length-append p.prefix q.prefix);
  leads = leads_then a b c p.prefix q.prefix p.leads q.leads;
}

no_rest : (rest : List ℕ) → (length rest == 0) ≡ true → rest ≡ []
no_rest [] e = refl
no_rest (x ∷ xs) e = let none : length (x ∷ xs) ≡ 0 = eqb-true _ _ e in absurd (omega (arith, none))

pub has_read_all : (a b : Samples) (bytes rest : List ℕ) → HasRead a b bytes rest → (length rest == 0) ≡ true
    → LeadsOn a b bytes × (budget b + length bytes ≤ budget a)
has_read_all a b bytes rest p e =
    let same : p.prefix ≡ bytes =
    sym (p.joined ∙ ap (λ (t : List ℕ). p.prefix ++ t) (no_rest rest e) ∙ append-nil p.prefix) in
    (subst (LeadsOn a b) same p.leads, omega (arith, p.fewer, ap length same))

-- a fault after the bytes that were read
pub has_read_fails : (a b : Samples) (bytes rest : List ℕ) (fault : PpmFault) → HasRead a b bytes rest
    → FailsOn b fault rest → FailsOn a fault bytes
has_read_fails a b bytes rest fault p fails = λ colours holds more.
    let led = p.leads colours holds in
    subst (Refuses fault)
    (sym (ap (λ (t : List ℕ). samples_on a colours (t ++ more)) p.joined
    ∙ ap (samples_on a colours) (append_assoc p.prefix rest more) ∙ led.2 (rest ++ more)))
    (fails led.0 led.1 more)

pub pixel_leads_on : (old new : Samples) (xs : List ℕ) → old.partial ≡ Nothing → new.partial ≡ Nothing
    → Leads old new xs
    → LeadsOn old new xs
pixel_leads_on old new xs e f h = λ colours holds.
    let p = h colours holds in
    (p.0, p.1, λ rest. rw (e, f) (p.2 rest))

pub three_prefix : (xs : List ℕ) → 3 ≤ length xs
    → xs ≡ (slice_index xs 0 ∷ slice_index xs 1 ∷ slice_index xs 2 ∷ []) ++ take (length xs - 3) (drop 3 xs)
three_prefix [] le = absurd (omega arith)
three_prefix (x ∷ []) le = absurd (omega arith)
three_prefix (x ∷ y ∷ []) le = absurd (omega arith)
three_prefix (x ∷ y ∷ z ∷ xs) le =
    ap (λ (t : List ℕ). x ∷ y ∷ z ∷ t) (sym (take_past (length (x ∷ y ∷ z ∷ xs) - 3) xs (omega arith)))

pub one_prefix : (xs : List ℕ) → 1 ≤ length xs → xs ≡ (slice_index xs 0 ∷ []) ++ take (length xs - 1) (drop 1 xs)
one_prefix [] le = absurd (omega arith)
one_prefix (x ∷ xs) le = ap (λ (t : List ℕ). x ∷ t) (sym (take_past (length (x ∷ xs) - 1) xs (omega arith)))

-- ---- missing samples

pub short_pixel : (count maxval n at : ℕ) (colours : List Parts) (partial : PartialPixel) → 0 < n
    → is_good partial maxval n ≡ true
    → pixels count maxval n colours at (partial_samples partial ++ [])
    ≡ at_fault Short (at + length (partial_samples partial))
short_pixel count maxval zero at colours partial some good = absurd (omega arith)
short_pixel count maxval (suc n) at colours Nothing some good = ap (at_fault Short) (omega arith)
short_pixel count maxval (suc n) at colours (Red red) some good =
    let first : nat_le red maxval ≡ true = grind (arith, nat_tests) in
    simp first
short_pixel count maxval (suc n) at colours (RedGreen red green) some good =
    let first : nat_le red maxval ≡ true = grind (arith, nat_tests) in
    let second : nat_le green maxval ≡ true = grind (arith, nat_tests) in
    simp (first, second)

pub short_fails : (s : Samples) (colours : List Parts) → 0 < s.left → is_good s.partial s.maxval s.left ≡ true
    → samples_on s colours [] ≡ at_fault Short (s.place + length (partial_samples s.partial))
short_fails s colours some good = rw
    (short_pixel (registers_in s) s.maxval s.left s.place colours s.partial some good) refl

pub budget_whole : (s : Samples) → s.partial ≡ Nothing → budget s ≡ 3 * s.left
budget_whole s e = rw e (omega arith)

pub refused_by : (fault other : PpmFault) (result : Result PictureValue PpmFault) → fault ≡ other
    → Refuses other result → Refuses fault result
refused_by fault other result e h = subst (λ (f : PpmFault). Refuses f result) (sym e) h

-- ---- how many different colours

grows_by : (seen : List Parts) (c : Parts) (t : Bool) → list_any (is_same c) seen ≡ t
    → length seen ≤ length (with_colour seen c)
grows_by seen c true e = rw e (omega arith)
grows_by seen c false e = rw e (omega (arith, length-append seen (c ∷ [])))

grows : (seen more : List Parts) → length seen ≤ length (fold with_colour seen more)
grows seen [] = omega arith
grows seen (c ∷ more) =
    le_trans (grows_by seen c (list_any (is_same c) seen) refl) (grows (with_colour seen c) more)

-- a prefix of the colours has no more different ones
pub distinct_grows : (colours more : List Parts) → length (distinct colours) ≤ length (distinct (colours ++ more))
distinct_grows colours more =
    subst (λ (seen : List Parts). length (distinct colours) ≤ length seen)
    (sym (fold-append with_colour [] colours more)) (grows (distinct colours) more)
