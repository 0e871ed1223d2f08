-- A walk over bytes, state by state: numbers, fields and commands. It is unique.
use Rattle.std.proofs.Common.{◌≡◌, ℕ, ◌+◌, ◌-◌, ◌*◌, ◌<◌, ◌≤◌, Bool, true, false, cond, eqb, ltb, leb, List, [], ◌∷◌}
use Rattle.std.proofs.Common.{◌++◌, length, Option, Some, None, refl, sym, ap, subst, ◌∙◌, append_assoc, arith}
use Rattle.std.proofs.Common.{length-append, inl, inr}
use Rattle.std.specs.Prelude.{◌&&◌, ◌⊎◌, IsTrue}
use Rattle.std.specs.Char.{digit_value}
use Rattle.std.specs.Str.Parse.{AllDigits, digits_value_after}
use Rattle.std.proofs.lemmas.List.{append-nil}
use Rattle.std.proofs.lemmas.Bool.{cond-true, cond-false, ne_eqb, le-leb, lt-ltb}
use Rattle.std.proofs.lemmas.Bool.Decides.{nat_tests}
use Rattle.sixel_grammar.specs.declared.command.Event.{Event}
use Rattle.sixel_grammar.specs.declared.command.Placed.{Placed}
use Rattle.sixel_grammar.specs.declared.command.Command.{Command}
use Rattle.sixel_grammar.specs.declared.command.Command.TheVariants.{Sixel, Repeat, Raster, Select, Define}
use Rattle.sixel_grammar.specs.declared.command.Command.TheVariants.{CarriageReturn, NextLine}
use Rattle.sixel_grammar.specs.declared.command.Event.TheVariants.{Step}
use Rattle.sixel_grammar.specs.Bytes.{is_filler, is_digit, is_data}
use Rattle.sixel_grammar.specs.Number.{NumberText, Fields}
use Rattle.sixel_grammar.specs.Spelling.{SpellsCommand, is_open_ended, four_of}
use Rattle.sixel_grammar.specs.Faults.{Form, Parameters, NoCommand, RepeatNumber, RasterFields, ColourFields, is_idle}
use Rattle.sixel_grammar.specs.Next.{with_digit, number_next, begin, within, settled, chosen, next_of}
use Rattle.sixel_grammar.proofs.NumberLemmas.{digit_range, digit_value-is}

-- an event with its offset, and the number of bytes that completed it
pub record Stamp : Type 0 where
  pub completed : ℕ
  pub placed : Placed

abbrev pub stamp : ℕ → ℕ → Event → Stamp
stamp k place event = record { completed = k; placed = record { place = place; event = event } }

-- what is open, the offset where it began, and the events so far
pub record State : Type 0 where
  pub form : Form
  pub opened : ℕ
  pub so_far : List Stamp

abbrev pub state : Form → ℕ → List Stamp → State
state f o s = record { form = f; opened = o; so_far = s }

abbrev pub with_stamp : List Stamp → ℕ → ℕ → Option Event → List Stamp
with_stamp s k place None = s
with_stamp s k place (Some event) = s ++ stamp k place event ∷ []

-- the offset of the event that byte number n completes itself: n if the byte ends a command, otherwise `opened`
abbrev pub moved : ℕ → ℕ → Option Event → ℕ
moved opened n None = opened
moved opened n (Some event) = n

abbrev pub after : ℕ → ℕ → List Stamp → Option (Option Event × Form × Option Event) → Option State
after n opened s None = None
after n opened s (Some x) =
    Some (state x.1 (cond (is_idle x.1) (n + 1) (moved opened n x.0))
    (with_stamp (with_stamp s (n + 1) opened x.0) (n + 1) (moved opened n x.0) x.2))

-- the state after byte number n
abbrev pub one : ℕ → Option State → ℕ → Option State
one n None b = None
one n (Some s) b = after n s.opened s.so_far (next_of s.form b)

-- the state after these bytes, the first of them at offset n, if all are accepted
abbrev pub walk : ℕ → Option State → List ℕ → Option State
walk n s [] = s
walk n s (b ∷ bs) = walk (n + 1) (one n s b) bs

pub walk-none : (n : ℕ) (xs : List ℕ) → walk n None xs ≡ None
walk-none n [] = refl
walk-none n (x ∷ xs) = walk-none (n + 1) xs

pub walk-append : (n m : ℕ) (s : Option State) (xs ys : List ℕ) → m ≡ n + length xs
    → walk n s (xs ++ ys) ≡ walk m (walk n s xs) ys
walk-append n m s [] ys e = let z : n ≡ m = omega arith in ap (λ (k : ℕ). walk k s ys) z
walk-append n m s (x ∷ xs) ys e = walk-append (n + 1) m (one n s x) xs ys (omega arith)

pub walk-then : (n m : ℕ) (s t u : Option State) (xs ys : List ℕ) → m ≡ n + length xs → walk n s xs ≡ t
    → walk m t ys ≡ u → walk n s (xs ++ ys) ≡ u
walk-then n m s t u xs ys e h k = walk-append n m s xs ys e ∙ ap (λ (w : Option State). walk m w ys) h ∙ k

abbrev pub idle : ℕ → List Stamp → Option State
idle n s = Some (state NoCommand n s)

pub within-some : (n o : ℕ) (s : List Stamp) (f g : Form) (b : ℕ) (d : Option Event) → within f b ≡ Some (g, d)
    → one n (Some (state f o s)) b ≡ after n o s (Some (None, g, d))
within-some n o s f g b d h = ap (λ (w : Option (Form × Option Event)). after n o s (chosen w (settled f) (begin b))) h

digit_not_data : (b : ℕ) → is_digit b ≡ true → is_data b ≡ false
digit_not_data b h = grind (arith, nat_tests)

digit_not_filler : (b : ℕ) → is_digit b ≡ true → is_filler b ≡ false
digit_not_filler b h = grind (arith, nat_tests)

digit_from_value : (c : ℕ) → digit_value c < 10 → is_digit c ≡ true
digit_from_value c h = grind (arith, nat_tests)

-- no command begins with a digit
pub begin-digit : (b : ℕ) → is_digit b ≡ true → begin b ≡ None
begin-digit b h =
    let r = digit_range b h in
    cond-false (is_data b) _ _ (digit_not_data b h) ∙ cond-false (is_filler b) _ _ (digit_not_filler b h)
    ∙ cond-false (eqb b 33) _ _ (ne_eqb b 33 (λ e. omega arith))
    ∙ cond-false (eqb b 34) _ _ (ne_eqb b 34 (λ e. omega arith))
    ∙ cond-false (eqb b 35) _ _ (ne_eqb b 35 (λ e. omega arith))
    ∙ cond-false (eqb b 36) _ _ (ne_eqb b 36 (λ e. omega arith))
    ∙ cond-false (eqb b 45) _ _ (ne_eqb b 45 (λ e. omega arith))
    ∙ cond-false (eqb b 27) _ _ (ne_eqb b 27 (λ e. omega arith))
    ∙ cond-false (eqb b 156) _ _ (ne_eqb b 156 (λ e. omega arith))

-- a byte that begins a command is neither a digit nor `;`
pub begin-not_digit : (b : ℕ) (x : Form × Option Event) → begin b ≡ Some x → is_digit b ≡ false
begin-not_digit b x h = by_test (is_digit b) (λ t. absurd (let n = begin-digit b t in cc))
  where
    by_test : (t : Bool) → (t ≡ true → t ≡ false) → t ≡ false
    by_test true f = f refl
    by_test false f = refl

pub begin-not_separator : (b : ℕ) (x : Form × Option Event) → begin b ≡ Some x → eqb b 59 ≡ false
begin-not_separator b x h = ne_eqb b 59
    (λ e. let n : begin 59 ≡ Some x = subst (λ (k : ℕ). begin k ≡ Some x) e h in absurd cc)

-- ---- numbers

after-ge : (ds : List ℕ) (n : ℕ) → n ≤ digits_value_after 10 n ds
after-ge [] n = omega arith
after-ge (d ∷ ds) n = let h = after-ge ds (n * 10 + digit_value d) in omega arith

-- a form with an open number takes each digit that doesn't make the number too large
abbrev pub TakesDigits : (ℕ → Form) → Type 0
TakesDigits k =
    (n o : ℕ) (s : List Stamp) (m b : ℕ) → is_digit b ≡ true → with_digit m b ≤ 65535
    → one n (Some (state (k m) o s)) b ≡ Some (state (k (with_digit m b)) o s)

digits_walk : (k : ℕ → Form) → TakesDigits k → (n o : ℕ) (s : List Stamp) (ds : List ℕ) (m : ℕ)
    → AllDigits 10 ds → digits_value_after 10 m ds ≤ 65535
    → walk n (Some (state (k m) o s)) ds ≡ Some (state (k (digits_value_after 10 m ds)) o s)
digits_walk k takes n o s [] m all le = refl
digits_walk k takes n o s (d ∷ ds) m all le =
    let t = digit_from_value d all.0 in
    let r = digit_range d t in
    let v : m * 10 + digit_value d ≡ with_digit m d = ap (λ (j : ℕ). m * 10 + j) (digit_value-is d r.0 r.1) in
    let small = after-ge ds (m * 10 + digit_value d) in
    ap (λ (w : Option State). walk (n + 1) w ds)
    (takes n o s m d t (omega arith) ∙ ap (λ (j : ℕ). Some (state (k j) o s)) (sym v))
    ∙ digits_walk k takes (n + 1) o s ds (m * 10 + digit_value d) all.1 le

pub number_walk : (k : ℕ → Form) → TakesDigits k → (n o : ℕ) (s : List Stamp) (m : ℕ) (text : List ℕ)
    → NumberText m text → walk n (Some (state (k 0) o s)) text ≡ Some (state (k m) o s)
number_walk k takes n o s m text h =
    digits_walk k takes n o s text 0 h.digits (omega (arith, h.value, h.small))
    ∙ ap (λ (j : ℕ). Some (state (k j) o s)) h.value

abbrev pub TakesSeparators : (List ℕ → ℕ → Form) → ℕ → Type 0
TakesSeparators k most =
    (n o : ℕ) (s : List Stamp) (ns : List ℕ) (m : ℕ) → length ns < most
    → one n (Some (state (k ns m) o s)) 59 ≡ Some (state (k (ns ++ m ∷ []) 0) o s)

-- one field, then the others
first_field : (k : List ℕ → ℕ → Form) (most : ℕ) → ((ns : List ℕ) → TakesDigits (k ns)) → TakesSeparators k most
    → (n o : ℕ) (s : List Stamp) (j : ℕ) (before text more whole : List ℕ) (f : Form) → whole ≡ text ++ 59 ∷ more
    → NumberText j text → length before < most
    → ((i : ℕ) → walk i (Some (state (k (before ++ j ∷ []) 0) o s)) more ≡ Some (state f o s))
    → walk n (Some (state (k before 0) o s)) whole ≡ Some (state f o s)
first_field k most digits separators n o s j before text more whole f e h lt go =
    ap (walk n (Some (state (k before 0) o s))) e
    ∙ walk-then n (n + length text) (Some (state (k before 0) o s)) (Some (state (k before j) o s))
    (Some (state f o s)) text (59 ∷ more) refl (number_walk (k before) (digits before) n o s j text h)
    (ap (λ (w : Option State). walk (n + length text + 1) w more) (separators (n + length text) o s before j lt)
    ∙ go (n + length text + 1))

pub fields_walk : (k : List ℕ → ℕ → Form) (most : ℕ) → ((ns : List ℕ) → TakesDigits (k ns))
    → TakesSeparators k most → (n o : ℕ) (s : List Stamp) (ns : List ℕ) (m : ℕ) (before text : List ℕ)
    → Fields (ns ++ m ∷ []) text → length before + length ns ≤ most
    → walk n (Some (state (k before 0) o s)) text ≡ Some (state (k (before ++ ns) m) o s)
fields_walk k most digits separators n o s [] m before text h le =
    number_walk (k before) (digits before) n o s m text h
    ∙ ap (λ (t : List ℕ). Some (state (k t m) o s)) (sym (append-nil before))
fields_walk k most digits separators n o s (j ∷ []) m before text h le =
    first_field k most digits separators n o s j before h.0 h.1 text (k (before ++ j ∷ []) m) h.2 h.3 (omega arith)
    (λ i.
    fields_walk k most digits separators i o s [] m (before ++ j ∷ []) h.1 h.4
    (omega (arith, length-append before (j ∷ [])))
    ∙ ap (λ (t : List ℕ). Some (state (k t m) o s)) (append-nil (before ++ j ∷ [])))
fields_walk k most digits separators n o s (j ∷ q ∷ ns) m before text h le =
    first_field k most digits separators n o s j before h.0 h.1 text (k (before ++ j ∷ q ∷ ns) m) h.2 h.3 (omega arith)
    (λ i.
    fields_walk k most digits separators i o s (q ∷ ns) m (before ++ j ∷ []) h.1 h.4
    (omega (arith, length-append before (j ∷ [])))
    ∙ ap (λ (t : List ℕ). Some (state (k t m) o s)) (append_assoc before (j ∷ []) (q ∷ ns)))

number-goes : (k : ℕ → Form) (m b : ℕ) → is_digit b ≡ true → with_digit m b ≤ 65535
    → (other : Option (Form × Option Event))
    → cond (is_digit b) (number_next k m b) other ≡ Some (k (with_digit m b), None)
number-goes k m b t small other =
    cond-true (is_digit b) _ _ t ∙ cond-true (leb (with_digit m b) 65535) _ _ (le-leb (with_digit m b) 65535 small)

pub colour-digits : (ns : List ℕ) → TakesDigits (ColourFields ns)
colour-digits ns n o s m b t small =
    within-some n o s (ColourFields ns m) (ColourFields ns (with_digit m b)) b None
    (number-goes (ColourFields ns) m b t small _)

pub colour-separators : TakesSeparators ColourFields 4
colour-separators n o s ns m lt =
    within-some n o s (ColourFields ns m) (ColourFields (ns ++ m ∷ []) 0) 59 None
    (cond-true (ltb (length ns) 4) _ _ (lt-ltb (length ns) 4 lt))

pub raster-digits : (ns : List ℕ) → TakesDigits (RasterFields ns)
raster-digits ns n o s m b t small =
    within-some n o s (RasterFields ns m) (RasterFields ns (with_digit m b)) b None
    (number-goes (RasterFields ns) m b t small _)

pub raster-separators : TakesSeparators RasterFields 3
raster-separators n o s ns m lt =
    within-some n o s (RasterFields ns m) (RasterFields (ns ++ m ∷ []) 0) 59 None
    (cond-true (ltb (length ns) 3) _ _ (lt-ltb (length ns) 3 lt))

pub repeat-digits : TakesDigits RepeatNumber
repeat-digits n o s m b t small =
    within-some n o s (RepeatNumber m) (RepeatNumber (with_digit m b)) b None (number-goes RepeatNumber m b t small _)

pub parameters-digits : (eight : Bool) (ns : List ℕ) → TakesDigits (Parameters eight ns)
parameters-digits eight ns n o s m b t small =
    within-some n o s (Parameters eight ns m) (Parameters eight ns (with_digit m b)) b None
    (number-goes (Parameters eight ns) m b t small _)

pub parameters-separators : (eight : Bool) → TakesSeparators (Parameters eight) 2
parameters-separators eight n o s ns m lt =
    within-some n o s (Parameters eight ns m) (Parameters eight (ns ++ m ∷ []) 0) 59 None
    (cond-true (ltb (length ns) 3) _ _ (lt-ltb (length ns) 3 (omega arith))
    ∙ cond-true (ltb (length ns) 2) _ _ (lt-ltb (length ns) 2 lt))

-- ---- commands

-- for a byte that begins a command, the state is like one in which no command is open
abbrev pub Ready : ℕ → State → List Stamp → Type 0
Ready n st s = (b : ℕ) (x : Form × Option Event) → begin b ≡ Some x → one n (Some st) b ≡ one n (idle n s) b

settled-ready : (n o : ℕ) (s : List Stamp) (f : Form) (e : Event) → settled f ≡ Some e
    → ((b : ℕ) (x : Form × Option Event) → begin b ≡ Some x → within f b ≡ None)
    → Ready n (state f o s) (s ++ stamp (n + 1) o e ∷ [])
settled-ready n o s f e is w b x h =
    ap (λ (v : Option (Form × Option Event)). after n o s (chosen v (settled f) (begin b))) (w b x h)
    ∙ ap (λ (v : Option Event). after n o s (chosen None v (begin b))) is
    ∙ ap (λ (v : Option (Form × Option Event)). after n o s (chosen None (Some e) v)) h
    ∙ sym (ap (λ (v : Option (Form × Option Event)). after n n (s ++ stamp (n + 1) o e ∷ []) (chosen v None v)) h)

raster-within : (ns : List ℕ) (m b : ℕ) (x : Form × Option Event) → begin b ≡ Some x
    → within (RasterFields ns m) b ≡ None
raster-within ns m b x h =
    cond-false (is_digit b) _ _ (begin-not_digit b x h)
    ∙ cond-false (eqb b 59 && ltb (length ns) 3) _ _
    (ap (λ (t : Bool). t && ltb (length ns) 3) (begin-not_separator b x h))

colour-within : (ns : List ℕ) (m b : ℕ) (x : Form × Option Event) → begin b ≡ Some x
    → within (ColourFields ns m) b ≡ None
colour-within ns m b x h =
    cond-false (is_digit b) _ _ (begin-not_digit b x h)
    ∙ cond-false (eqb b 59 && ltb (length ns) 4) _ _
    (ap (λ (t : Bool). t && ltb (length ns) 4) (begin-not_separator b x h))

-- the state after the text of an event that began at m and ends before offset k
abbrev pub Rests : ℕ → ℕ → List Stamp → Event → State → Type 0
Rests k m s event st = Ready k st (s ++ stamp (k + cond (is_open_ended event) 1 0) m event ∷ [])
    × ((Some st ≡ idle k (s ++ stamp (k + cond (is_open_ended event) 1 0) m event ∷ [])) ⊎ IsTrue (is_open_ended event))

abbrev pub Reaches : ℕ → List Stamp → Event → List ℕ → Type 0
Reaches m s event text = (st : State) × (walk m (idle m s) text ≡ Some st) × Rests (m + length text) m s event st

shut-reaches : (m k : ℕ) (s : List Stamp) (event : Event) (text : List ℕ) → is_open_ended event ≡ false
    → k ≡ m + length text → walk m (idle m s) text ≡ idle k (s ++ stamp k m event ∷ []) → Reaches m s event text
shut-reaches m k s event text shut e w =
    let z : k ≡ m + length text + cond (is_open_ended event) 1 0 = rw shut (omega arith) in (
      state NoCommand (m + length text) (s ++ stamp (m + length text + cond (is_open_ended event) 1 0) m event ∷ []),
      w
          ∙ ap (λ (j : ℕ). idle j (s ++ stamp k m event ∷ [])) e
          ∙ ap (λ (j : ℕ). idle (m + length text) (s ++ stamp j m event ∷ [])) z,
      (λ b x h. refl, inl refl),
    )

byte-reaches : (m : ℕ) (s : List Stamp) (event : Event) (text : List ℕ) (b : ℕ) → is_open_ended event ≡ false
    → text ≡ b ∷ [] → begin b ≡ Some (NoCommand, Some event) → Reaches m s event text
byte-reaches m s event text b shut e h =
    shut-reaches m (m + 1) s event text shut (rw e (omega arith))
    (ap (walk m (idle m s)) e ∙ within-some m m s NoCommand NoCommand b (Some event) h)

pub is_data-bits : (bits : ℕ) → bits ≤ 63 → is_data (63 + bits) ≡ true
is_data-bits bits h = grind (arith, nat_tests)

data-not_digit : (bits : ℕ) → is_digit (63 + bits) ≡ false
data-not_digit bits = grind (arith, nat_tests)

bits_back : (bits : ℕ) → 63 + bits - 63 ≡ bits
bits_back bits = omega arith

repeat-ends : (count bits : ℕ) → bits ≤ 63
    → within (RepeatNumber count) (63 + bits) ≡ Some (NoCommand, Some (Step (Repeat count bits)))
repeat-ends count bits h =
    cond-false (is_digit (63 + bits)) _ _ (data-not_digit bits)
    ∙ cond-true (is_data (63 + bits)) _ _ (is_data-bits bits h)
    ∙ ap (λ (k : ℕ). Some (NoCommand, Some (Step (Repeat count k)))) (bits_back bits)

repeat-walk : (m : ℕ) (s : List Stamp) (count bits : ℕ) (number : List ℕ) → NumberText count number → bits ≤ 63
    → walk (m + 1) (Some (state (RepeatNumber 0) m s)) (number ++ (63 + bits) ∷ [])
    ≡ idle (m + 1 + length number + 1) (s ++ stamp (m + 1 + length number + 1) m (Step (Repeat count bits)) ∷ [])
repeat-walk m s count bits number h le =
    walk-then (m + 1) (m + 1 + length number) (Some (state (RepeatNumber 0) m s))
    (Some (state (RepeatNumber count) m s))
    (idle (m + 1 + length number + 1) (s ++ stamp (m + 1 + length number + 1) m (Step (Repeat count bits)) ∷ []))
    number ((63 + bits) ∷ []) refl (number_walk RepeatNumber repeat-digits (m + 1) m s count number h)
    (within-some (m + 1 + length number) m s (RepeatNumber count) NoCommand (63 + bits)
    (Some (Step (Repeat count bits))) (repeat-ends count bits le))

open-reaches : (m : ℕ) (s : List Stamp) (event : Event) (text : List ℕ) (f : Form) → is_open_ended event ≡ true
    → settled f ≡ Some event → ((b : ℕ) (x : Form × Option Event) → begin b ≡ Some x → within f b ≡ None)
    → walk m (idle m s) text ≡ Some (state f m s) → Reaches m s event text
open-reaches m s event text f is e w h = (
  state f m s,
  h,
  (
    subst (λ (k : ℕ). Ready (m + length text) (state f m s) (s ++ stamp (m + length text + k) m event ∷ []))
        (ap (λ (t : Bool). cond t 1 0) (sym is)) (settled-ready (m + length text) m s f event e w),
    inr is,
  ),
)

colour-reaches : (m : ℕ) (s : List Stamp) (event : Event) (text fields ns : List ℕ) (n : ℕ)
    → is_open_ended event ≡ true → settled (ColourFields ns n) ≡ Some event → Fields (ns ++ n ∷ []) fields
    → length ns ≤ 4 → text ≡ 35 ∷ fields → Reaches m s event text
colour-reaches m s event text fields ns n is e f le t =
    open-reaches m s event text (ColourFields ns n) is e (colour-within ns n)
    (ap (walk m (idle m s)) t
    ∙ fields_walk ColourFields 4 colour-digits colour-separators (m + 1) m s ns n [] fields f (omega arith))

raster-reaches : (m : ℕ) (s : List Stamp) (event : Event) (text fields ns : List ℕ) (n : ℕ)
    → is_open_ended event ≡ true → settled (RasterFields ns n) ≡ Some event → Fields (ns ++ n ∷ []) fields
    → length ns ≤ 3 → text ≡ 34 ∷ fields → Reaches m s event text
raster-reaches m s event text fields ns n is e f le t =
    open-reaches m s event text (RasterFields ns n) is e (raster-within ns n)
    (ap (walk m (idle m s)) t
    ∙ fields_walk RasterFields 3 raster-digits raster-separators (m + 1) m s ns n [] fields f (omega arith))

raster-cases : (m : ℕ) (s : List Stamp) (pan pad width height : ℕ) (text fields ns : List ℕ) → Fields ns fields
    → length ns ≤ 4 → four_of ns ≡ pan ∷ pad ∷ width ∷ height ∷ [] → text ≡ 34 ∷ fields
    → Reaches m s (Step (Raster pan pad width height)) text
raster-cases m s pan pad width height text fields [] f le four t = absurd f
raster-cases m s pan pad width height text fields (a ∷ []) f le four t =
    let e : settled (RasterFields [] a) ≡ Some (Step (Raster pan pad width height)) = cc in
    raster-reaches m s _ text fields [] a refl e f (omega arith) t
raster-cases m s pan pad width height text fields (a ∷ b ∷ []) f le four t =
    let e : settled (RasterFields (a ∷ []) b) ≡ Some (Step (Raster pan pad width height)) = cc in
    raster-reaches m s _ text fields (a ∷ []) b refl e f (omega arith) t
raster-cases m s pan pad width height text fields (a ∷ b ∷ c ∷ []) f le four t =
    let e : settled (RasterFields (a ∷ b ∷ []) c) ≡ Some (Step (Raster pan pad width height)) = cc in
    raster-reaches m s _ text fields (a ∷ b ∷ []) c refl e f (omega arith) t
raster-cases m s pan pad width height text fields (a ∷ b ∷ c ∷ d ∷ []) f le four t =
    let e : settled (RasterFields (a ∷ b ∷ c ∷ []) d) ≡ Some (Step (Raster pan pad width height)) = cc in
    raster-reaches m s _ text fields (a ∷ b ∷ c ∷ []) d refl e f (omega arith) t
raster-cases m s pan pad width height text fields (a ∷ b ∷ c ∷ d ∷ i ∷ ns) f le four t = absurd (omega arith)

pub command-reaches : (m : ℕ) (s : List Stamp) (c : Command) (text : List ℕ) → SpellsCommand c text
    → Reaches m s (Step c) text
command-reaches m s (Sixel bits) text h =
    byte-reaches m s (Step (Sixel bits)) text (63 + bits) refl h.1
    (cond-true (is_data (63 + bits)) _ _ (is_data-bits bits h.0)
    ∙ ap (λ (k : ℕ). Some (NoCommand, Some (Step (Sixel k)))) (bits_back bits))
command-reaches m s (Repeat count bits) text h =
    shut-reaches m (m + 1 + length h.0 + 1) s (Step (Repeat count bits)) text refl
    (rw h.3 (omega (arith, length-append h.0 ((63 + bits) ∷ []))))
    (ap (walk m (idle m s)) h.3 ∙ repeat-walk m s count bits h.0 h.1 h.2)
command-reaches m s
    (Raster pan pad width height) text h = raster-cases m s pan pad width height text h.1 h.0 h.2 h.3 h.4 h.5
command-reaches m s (Select r) text h = colour-reaches m s (Step (Select r)) text h.0 [] r refl refl h.1
    (omega arith) h.2
command-reaches m s (Define r k x y z) text h =
    colour-reaches m s (Step (Define r k x y z)) text h.0 (r ∷ k ∷ x ∷ y ∷ []) z refl refl h.1 (omega arith) h.2
command-reaches m s CarriageReturn text h = byte-reaches m s (Step CarriageReturn) text 36 refl h refl
command-reaches m s NextLine text h = byte-reaches m s (Step NextLine) text 45 refl h refl
