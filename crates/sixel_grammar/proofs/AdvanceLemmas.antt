-- What a prefix ends in after one more byte.
use Rattle.std.proofs.Common.{◌≡◌, ℕ, ◌+◌, ◌-◌, ◌<◌, ◌≤◌, true, false, eqb, leb, ltb, List, [], ◌∷◌, ◌++◌, length}
use Rattle.std.proofs.Common.{Option, Some, None, refl, ap, ◌∙◌, arith, inl, inr, append_assoc, length-append}
use Rattle.std.specs.Prelude.{◌&&◌, if◌then◌else◌}
use Rattle.std.proofs.lemmas.Bool.{cond_both, eqb-true, leb-true, ltb-true, ltb-false}
use Rattle.std.proofs.lemmas.Bool.Decides.{nat_tests}
use Rattle.sixel_grammar.specs.declared.command.Command.TheVariants.{Sixel, Repeat, Raster, Select, Define}
use Rattle.sixel_grammar.specs.declared.command.Command.TheVariants.{CarriageReturn, NextLine}
use Rattle.sixel_grammar.specs.declared.command.Event.{Event}
use Rattle.sixel_grammar.specs.declared.command.Event.TheVariants.{Start, Step, Finish}
use Rattle.sixel_grammar.specs.declared.command.Placed.{Placed}
use Rattle.sixel_grammar.specs.Bytes.{is_filler, is_data, is_digit, introducer}
use Rattle.sixel_grammar.specs.Number.{Fields}
use Rattle.sixel_grammar.specs.Document.{events_in}
use Rattle.sixel_grammar.specs.Faults.{Form, NothingYet, Introducing, Parameters, LastSeparator, NoCommand}
use Rattle.sixel_grammar.specs.Faults.{RepeatNumber, RasterFields, ColourFields, Terminating, Ended, EndsIn, is_idle}
use Rattle.sixel_grammar.specs.Next.{with_digit, begin, within, settled, chosen, next_of}
use Rattle.sixel_grammar.proofs.NumberLemmas.{no_digits, number-more, fields-more, fields-separator}
use Rattle.sixel_grammar.proofs.PieceLemmas.{Loose, loosen, grow, fill, close, settle, begun-step, begun-finish}

-- the events, then the completed one
abbrev pub with_done : List Placed → ℕ → Option Event → List Placed
with_done events opened None = events
with_done events opened (Some e) = events ++ record { place = opened; event = e } ∷ []

-- what holds after the byte, if it is accepted
abbrev pub Goes : List Placed → ℕ → List ℕ → ℕ → Option (Form × Option Event) → Type 0
Goes events opened bytes b None = Unit {0}
Goes events opened bytes b (Some x) =
    EndsIn x.0 (with_done events opened x.1) (if is_idle x.0 then length bytes + 1 else opened) (bytes ++ b ∷ [])

data_range : (b : ℕ) → is_data b ≡ true → (63 ≤ b) × (b ≤ 126)
data_range b h = grind (arith, nat_tests)

at_end : (text : List ℕ) (b c : ℕ) → text ≡ [] → b ≡ c → text ++ b ∷ [] ≡ c ∷ []
at_end text b c none e = rw (none, e) refl

pub begins : {events : List Placed} {opened : ℕ} {bytes : List ℕ} (e : Loose NoCommand events opened bytes) (b : ℕ)
    → Goes events opened bytes b (begin b)
begins {events} {opened} {bytes} e b =
    let none : e.open_bytes ≡ [] = e.opens in
    let P : Option (Form × Option Event) → Type 0 = Goes events opened bytes b in
    cond_both (is_data b) _ _ P
    (λ t.
    let r = data_range b t in
    let k : b ≡ 63 + (b - 63) = omega arith in
    close e b (Step (Sixel (b - 63))) NoCommand
    (omega arith, at_end e.open_bytes b (63 + (b - 63)) none k) refl refl
    (begun-step (events_in e.pieces) (Sixel (b - 63)) e.before))
    (λ _. cond_both (is_filler b) _ _ P
    (λ t. fill e b NoCommand none t refl e.before)
    (λ _. cond_both (eqb b 33) _ _ P
    (λ t. grow e b (RepeatNumber 0) ([], no_digits, at_end e.open_bytes b 33 none (eqb-true b 33 t)) e.before)
    (λ _. cond_both (eqb b 34) _ _ P
    (λ t. grow e b (RasterFields [] 0)
    ([], no_digits, omega arith, at_end e.open_bytes b 34 none (eqb-true b 34 t)) e.before)
    (λ _. cond_both (eqb b 35) _ _ P
    (λ t. grow e b (ColourFields [] 0)
    ([], no_digits, omega arith, at_end e.open_bytes b 35 none (eqb-true b 35 t)) e.before)
    (λ _. cond_both (eqb b 36) _ _ P
    (λ t.
    close e b (Step CarriageReturn) NoCommand (at_end e.open_bytes b 36 none (eqb-true b 36 t)) refl refl
    (begun-step (events_in e.pieces) CarriageReturn e.before))
    (λ _. cond_both (eqb b 45) _ _ P
    (λ t.
    close e b (Step NextLine) NoCommand (at_end e.open_bytes b 45 none (eqb-true b 45 t)) refl refl
    (begun-step (events_in e.pieces) NextLine e.before))
    (λ _. cond_both (eqb b 27) _ _ P
    (λ t. grow e b Terminating (at_end e.open_bytes b 27 none (eqb-true b 27 t)) e.before)
    (λ _. cond_both (eqb b 156) _ _ P
    (λ t.
    close e b (Finish true) Ended (at_end e.open_bytes b 156 none (eqb-true b 156 t)) refl refl
    (begun-finish (events_in e.pieces) true e.before))
    (λ _. tt)))))))))

both_of : (b c k m : ℕ) → (eqb b c && ltb k m) ≡ true → (b ≡ c) × (k < m)
both_of b c k m h = grind (arith, nat_tests)

-- bytes that are a lead and then fields stay so with one more byte
lead-more : (text lead fields : List ℕ) (b : ℕ) → text ≡ lead ++ fields → text ++ b ∷ [] ≡ lead ++ (fields ++ b ∷ [])
lead-more text lead fields b e = ap (λ (t : List ℕ). t ++ b ∷ []) e ∙ append_assoc lead fields (b ∷ [])

-- fields after a lead; the last field may grow
abbrev FieldsOpen : List ℕ → ℕ → List ℕ → ℕ → List ℕ → Type 0
FieldsOpen lead most ns n bytes =
    (fields : List ℕ) × Fields (ns ++ n ∷ []) fields × (length ns ≤ most) × (bytes ≡ lead ++ fields)

digit_more : (lead : List ℕ) (most : ℕ) (ns : List ℕ) (n : ℕ) (bytes : List ℕ) (b : ℕ) → is_digit b ≡ true
    → leb (with_digit n b) 65535 ≡ true → FieldsOpen lead most ns n bytes
    → FieldsOpen lead most ns (with_digit n b) (bytes ++ b ∷ [])
digit_more lead most ns n bytes b d t o = (
  o.0 ++ b ∷ [],
  fields-more ns n (with_digit n b) o.0 b
      (λ text h. number-more n text b d (leb-true (with_digit n b) 65535 t) h) o.1,
  o.2,
  lead-more bytes lead o.0 b o.3,
)

separator_more : (lead : List ℕ) (most : ℕ) (ns : List ℕ) (n : ℕ) (bytes : List ℕ) (b : ℕ) → b ≡ 59
    → length ns < most → FieldsOpen lead most ns n bytes → FieldsOpen lead most (ns ++ n ∷ []) 0 (bytes ++ b ∷ [])
separator_more lead most ns n bytes b is lt o = (
  o.0 ++ 59 ∷ [],
  fields-separator ns n o.0 o.1,
  omega (arith, length-append ns (n ∷ [])),
  rw is (lead-more bytes lead o.0 59 o.3),
)

pub goes_on : (f : Form) {events : List Placed} {opened : ℕ} {bytes : List ℕ} (e : Loose f events opened bytes)
    (b : ℕ)
    → Goes events opened bytes b (within f b)
goes_on NothingYet {events} {opened} {bytes} e b =
    let none : e.open_bytes ≡ [] = e.opens in
    let P : Option (Form × Option Event) → Type 0 = Goes events opened bytes b in
    cond_both (is_filler b) _ _ P
    (λ t. fill e b NothingYet none t refl e.before)
    (λ _. cond_both (eqb b 27) _ _ P
    (λ t. grow e b Introducing (at_end e.open_bytes b 27 none (eqb-true b 27 t)) e.before)
    (λ _.
    cond_both (eqb b 144) _ _ P
    (λ t.
    grow e b (Parameters true [] 0)
    ([], no_digits, omega arith, at_end e.open_bytes b 144 none (eqb-true b 144 t)) e.before)
    (λ _. tt)))
goes_on Introducing {events} {opened} {bytes} e b =
    let one : e.open_bytes ≡ 27 ∷ [] = e.opens in
    let P : Option (Form × Option Event) → Type 0 = Goes events opened bytes b in
    cond_both (eqb b 80) _ _ P
    (λ t. grow e b (Parameters false [] 0) ([], no_digits, omega arith, rw (one, eqb-true b 80 t) refl) e.before)
    (λ _. tt)
goes_on (Parameters eight ns n) {events} {opened} {bytes} e b =
    let o = e.opens in
    let none : events_in e.pieces ≡ [] = e.before in
    let P : Option (Form × Option Event) → Type 0 = Goes events opened bytes b in
    cond_both (is_digit b) _ _ P
    (λ d. cond_both (leb (with_digit n b) 65535) _ _ P
    (λ t.
    grow e b (Parameters eight ns (with_digit n b)) (digit_more (introducer eight) 2 ns n e.open_bytes b d t o)
    e.before)
    (λ _. tt))
    (λ _. cond_both (ltb (length ns) 3) _ _ P (λ _. cond_both (eqb b 59) _ _ P
    (λ t. cond_both (ltb (length ns) 2) _ _ P
    (λ l.
    grow e b (Parameters eight (ns ++ n ∷ []) 0)
    (separator_more (introducer eight) 2 ns n e.open_bytes b (eqb-true b 59 t) (ltb-true (length ns) 2 l) o) e.before)
    (λ l.
    let ge = ltb-false (length ns) 2 l in
    grow e b (LastSeparator eight (ns ++ n ∷ [])) (
      o.0,
      o.1,
      omega (arith, o.2, length-append ns (n ∷ [])),
      rw (eqb-true b 59 t) (ap (λ (t : List ℕ). t ++ 59 ∷ []) o.3),
    ) e.before))
    (λ _. cond_both (eqb b 113) _ _ P
    (λ t.
    close e b (Start eight (record { items = ns ++ n ∷ [] })) NoCommand (
      o.0,
      113 ∷ [],
      o.1,
      omega (arith, o.2, length-append ns (n ∷ [])),
      inl refl,
      rw (eqb-true b 113 t) (ap (λ (t : List ℕ). t ++ 113 ∷ []) o.3),
    ) refl refl
    (rw none tt))
    (λ _. tt))) (λ _. tt))
goes_on (LastSeparator eight ns) {events} {opened} {bytes} e b =
    let o = e.opens in
    let none : events_in e.pieces ≡ [] = e.before in
    let P : Option (Form × Option Event) → Type 0 = Goes events opened bytes b in
    cond_both (eqb b 113) _ _ P
    (λ t.
    close e b (Start eight (record { items = ns })) NoCommand (
      o.0,
      59 ∷ 113 ∷ [],
      o.1,
      omega (arith, o.2),
      inr (refl, o.2),
      rw (eqb-true b 113 t)
          (ap (λ (t : List ℕ). t ++ 113 ∷ []) o.3 ∙ append_assoc (introducer eight ++ o.0) (59 ∷ []) (113 ∷ [])),
    ) refl refl
    (rw none tt))
    (λ _. tt)
goes_on NoCommand e b = begins e b
goes_on (RepeatNumber n) {events} {opened} {bytes} e b =
    let o = e.opens in
    let P : Option (Form × Option Event) → Type 0 = Goes events opened bytes b in
    cond_both (is_digit b) _ _ P
    (λ d. cond_both (leb (with_digit n b) 65535) _ _ P
    (λ t.
    grow e b (RepeatNumber (with_digit n b)) (
      o.0 ++ b ∷ [],
      number-more n o.0 b d (leb-true (with_digit n b) 65535 t) o.1,
      lead-more e.open_bytes (33 ∷ []) o.0 b o.2,
    ) e.before)
    (λ _. tt))
    (λ _. cond_both (is_data b) _ _ P
    (λ t.
    let r = data_range b t in
    let k : b ≡ 63 + (b - 63) = omega arith in
    close e b (Step (Repeat n (b - 63))) NoCommand
    (o.0, o.1, omega arith, lead-more e.open_bytes (33 ∷ []) o.0 b o.2 ∙ ap (λ (c : ℕ). 33 ∷ o.0 ++ c ∷ []) k) refl refl
    (begun-step (events_in e.pieces) (Repeat n (b - 63)) e.before))
    (λ _. tt))
goes_on (RasterFields ns n) {events} {opened} {bytes} e b =
    let o = e.opens in
    let P : Option (Form × Option Event) → Type 0 = Goes events opened bytes b in
    cond_both (is_digit b) _ _ P
    (λ d. cond_both (leb (with_digit n b) 65535) _ _ P
    (λ t. grow e b (RasterFields ns (with_digit n b)) (digit_more (34 ∷ []) 3 ns n e.open_bytes b d t o) e.before)
    (λ _. tt))
    (λ _. cond_both (eqb b 59 && ltb (length ns) 3) _ _ P
    (λ t.
    let r = both_of b 59 (length ns) 3 t in
    grow e b (RasterFields (ns ++ n ∷ []) 0) (separator_more (34 ∷ []) 3 ns n e.open_bytes b r.0 r.1 o) e.before)
    (λ _. tt))
goes_on (ColourFields ns n) {events} {opened} {bytes} e b =
    let o = e.opens in
    let P : Option (Form × Option Event) → Type 0 = Goes events opened bytes b in
    cond_both (is_digit b) _ _ P
    (λ d. cond_both (leb (with_digit n b) 65535) _ _ P
    (λ t. grow e b (ColourFields ns (with_digit n b)) (digit_more (35 ∷ []) 4 ns n e.open_bytes b d t o) e.before)
    (λ _. tt))
    (λ _. cond_both (eqb b 59 && ltb (length ns) 4) _ _ P
    (λ t.
    let r = both_of b 59 (length ns) 4 t in
    grow e b (ColourFields (ns ++ n ∷ []) 0) (separator_more (35 ∷ []) 4 ns n e.open_bytes b r.0 r.1 o) e.before)
    (λ _. tt))
goes_on Terminating {events} {opened} {bytes} e b =
    let one : e.open_bytes ≡ 27 ∷ [] = e.opens in
    let P : Option (Form × Option Event) → Type 0 = Goes events opened bytes b in
    cond_both (eqb b 92) _ _ P
    (λ t.
    close e b (Finish false) Ended (rw (one, eqb-true b 92 t) refl) refl refl
    (begun-finish (events_in e.pieces) false e.before))
    (λ _. tt)
goes_on Ended {events} {opened} {bytes} e b =
    let P : Option (Form × Option Event) → Type 0 = Goes events opened bytes b in
    cond_both (is_filler b) _ _ P (λ t. fill e b Ended e.opens t refl e.before) (λ _. tt)

-- what is open is a whole command as it is, if it has all its fields
abbrev pub SettlesAs : List Placed → ℕ → List ℕ → Option Event → Type 0
SettlesAs events opened bytes None = Unit {0}
SettlesAs events opened bytes (Some event) =
    Loose NoCommand (events ++ record { place = opened; event = event } ∷ []) (length bytes) bytes

pub settles : (f : Form) {events : List Placed} {opened : ℕ} {bytes : List ℕ} (e : Loose f events opened bytes)
    → SettlesAs events opened bytes (settled f)
settles NothingYet e = tt
settles Introducing e = tt
settles (Parameters eight ns n) e = tt
settles (LastSeparator eight ns) e = tt
settles NoCommand e = tt
settles (RepeatNumber n) e = tt
settles (RasterFields [] a) e =
    let o = e.opens in
    settle e (Step (Raster a 0 0 0)) (a ∷ [], o.0, o.1, omega arith, refl, o.3)
    (begun-step (events_in e.pieces) (Raster a 0 0 0) e.before)
settles (RasterFields (a ∷ []) b) e =
    let o = e.opens in
    settle e (Step (Raster a b 0 0)) (a ∷ b ∷ [], o.0, o.1, omega arith, refl, o.3)
    (begun-step (events_in e.pieces) (Raster a b 0 0) e.before)
settles (RasterFields (a ∷ b ∷ []) c) e =
    let o = e.opens in
    settle e (Step (Raster a b c 0)) (a ∷ b ∷ c ∷ [], o.0, o.1, omega arith, refl, o.3)
    (begun-step (events_in e.pieces) (Raster a b c 0) e.before)
settles (RasterFields (a ∷ b ∷ c ∷ []) d) e =
    let o = e.opens in
    settle e (Step (Raster a b c d)) (a ∷ b ∷ c ∷ d ∷ [], o.0, o.1, omega arith, refl, o.3)
    (begun-step (events_in e.pieces) (Raster a b c d) e.before)
settles (RasterFields (a ∷ b ∷ c ∷ d ∷ ns) n) e = tt
settles (ColourFields [] a) e =
    let o = e.opens in settle e (Step (Select a)) (o.0, o.1, o.3) (begun-step (events_in e.pieces) (Select a) e.before)
settles (ColourFields (a ∷ []) n) e = tt
settles (ColourFields (a ∷ b ∷ []) n) e = tt
settles (ColourFields (a ∷ b ∷ c ∷ []) n) e = tt
settles (ColourFields (a ∷ b ∷ c ∷ d ∷ []) n) e =
    let o = e.opens in
    settle e (Step (Define a b c d n)) (o.0, o.1, o.3) (begun-step (events_in e.pieces) (Define a b c d n) e.before)
settles (ColourFields (a ∷ b ∷ c ∷ d ∷ k ∷ ns) n) e = tt
settles Terminating e = tt
settles Ended e = tt

-- the offset of the byte's own event: that of the byte if it ends a command, otherwise `opened`
abbrev pub second_place : ℕ → List ℕ → Option Event → ℕ
second_place opened bytes None = opened
second_place opened bytes (Some event) = length bytes

-- what holds after the byte, if it is accepted
abbrev pub GoesTo : List Placed → ℕ → List ℕ → ℕ → Option (Option Event × Form × Option Event) → Type 0
GoesTo events opened bytes b None = Unit {0}
GoesTo events opened bytes b (Some x) =
    EndsIn x.1 (with_done (with_done events opened x.0) (second_place opened bytes x.0) x.2)
    (if is_idle x.1 then length bytes + 1 else second_place opened bytes x.0) (bytes ++ b ∷ [])

abbrev SettledGoes : List Placed → ℕ → List ℕ → ℕ → Option Event → Option (Form × Option Event) → Type 0
SettledGoes events opened bytes b None y = Unit {0}
SettledGoes events opened bytes b (Some event) y =
    Goes (events ++ record { place = opened; event = event } ∷ []) (length bytes) bytes b y

settled_goes : (events : List Placed) (opened : ℕ) (bytes : List ℕ) (b : ℕ) (s : Option Event)
    → SettlesAs events opened bytes s → SettledGoes events opened bytes b s (begin b)
settled_goes events opened bytes b None h = tt
settled_goes events opened bytes b (Some event) h = begins h b

choice : (events : List Placed) (opened : ℕ) (bytes : List ℕ) (b : ℕ) (w : Option (Form × Option Event))
    (s : Option Event) (y : Option (Form × Option Event))
    → Goes events opened bytes b w → SettledGoes events opened bytes b s y
    → GoesTo events opened bytes b (chosen w s y)
choice events opened bytes b (Some x) s y g h = g
choice events opened bytes b None (Some event) (Some y) g h = h
choice events opened bytes b None (Some event) None g h = tt
choice events opened bytes b None None y g h = tt

pub advances : (f : Form) {events : List Placed} {opened : ℕ} {bytes : List ℕ}
    (e : EndsIn f events opened bytes) (b : ℕ)
    → GoesTo events opened bytes b (next_of f b)
advances f {events} {opened} {bytes} e b =
    choice events opened bytes b (within f b) (settled f) (begin b) (goes_on f (loosen e) b)
    (settled_goes events opened bytes b (settled f) (settles f (loosen e)))
