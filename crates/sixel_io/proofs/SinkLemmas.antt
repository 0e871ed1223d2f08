-- What is put into a block, and what the sink behind it takes.
use Rattle.std.proofs.Common.{◌≡◌, ℕ, zero, suc, ◌+◌, ◌-◌, ◌<◌, ◌≤◌, Option, Some, None, Result, Ok, Err, List, [], ◌∷◌}
use Rattle.std.proofs.Common.{◌++◌, length, take, drop, refl, sym, ap, subst, ◌∙◌, append_assoc, arith}
use Rattle.std.specs.Prelude.{Bool, true, false, OnOk}
use Rattle.std.specs.Io.KnownBytes.{Appends, Keeps, append_known}
use Rattle.std.proofs.lemmas.List.{append-nil, append_cancel_left, length-append, length-take, take-append-drop}
use Rattle.std.proofs.lemmas.List.{take_all, take_at, take-take}
use Rattle.std.proofs.Math.Seq.{take-append-add}
use Rattle.sixel_io.specs.Blocks.{Drains, PutsAllOrNone, PutsWhole, TakesMore, WritesThrough, in_all}
use Rattle.sixel_io.specs.Devices.{NeverFlushes, Puts, SinkState, Writes, one_more}
use Rattle.sixel_io.proofs.DeviceLemmas.{Appends-then, TakesMore-refl, TakesMore-then, prefix-more}

-- ---- the texts of a list's items, put one after another

-- the text of a prefix of a list is a prefix of the list's text
prefix_given : {X : Type 0} (f : List X → List ℕ) (xs : List X) (i : ℕ)
    → ((ys zs : List X) → f (ys ++ zs) ≡ f ys ++ f zs) → take (length (f (take i xs))) (f xs) ≡ f (take i xs)
prefix_given f xs i joins =
    let whole : f xs ≡ f (take i xs) ++ f (drop i xs) =
    ap f (sym (take-append-drop i xs)) ∙ joins (take i xs) (drop i xs) in
    ap (take (length (f (take i xs)))) whole ∙ take_at (f (take i xs)) (f (drop i xs)) _ refl

-- ---- what the sink took of the bytes that were put

cancelled : (x y bs waiting prefix : List ℕ) → y ≡ x ++ bs → y ++ waiting ≡ x ++ prefix → bs ++ waiting ≡ prefix
cancelled x y bs waiting prefix taken put =
    append_cancel_left x (bs ++ waiting) prefix
    (sym (append_assoc x bs waiting) ∙ ap (λ (t : List ℕ). t ++ waiting) (sym taken) ∙ put)

take-take_min : (m n : ℕ) (xs : List ℕ) → m ≤ length (take n xs) → take m (take n xs) ≡ take m xs
take-take_min m n xs short = take-take m n xs (omega (arith, length-take n xs))

-- if the sink and its block together hold a prefix of the text, the sink took a prefix of it
pub sink_prefix : (a b : Option (List ℕ)) (waiting text : List ℕ) (n : ℕ)
    → Appends a (append_known b waiting) (take n text) → TakesMore a b → (m : ℕ) × Appends a b (take m text)
sink_prefix None b waiting text n put more = (0, tt)
sink_prefix (Some x) None waiting text n put more = absurd more.1
sink_prefix (Some x) (Some y) waiting text n put more =
    let bs = more.0 in
    let joined : bs ++ waiting ≡ take n text = cancelled x y bs waiting (take n text) more.1 put in
    let prefix : take (length bs) (take n text) ≡ bs =
    ap (take (length bs)) (sym joined) ∙ take_at bs waiting _ refl in
    let short : length bs ≤ length (take n text) = omega (arith, ap length joined, length-append bs waiting) in
    (length bs, more.1 ∙ ap (λ (t : List ℕ). x ++ t) (sym prefix ∙ take-take_min (length bs) n text short))

-- puts from an empty block
pub put_from_empty : (a b : Option (List ℕ)) (none xs : List ℕ) → none ≡ []
    → Appends (in_all a none) b xs → Appends a b xs
put_from_empty None b none xs e put = tt
put_from_empty (Some x) None none xs e put = absurd put
put_from_empty (Some x) (Some y) none xs e put =
    put ∙ ap (λ (t : List ℕ). t ++ xs) (ap (λ (t : List ℕ). x ++ t) e ∙ append-nil x)

-- puts that leave the block empty
put_to_empty : (a b : Option (List ℕ)) (none xs : List ℕ) → none ≡ [] → Appends a (in_all b none) xs → Appends a b xs
put_to_empty None b none xs e put = tt
put_to_empty (Some x) None none xs e put = absurd put
put_to_empty (Some x) (Some y) none xs e put = sym (append-nil y) ∙ ap (λ (t : List ℕ). y ++ t) (sym e) ∙ put

pub nothing_put : (a b : Option (List ℕ)) → Keeps a b → Appends a b []
nothing_put None b kept = tt
nothing_put (Some x) None kept = absurd kept
nothing_put (Some x) (Some y) kept = kept ∙ sym (append-nil x)

-- all was put, and then the block was drained, or on an `Err` a prefix of it
pub drained : {A E : Type 0} (result : Result A E) (a b : Option (List ℕ)) (waiting text : List ℕ)
    → OnOk result (waiting ≡ []) → Appends a (in_all b waiting) text → TakesMore a b → Puts result a b text
drained (Ok x) a b waiting text empty put extends = put_to_empty a b waiting text empty put
drained (Err f) a b waiting text empty put extends =
    sink_prefix a b waiting text (length text)
    (subst (λ (t : List ℕ). Appends a (in_all b waiting) t) (sym (take_all (length text) text (omega arith))) put)
    extends

-- ---- bytes put one piece after another

pub Appends-none : (a : Option (List ℕ)) → Appends a a []
Appends-none None = tt
Appends-none (Some x) = sym (append-nil x)

-- appended bytes stay appended if nothing more is
pub Appends-keeps : (a b c : Option (List ℕ)) (xs : List ℕ) → Appends a b xs → Keeps b c → Appends a c xs
Appends-keeps None b c xs p q = tt
Appends-keeps (Some a) None c xs p q = absurd p
Appends-keeps (Some a) (Some b) None xs p q = absurd q
Appends-keeps (Some a) (Some b) (Some c) xs p q = q ∙ p

-- a prefix of a prefix is a prefix
pub take-longer : (n : ℕ) (xs ys : List ℕ) → (m : ℕ) × (take m (xs ++ ys) ≡ take n xs)
take-longer zero xs ys = (0, refl)
take-longer (suc n) [] ys = (0, refl)
take-longer (suc n) (x ∷ xs) ys = let r = take-longer n xs ys in (suc r.0, ap (λ (t : List ℕ). x ∷ t) r.1)

-- if a prefix of some bytes was put, a prefix of longer bytes was
pub puts-longer : (a b : Option (List ℕ)) (xs ys : List ℕ) → ((n : ℕ) × Appends a b (take n xs)) → (n : ℕ)
    × Appends a b (take n (xs ++ ys))
puts-longer a b xs ys p = let r = take-longer p.0 xs ys in (r.0, rw r.1 p.1)

-- some bytes were put, and then others, or on an `Err` a prefix of them
pub puts-then : {A E : Type 0} (result : Result A E) (a b c : Option (List ℕ)) (xs ys : List ℕ) → Appends a b xs
    → Puts result b c ys → Puts result a c (xs ++ ys)
puts-then (Ok x) a b c xs ys p q = Appends-then a b c xs ys (xs ++ ys) p q refl
puts-then (Err e) a b c xs ys p q = (
  length xs + q.0,
  Appends-then a b c xs (take q.0 ys) (take (length xs + q.0) (xs ++ ys)) p q.1
      (take-append-add xs ys q.0),
)

-- putting all or none is putting all or a prefix
pub puts-whole : {A E : Type 0} (result : Result A E) (a b : Option (List ℕ)) (xs : List ℕ)
    → PutsAllOrNone result a b xs
    → Puts result a b xs
puts-whole (Ok x) a b xs p = p
puts-whole (Err e) a b xs p = (0, nothing_put a b p)

-- ---- a text put step by step

-- the text after i steps is a prefix of the text after more
text-grows : (f s : ℕ → List ℕ) → ((i : ℕ) → f (i + 1) ≡ f i ++ s i) → (k i : ℕ)
    → (rest : List ℕ) × (f (i + k) ≡ f i ++ rest)
text-grows f s more zero i =
    let same : i + 0 ≡ i = omega arith in ([], ap f same ∙ sym (append-nil (f i)))
text-grows f s more (suc k) i =
    let before = text-grows f s more k i in
    let last : i + suc k ≡ i + k + 1 = omega arith in (
      before.0 ++ s (i + k),
      ap f last ∙ more (i + k) ∙ ap (λ (t : List ℕ). t ++ s (i + k)) before.1 ∙ append_assoc (f i) before.0 (s (i + k)),
    )

-- ---- a text in two parts

-- the first part was put, and then the second, or a prefix of it
pub puts-joined : {A E : Type 0} (result : Result A E) (a b c : Option (List ℕ)) (xs ys zs : List ℕ) → zs ≡ xs ++ ys
    → Appends a b xs → Puts result b c ys → Puts result a c zs
puts-joined result a b c xs ys zs e p q = subst (λ (t : List ℕ). Puts result a c t) (sym e)
    (puts-then result a b c xs ys p q)

-- a prefix of the first part was put
pub puts-cut : (a b : Option (List ℕ)) (xs ys zs : List ℕ) → zs ≡ xs ++ ys → ((n : ℕ) × Appends a b (take n xs))
    → (n : ℕ) × Appends a b (take n zs)
puts-cut a b xs ys zs e p = rw e (puts-longer a b xs ys p)

-- ---- calls on a sink, one after another

-- these bytes were written by successful calls
abbrev pub Written : SinkState → SinkState → List ℕ → Type 0
Written old new bytes = Writes {A = Unit {0}} {E = Unit {0}} (Ok tt) old new bytes

still_unflushed : (a b : Bool) → NeverFlushes a b → a ≡ false → b ≡ false
still_unflushed a false never is = refl
still_unflushed a true never is = cc (is, never refl)

held-then : (b c : Bool) (xs ys : List ℕ) → (0 < length xs → b ≡ false) → NeverFlushes b c
    → (0 < length ys → c ≡ false) → 0 < length (xs ++ ys) → c ≡ false
held-then b c xs [] first never second some =
    still_unflushed b c never (first (omega (arith, some, length-append xs [])))
held-then b c xs (y ∷ ys) first never second some = second (omega arith)

pub writes-none : {A E : Type 0} {x : A} {a : SinkState} → Writes {A = A} {E = E} (Ok x) a a []
writes-none {a = a} = record {
  taken = Appends-none a.taken;
  failures = refl;
  unflushed = λ t. t;
  held = λ some. absurd (omega arith);
}

-- some bytes were written, and then others, or a prefix of them
pub writes-then : {A E B F : Type 0} {x : A} (result : Result B F) {a b c : SinkState} {xs ys zs : List ℕ}
    → zs ≡ xs ++ ys → Writes {A = A} {E = E} (Ok x) a b xs → Writes result b c ys → Writes result a c zs
writes-then {B = B} {F = F} (Ok y) {a} {b} {c} {xs} {ys} {zs} e p q = record {
  taken = Appends-then a.taken b.taken c.taken xs ys zs p.taken q.taken e;
  failures = q.failures ∙ p.failures;
  unflushed = λ t. p.unflushed (q.unflushed t);
  held = λ some. held-then b.is_flushed c.is_flushed xs ys p.held q.unflushed q.held (rw (← e) some);
}
writes-then {B = B} {F = F} (Err f) {a} {b} {c} {xs} {ys} {zs} e p q = record {
  taken = puts-joined {A = B} {E = F} (Err f) a.taken b.taken c.taken xs ys zs e p.taken q.taken;
  failures = q.failures ∙ ap one_more p.failures;
  unflushed = λ t. p.unflushed (q.unflushed t);
  held = tt;
}

-- the same if the second call succeeded too
pub writes-next : {A E B F : Type 0} {x : A} {y : B} {a b c : SinkState} {xs ys : List ℕ}
    → Writes {A = A} {E = E} (Ok x) a b xs → Writes {A = B} {E = F} (Ok y) b c ys → Written a c (xs ++ ys)
writes-next {A} {E} {B} {F} {x} {y} {a} {b} {c} {xs} {ys} p q =
    let both : Writes {A = B} {E = F} (Ok y) a c (xs ++ ys) = writes-then (Ok y) refl p q in
    record { taken = both.taken; failures = both.failures; unflushed = both.unflushed; held = both.held }

-- a failed write of a prefix is a failed write of the whole
pub writes-cut : {A E B F : Type 0} {e : E} {f : F} {a b : SinkState} {xs zs : List ℕ} (ys : List ℕ) → zs ≡ xs ++ ys
    → Writes {A = A} {E = E} (Err e) a b xs → Writes {A = B} {E = F} (Err f) a b zs
writes-cut {a = a} {b = b} {xs = xs} {zs = zs} ys e p = record {
  taken = puts-cut a.taken b.taken xs ys zs e p.taken;
  failures = p.failures;
  unflushed = p.unflushed;
  held = tt;
}

pub writes-longer : {A E : Type 0} {e : E} {a b : SinkState} {xs : List ℕ} (ys : List ℕ)
    → Writes {A = A} {E = E} (Err e) a b xs → Writes {A = A} {E = E} (Err e) a b (xs ++ ys)
writes-longer ys p = writes-cut ys refl p

pub writes-as : {A E : Type 0} {result : Result A E} {a b : SinkState} {xs ys : List ℕ} → xs ≡ ys
    → Writes result a b xs → Writes result a b ys
writes-as {result = result} {a = a} {b = b} e p = subst (λ (t : List ℕ). Writes result a b t) e p

-- a successful write of equal bytes, with other result types
pub writes-done : {A E B F : Type 0} {x : A} {y : B} {a b : SinkState} {xs ys : List ℕ} → xs ≡ ys
    → Writes {A = A} {E = E} (Ok x) a b xs → Writes {A = B} {E = F} (Ok y) a b ys
writes-done e p = record {
  taken = rw (← e) p.taken;
  failures = p.failures;
  unflushed = p.unflushed;
  held = λ some. p.held (rw e some);
}

-- some bytes were written, and then a prefix of others; both together are a prefix of the whole
pub writes-stopped : {A E B F C G : Type 0} {x : A} {e : F} {f : G} {a b c : SinkState} {xs ys whole : List ℕ}
    (rest : List ℕ) → whole ≡ (xs ++ ys) ++ rest → Writes {A = A} {E = E} (Ok x) a b xs
    → Writes {A = B} {E = F} (Err e) b c ys → Writes {A = C} {E = G} (Err f) a c whole
writes-stopped {e = e} rest is p q = writes-cut rest is (writes-then (Err e) refl p q)

-- ---- calls that put bytes through a block, one after another

-- these bytes were put by successful calls
abbrev pub PutThrough : SinkState → SinkState → List ℕ → List ℕ → List ℕ → Type 0
PutThrough old new waited waits bytes =
    WritesThrough {A = Unit {0}} {E = Unit {0}} (Ok tt) old new waited waits bytes

pub through-none : {A E : Type 0} {x : A} {a : SinkState} {u : List ℕ}
    → WritesThrough {A = A} {E = E} (Ok x) a a u u []
through-none {a = a} {u = u} = record {
  put = Appends-none (in_all a.taken u);
  more = TakesMore-refl a.taken;
  failures = refl;
  unflushed = λ t. t;
}

added : (a : Option (List ℕ)) (u v xs : List ℕ) → v ≡ u ++ xs → Appends (in_all a u) (in_all a v) xs
added None u v xs is = tt
added (Some taken) u v xs is = ap (λ (t : List ℕ). taken ++ t) is ∙ sym (append_assoc taken u xs)

-- bytes were added to the block, and the sink wasn't called
pub through-added : {A E : Type 0} {x : A} {a : SinkState} {u v xs : List ℕ} → v ≡ u ++ xs
    → WritesThrough {A = A} {E = E} (Ok x) a a u v xs
through-added {a = a} {u = u} {v = v} {xs = xs} is = record {
  put = added a.taken u v xs is;
  more = TakesMore-refl a.taken;
  failures = refl;
  unflushed = λ t. t;
}

pub through-as : {A E : Type 0} {result : Result A E} {a b : SinkState} {u v xs ys : List ℕ} → xs ≡ ys
    → WritesThrough result a b u v xs → WritesThrough result a b u v ys
through-as {result = result} {a = a} {b = b} {u = u} {v = v} e p =
    subst (λ (t : List ℕ). WritesThrough result a b u v t) e p

-- putting all or none is putting all or a prefix
pub through-whole : {A E : Type 0} (result : Result A E) {a b : SinkState} {u v xs : List ℕ}
    → PutsWhole result a b u v xs → WritesThrough result a b u v xs
through-whole result {a} {b} {u} {v} {xs} p = record {
  put = puts-whole result (in_all a.taken u) (in_all b.taken v) xs p.all;
  more = prefix-more a.taken b.taken u v _ p.prefix;
  failures = p.failures;
  unflushed = p.unflushed;
}

-- some bytes were put, and then others, or on an `Err` a prefix of them
pub through-then : {A E B F : Type 0} {x : A} (result : Result B F) {a b c : SinkState} {u v w xs ys zs : List ℕ}
    → zs ≡ xs ++ ys → WritesThrough {A = A} {E = E} (Ok x) a b u v xs → WritesThrough result b c v w ys
    → WritesThrough result a c u w zs
through-then {B = B} {F = F} (Ok y) {a} {b} {c} {u} {v} {w} {xs} {ys} {zs} e p q = record {
  put = puts-joined {A = B} {E = F} (Ok y) (in_all a.taken u) (in_all b.taken v) (in_all c.taken w) xs ys zs e
      p.put q.put;
  more = TakesMore-then a.taken b.taken c.taken p.more q.more;
  failures = q.failures ∙ p.failures;
  unflushed = λ t. p.unflushed (q.unflushed t);
}
through-then {B = B} {F = F} (Err f) {a} {b} {c} {u} {v} {w} {xs} {ys} {zs} e p q = record {
  put = puts-joined {A = B} {E = F} (Err f) (in_all a.taken u) (in_all b.taken v) (in_all c.taken w) xs ys zs e
      p.put q.put;
  more = TakesMore-then a.taken b.taken c.taken p.more q.more;
  failures = q.failures ∙ ap one_more p.failures;
  unflushed = λ t. p.unflushed (q.unflushed t);
}

-- the same if the second call succeeded too
pub through-next : {A E B F C G : Type 0} {x : A} {y : B} {z : C} {a b c : SinkState} {u v w xs ys zs : List ℕ}
    → zs ≡ xs ++ ys → WritesThrough {A = A} {E = E} (Ok x) a b u v xs
    → WritesThrough {A = B} {E = F} (Ok y) b c v w ys → WritesThrough {A = C} {E = G} (Ok z) a c u w zs
through-next {A} {E} {B} {F} {C} {G} {x} {y} {z} {a} {b} {c} {u} {v} {w} {xs} {ys} {zs} e p q =
    let both : WritesThrough {A = B} {E = F} (Ok y) a c u w zs = through-then (Ok y) e p q in
    record { put = both.put; more = both.more; failures = both.failures; unflushed = both.unflushed }

-- a successful put of equal bytes, with other result types
pub through-done : {A E B F : Type 0} {x : A} {y : B} {a b : SinkState} {u v xs ys : List ℕ} → xs ≡ ys
    → WritesThrough {A = A} {E = E} (Ok x) a b u v xs → WritesThrough {A = B} {E = F} (Ok y) a b u v ys
through-done {a = a} {b = b} {u = u} {v = v} e p = record {
  put = rw (← e) p.put;
  more = p.more;
  failures = p.failures;
  unflushed = p.unflushed;
}

-- a failed put of a prefix is a failed put of the whole
pub through-cut : {A E B F : Type 0} {e : E} {f : F} {a b : SinkState} {u v xs zs : List ℕ} (ys : List ℕ)
    → zs ≡ xs ++ ys → WritesThrough {A = A} {E = E} (Err e) a b u v xs
    → WritesThrough {A = B} {E = F} (Err f) a b u v zs
through-cut {a = a} {b = b} {u = u} {v = v} {xs = xs} {zs = zs} ys e p = record {
  put = puts-cut (in_all a.taken u) (in_all b.taken v) xs ys zs e p.put;
  more = p.more;
  failures = p.failures;
  unflushed = p.unflushed;
}

-- some bytes were put, and then a prefix of others; both together are a prefix of the whole
pub through-stopped : {A E B F C G : Type 0} {x : A} {e : F} {f : G} {a b c : SinkState} {u v w xs ys whole : List ℕ}
    (rest : List ℕ) → whole ≡ (xs ++ ys) ++ rest
    → WritesThrough {A = A} {E = E} (Ok x) a b u v xs → WritesThrough {A = B} {E = F} (Err e) b c v w ys
    → WritesThrough {A = C} {E = G} (Err f) a c u w whole
through-stopped {e = e} rest is p q = through-cut rest is (through-then (Err e) refl p q)

-- the first steps of a text were put, and then a prefix of the next one
pub through-steps : {A E B F C G : Type 0} {x : A} {e : F} {f : G} {a b c : SinkState} {u v w : List ℕ}
    (text step : ℕ → List ℕ) → ((i : ℕ) → text (i + 1) ≡ text i ++ step i) → (i n : ℕ) → i < n
    → WritesThrough {A = A} {E = E} (Ok x) a b u v (text i) → WritesThrough {A = B} {E = F} (Err e) b c v w (step i)
    → WritesThrough {A = C} {E = G} (Err f) a c u w (text n)
through-steps text step more i n less p q =
    let whole = text-grows text step more (n - (i + 1)) (i + 1) in
    let end : i + 1 + (n - (i + 1)) ≡ n = omega arith in
    through-stopped whole.0 (ap text (sym end) ∙ whole.1 ∙ ap (λ (t : List ℕ). t ++ whole.0) (more i)) p q

-- from an empty block all of the text was put, and then the block was drained, or on an `Err` a prefix of it
pub through-drained : {A E B F : Type 0} {x : A} (result : Result B F) {a b c : SinkState} {none v w text : List ℕ}
    → none ≡ [] → 0 < length v → WritesThrough {A = A} {E = E} (Ok x) a b none v text → Drains result b c v w
    → Writes result a c text
through-drained {B = B} {F = F} (Ok y) {a} {b} {c} {none} {v} {w} {text} empty some p q =
    let put : Appends a.taken (in_all b.taken v) text = put_from_empty a.taken (in_all b.taken v) none text empty p.put
    in
    record {
      taken = drained {A = B} {E = F} (Ok y) a.taken c.taken w text q.empty
          (Appends-keeps a.taken (in_all b.taken v) (in_all c.taken w) text put q.bytes)
          (TakesMore-then a.taken b.taken c.taken p.more (prefix-more b.taken c.taken v w [] q.prefix));
      failures = q.failures ∙ p.failures;
      unflushed = λ t. p.unflushed (q.unflushed t);
      held = λ t. q.held some;
    }
through-drained {B = B} {F = F} (Err f) {a} {b} {c} {none} {v} {w} {text} empty some p q =
    let put : Appends a.taken (in_all b.taken v) text = put_from_empty a.taken (in_all b.taken v) none text empty p.put
    in
    record {
      taken = drained {A = B} {E = F} (Err f) a.taken c.taken w text q.empty
          (Appends-keeps a.taken (in_all b.taken v) (in_all c.taken w) text put q.bytes)
          (TakesMore-then a.taken b.taken c.taken p.more (prefix-more b.taken c.taken v w [] q.prefix));
      failures = q.failures ∙ ap one_more p.failures;
      unflushed = λ t. p.unflushed (q.unflushed t);
      held = tt;
    }

-- from an empty block a prefix of the text was put: the sink took a prefix of it
pub through-failed : {A E B F : Type 0} {e : E} {f : F} {a b : SinkState} {none v text : List ℕ} → none ≡ []
    → WritesThrough {A = A} {E = E} (Err e) a b none v text → Writes {A = B} {E = F} (Err f) a b text
through-failed {a = a} {b = b} {none = none} {v = v} {text = text} empty p = record {
  taken = sink_prefix a.taken b.taken v text p.put.0
      (put_from_empty a.taken (in_all b.taken v) none (take p.put.0 text) empty p.put.1) p.more;
  failures = p.failures;
  unflushed = p.unflushed;
  held = tt;
}
