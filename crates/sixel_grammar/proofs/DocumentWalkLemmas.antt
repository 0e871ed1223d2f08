-- The walk over a document or a prefix of one is unique.
use Rattle.std.proofs.Common.{◌≡◌, ℕ, ◌+◌, ◌<◌, ◌≤◌, Bool, true, false, cond, ltb, List, [], ◌∷◌, ◌++◌, length, Option}
use Rattle.std.proofs.Common.{Some, None, refl, sym, ap, subst, ◌∙◌, append_assoc, arith, length-append, inl, inr}
use Rattle.std.specs.Prelude.{◌⊎◌, IsTrue}
use Rattle.std.specs.List.{AllByRecursion}
use Rattle.std.proofs.lemmas.List.{append-nil}
use Rattle.std.proofs.lemmas.Bool.{cond-true, cond-false, lt-ltb}
use Rattle.std.proofs.lemmas.Bool.Decides.{nat_tests}
use Rattle.sixel_grammar.specs.declared.command.Event.{Event}
use Rattle.sixel_grammar.specs.declared.command.Placed.{Placed}
use Rattle.sixel_grammar.specs.declared.command.Command.{Command}
use Rattle.sixel_grammar.specs.declared.command.Command.TheVariants.{Sixel, Repeat, Raster, Select, Define}
use Rattle.sixel_grammar.specs.declared.command.Command.TheVariants.{CarriageReturn, NextLine}
use Rattle.sixel_grammar.specs.declared.command.Event.TheVariants.{Start, Step, Finish}
use Rattle.sixel_grammar.specs.Bytes.{is_filler, is_data, introducer}
use Rattle.sixel_grammar.specs.Number.{Fields}
use Rattle.sixel_grammar.specs.Spelling.{Spells, SpellsCommand, is_open_ended}
use Rattle.sixel_grammar.specs.Document.{AreFiller, Piece, IsPiece, bytes_of, joined, events_in, AreRest, AreWhole}
use Rattle.sixel_grammar.specs.Document.{Parses}
use Rattle.sixel_grammar.specs.Prefixes.{completed_at, IsViable}
use Rattle.sixel_grammar.specs.Faults.{Form, NothingYet, Introducing, Parameters, LastSeparator, NoCommand}
use Rattle.sixel_grammar.specs.Faults.{RepeatNumber, RasterFields, ColourFields, Terminating, Ended, EndsIn, AreSteps}
use Rattle.sixel_grammar.specs.Faults.{AreBegun, IsClosed, is_idle}
use Rattle.sixel_grammar.specs.Next.{begin, within, next_of}
use Rattle.sixel_grammar.proofs.WalkLemmas.{Stamp, stamp, State, state, after, idle, walk, walk-append, walk-none}
use Rattle.sixel_grammar.proofs.WalkLemmas.{walk-then}
use Rattle.sixel_grammar.proofs.WalkLemmas.{within-some}
use Rattle.sixel_grammar.proofs.WalkLemmas.{number_walk, fields_walk, repeat-digits, raster-digits, raster-separators}
use Rattle.sixel_grammar.proofs.WalkLemmas.{colour-digits, colour-separators, parameters-digits, parameters-separators}
use Rattle.sixel_grammar.proofs.WalkLemmas.{is_data-bits, Ready, Rests, command-reaches}
use Rattle.sixel_grammar.proofs.PieceLemmas.{start_of}

-- the events of pieces from offset n on, each with the number of bytes that complete it
abbrev pub stamped_from : ℕ → List Piece → List Stamp
stamped_from n [] = []
stamped_from n (p ∷ ps) = stamp (completed_at n p) (n + length p.filler) p.event ∷ stamped_from
    (n + length (bytes_of p)) ps

abbrev pub start : Option State
start = Some (state NothingYet 0 [])

-- ---- filler

filler_not_data : (b : ℕ) → is_filler b ≡ true → is_data b ≡ false
filler_not_data b h = grind (arith, nat_tests)

pub begin-filler : (b : ℕ) → is_filler b ≡ true → begin b ≡ Some (NoCommand, None)
begin-filler b h = cond-false (is_data b) _ _ (filler_not_data b h) ∙ cond-true (is_filler b) _ _ h

-- filler keeps a form in which nothing is open; the next thing opens after the filler
filler_walk : (f : Form) → is_idle f ≡ true → ((b : ℕ) → is_filler b ≡ true → within f b ≡ Some (f, None))
    → (n : ℕ) (s : List Stamp) (xs : List ℕ) → AreFiller xs
    → walk n (Some (state f n s)) xs ≡ Some (state f (n + length xs) s)
filler_walk f is keeps n s [] k = let z : n ≡ n + 0 = omega arith in ap (λ (j : ℕ). Some (state f j s)) z
filler_walk f is keeps n s (x ∷ xs) k =
    let z : n + 1 + length xs ≡ n + length (x ∷ xs) = omega arith in
    ap (λ (w : Option State). walk (n + 1) w xs)
    (within-some n n s f f x None (keeps x k.0) ∙ ap (λ (t : Bool). Some (state f (cond t (n + 1) n) s)) is)
    ∙ filler_walk f is keeps (n + 1) s xs k.1 ∙ ap (λ (j : ℕ). Some (state f j s)) z

idle-filler : (n : ℕ) (s : List Stamp) (xs : List ℕ) → AreFiller xs → walk n (idle n s) xs ≡ idle (n + length xs) s
idle-filler n s xs k = filler_walk NoCommand refl begin-filler n s xs k

outside-filler : (n : ℕ) (xs : List ℕ) → AreFiller xs
    → walk n (Some (state NothingYet n [])) xs ≡ Some (state NothingYet (n + length xs) [])
outside-filler n xs k = filler_walk NothingYet refl (λ b t. cond-true (is_filler b) _ _ t) n [] xs k

ended-filler : (n : ℕ) (s : List Stamp) (xs : List ℕ) → AreFiller xs
    → walk n (Some (state Ended n s)) xs ≡ Some (state Ended (n + length xs) s)
ended-filler n s xs k = filler_walk Ended refl (λ b t. cond-true (is_filler b) _ _ t) n s xs k

-- ---- from a ready state

-- the first byte is allowed when no command is open
abbrev pub Begins : List ℕ → Type 0
Begins [] = ⊥
Begins (b ∷ bs) = (x : Form × Option Event) × (begin b ≡ Some x)

filler-begins : (xs ys : List ℕ) → AreFiller xs → (0 < length xs) ⊎ Begins ys → Begins (xs ++ ys)
filler-begins [] ys k h = elim h [ inl t ↦ absurd (omega arith) | inr t ↦ t ]
filler-begins (x ∷ xs) ys k h = ((NoCommand, None), begin-filler x k.0)

ready-walk : (n : ℕ) (st : State) (s : List Stamp) (text : List ℕ) → Ready n st s → Begins text
    → walk n (Some st) text ≡ walk n (idle n s) text
ready-walk n st s [] r h = absurd h
ready-walk n st s (b ∷ bs) r h = ap (λ (w : Option State). walk (n + 1) w bs) (r b h.0 h.1)

-- filler and then a text, from a ready state
ready-then : (n m : ℕ) (st : State) (s : List Stamp) (filler text : List ℕ) (u : Option State) → Ready n st s
    → AreFiller filler → (0 < length filler) ⊎ Begins text → m ≡ n + length filler → walk m (idle m s) text ≡ u
    → walk n (Some st) (filler ++ text) ≡ u
ready-then n m st s filler text u r k h e w =
    ready-walk n st s (filler ++ text) r (filler-begins filler text k h)
    ∙ walk-then n m (idle n s) (idle m s) u filler text e
    (idle-filler n s filler k ∙ ap (λ (j : ℕ). idle j s) (sym e)) w

data-begins : (bits : ℕ) → bits ≤ 63 → Begins ((63 + bits) ∷ [])
data-begins bits h = (_, cond-true (is_data (63 + bits)) _ _ (is_data-bits bits h))

command-begins : (c : Command) (text : List ℕ) → SpellsCommand c text → Begins text
command-begins (Sixel bits) text h = subst Begins (sym h.1) (data-begins bits h.0)
command-begins (Repeat count bits) text h = subst Begins (sym h.3) (_, refl)
command-begins (Raster pan pad width height) text h = subst Begins (sym h.5) (_, refl)
command-begins (Select r) text h = subst Begins (sym h.2) (_, refl)
command-begins (Define r k x y z) text h = subst Begins (sym h.2) (_, refl)
command-begins CarriageReturn text h = subst Begins (sym h) (_, refl)
command-begins NextLine text h = subst Begins (sym h) (_, refl)

-- ---- pieces

abbrev pub PieceReaches : ℕ → State → List Stamp → Piece → Type 0
PieceReaches n st s p =
    (u : State) × (walk n (Some st) (bytes_of p) ≡ Some u)
    × Rests (n + length (bytes_of p)) (n + length p.filler) s p.event u

step_piece : (n : ℕ) (st : State) (s : List Stamp) (filler text : List ℕ) (event : Event) → Ready n st s
    → AreFiller filler → Spells event text → (more : List Event) → AreSteps (event ∷ more)
    → PieceReaches n st s (record { filler = filler; text = text; event = event }) × AreSteps more
step_piece n st s filler text (Start eight ps) r k spells more h = absurd h
step_piece n st s filler text (Step c) r k spells more h =
    let m : ℕ = n + length filler in
    let g = command-reaches (n + length filler) s c text spells in
    let e : n + length filler + length text ≡ n + length (filler ++ text) = omega
    (arith, length-append filler text) in (
      (
        g.0,
        ready-then n (n + length filler) st s filler text (Some g.0) r k (inr (command-begins c text spells)) refl g.1,
        subst (λ (j : ℕ). Rests j (n + length filler) s (Step c) g.0) e g.2,
      ),
      h,
    )
step_piece n st s filler text (Finish eight) r k spells more h = absurd h

-- after pieces: the state is ready, and it is idle or needs a byte after the last piece
abbrev pub Settles : List Piece → ℕ → List Stamp → State → Type 0
Settles ps n s u = Ready n u s × ((Some u ≡ idle n s) ⊎ ((j : ℕ) → IsClosed ps j → 0 < j))

-- a statement about the number of bytes walked, the events of pieces and the state after them
abbrev pub Fact : Type 1
Fact = ℕ → List Stamp → Option State → Type 0

abbrev pub HoldsAfter : Fact → ℕ → List Stamp → Option State → List Piece → Type 0
HoldsAfter F n s w ps = F (n + length (joined ps)) (s ++ stamped_from n ps) (walk n w (joined ps))

-- one piece, then the others
holds-more : (F : Fact) (ps : List Piece) (p : Piece) (n : ℕ) (s : List Stamp) (w v : Option State)
    → walk n w (bytes_of p) ≡ v
    → HoldsAfter F (n + length (bytes_of p)) (s ++ stamp (completed_at n p) (n + length p.filler) p.event ∷ []) v ps
    → HoldsAfter F n s w (p ∷ ps)
holds-more F ps p n s w v h l =
    let e : n + length (bytes_of p) + length (joined ps) ≡ n + length (bytes_of p ++ joined ps) =
    omega (arith, length-append (bytes_of p) (joined ps)) in
    rw (walk-append n (n + length (bytes_of p)) w (bytes_of p) (joined ps) refl, h, ← e)
    (subst (λ t. F (n + length (bytes_of p) + length (joined ps)) t (walk (n + length (bytes_of p)) v (joined ps)))
    (append_assoc s (stamp (completed_at n p) (n + length p.filler) p.event ∷ [])
    (stamped_from (n + length (bytes_of p)) ps)) l)

abbrev pub IsLed : List Piece → Fact
IsLed all m t v = (u : State) × (v ≡ Some u) × Settles all m t u

abbrev pub Leads : List Piece → ℕ → List Stamp → Option State → List Piece → Type 0
Leads all n s w ps = HoldsAfter (IsLed all) n s w ps

pub steps_walk : (ps : List Piece) (p : Piece) (n : ℕ) (st : State) (s : List Stamp) → Ready n st s
    → ((Some st ≡ idle n s) ⊎ IsTrue (is_open_ended p.event)) → AllByRecursion IsPiece ps → AreSteps (events_in ps)
    → Leads (p ∷ ps) n s (Some st) ps
steps_walk [] p n st s r shut each h =
    let z : n ≡ n + 0 = omega arith in
    let last : (Some st ≡ idle n s) ⊎ ((j : ℕ) → IsClosed (p ∷ []) j → 0 < j) =
    elim shut [ inl t ↦ inl t | inr t ↦ inr (λ j c. c t) ] in (
      st,
      refl,
      subst (λ (j : ℕ). Settles (p ∷ []) j (s ++ []) st) z
          (subst (λ (t : List Stamp). Settles (p ∷ []) n t st) (sym (append-nil s)) (r, last)),
    )
steps_walk (q ∷ ps) p n st s r shut each h =
    let g = step_piece n st s q.filler q.text q.event r each.0.filler_is each.0.spells (events_in ps) h in
    holds-more (IsLed (q ∷ ps)) ps q n s (Some st) (Some g.0.0) g.0.1
    (steps_walk ps q (n + length (bytes_of q)) g.0.0 _ g.0.2.0 g.0.2.1 each.1 g.1)

abbrev IsFinished : Fact
IsFinished m t v = v ≡ Some (state Ended m t)

abbrev pub finished : ℕ → List Stamp → List Piece → Option State
finished n s ps = Some (state Ended (n + length (joined ps)) (s ++ stamped_from n ps))

finish_walk : (m : ℕ) (s : List Stamp) (eight : Bool) (text : List ℕ) → Spells (Finish eight) text
    → walk m (idle m s) text ≡ Some (state Ended (m + length text) (s ++ stamp (m + length text) m (Finish eight) ∷ []))
finish_walk m s false text h =
    let e : m + 1 + 1 ≡ m + length text = rw h (omega arith) in
    ap (walk m (idle m s)) h ∙ ap (λ (j : ℕ). Some (state Ended j (s ++ stamp j m (Finish false) ∷ []))) e
finish_walk m s true text h =
    let e : m + 1 ≡ m + length text = rw h (omega arith) in
    ap (walk m (idle m s)) h ∙ ap (λ (j : ℕ). Some (state Ended j (s ++ stamp j m (Finish true) ∷ []))) e

finish-begins : (eight : Bool) (text : List ℕ) → Spells (Finish eight) text → Begins text
finish-begins false text h = subst Begins (sym h) (_, refl)
finish-begins true text h = subst Begins (sym h) (_, refl)

none_said : (ps : List Piece) → events_in ps ≡ [] → ps ≡ []
none_said [] h = refl
none_said (p ∷ ps) h = absurd cc

finish_piece : (n : ℕ) (st : State) (s : List Stamp) (filler text : List ℕ) (eight : Bool) → Ready n st s
    → AreFiller filler → Spells (Finish eight) text
    → walk n (Some st) ((filler ++ text) ++ [])
    ≡ finished n s (record { filler = filler; text = text; event = Finish eight } ∷ [])
finish_piece n st s filler text eight r k spells =
    let m : ℕ = n + length filler in
    let l = length-append filler text in
    let end : n + length filler + length text ≡ n + length ((filler ++ text) ++ []) =
    omega (arith, l, length-append (filler ++ text) []) in
    let done : n + length filler + length text
    ≡ completed_at n (record { filler = filler; text = text; event = Finish eight }) = omega (arith, l) in
    ap (walk n (Some st)) (append-nil (filler ++ text))
    ∙ ready-then n (n + length filler) st s filler text _ r k (inr (finish-begins eight text spells)) refl
    (finish_walk (n + length filler) s eight text spells)
    ∙ ap (λ (i : ℕ). Some (state Ended i (s ++ stamp (n + length filler + length text) m (Finish eight) ∷ []))) end
    ∙ ap (λ (j : ℕ). Some (state Ended (n + length ((filler ++ text) ++ [])) (s ++ stamp j m (Finish eight) ∷ []))) done

-- a piece after the start is a step, or the finish, which is the last one
rest_piece : (n : ℕ) (st : State) (s : List Stamp) (filler text : List ℕ) (event : Event) → Ready n st s
    → AreFiller filler → Spells event text → (more : List Event) → AreRest (event ∷ more)
    → (PieceReaches n st s (record { filler = filler; text = text; event = event }) × AreRest more) ⊎
    ((walk n (Some st) ((filler ++ text) ++ [])
    ≡ finished n s (record { filler = filler; text = text; event = event } ∷ [])) × (more ≡ []))
rest_piece n st s filler text (Start eight ps) r k spells more h = absurd h
rest_piece n st s filler text (Step c) r k spells more h =
    inl ((step_piece n st s filler text (Step c) r k spells [] tt).0, h)
rest_piece n st s filler text (Finish eight) r k spells more h =
    inr (finish_piece n st s filler text eight r k spells, h)

pub rest_walk : (ps : List Piece) (n : ℕ) (st : State) (s : List Stamp) → Ready n st s
    → AllByRecursion IsPiece ps → AreRest (events_in ps) → walk n (Some st) (joined ps) ≡ finished n s ps
rest_walk [] n st s r each h = absurd h
rest_walk (p ∷ ps) n st s r each h =
    elim (rest_piece n st s p.filler p.text p.event r each.0.filler_is each.0.spells (events_in ps) h) [
      | inl g ↦ holds-more IsFinished ps p n s (Some st) (Some g.0.0) g.0.1
          (rest_walk ps (n + length (bytes_of p)) g.0.0 _ g.0.2.0 each.1 g.1)
      | inr g ↦
          subst (λ (qs : List Piece). walk n (Some st) (joined (p ∷ qs)) ≡ finished n s (p ∷ qs))
          (sym (none_said ps g.1)) g.0
    ]

-- ---- the start

introduced : (n m : ℕ) (eight : Bool)
    → walk n (Some (state NothingYet m [])) (introducer eight) ≡ Some (state (Parameters eight [] 0) m [])
introduced n m false = refl
introduced n m true = refl

parameters_walk : (n m : ℕ) (eight : Bool) (ns : List ℕ) (k : ℕ) (fields : List ℕ)
    → Fields (ns ++ k ∷ []) fields → length ns ≤ 2
    → walk n (Some (state NothingYet m [])) (introducer eight ++ fields) ≡ Some (state (Parameters eight ns k) m [])
parameters_walk n m eight ns k fields f le =
    walk-then n (n + length (introducer eight)) _ _ _ (introducer eight) fields refl (introduced n m eight)
    (fields_walk (Parameters eight) 2 (parameters-digits eight) (parameters-separators eight)
    (n + length (introducer eight)) m [] ns k [] fields f (omega arith))

-- after the parameters: `q`, or `;q` if there are three
last_walk : (n m : ℕ) (eight : Bool) (ns : List ℕ) (k : ℕ) (last : List ℕ) → length ns ≤ 2
    → ((last ≡ 113 ∷ []) ⊎ ((last ≡ 59 ∷ 113 ∷ []) × (length (ns ++ k ∷ []) ≡ 3)))
    → walk n (Some (state (Parameters eight ns k) m [])) last
    ≡ idle (n + length last) (stamp (n + length last) m (start_of eight (ns ++ k ∷ [])) ∷ [])
last_walk n m eight ns k last le h =
    elim h [
      | inl e ↦
          let w : within (Parameters eight ns k) 113 ≡ Some (NoCommand, Some (start_of eight (ns ++ k ∷ []))) =
          cond-true (ltb (length ns) 3) _ _ (lt-ltb (length ns) 3 (omega arith)) in
          ap (walk n (Some (state (Parameters eight ns k) m []))) e
          ∙ within-some n m [] (Parameters eight ns k) NoCommand 113 (Some (start_of eight (ns ++ k ∷ []))) w
          ∙ ap (λ (t : List ℕ). idle (n + length t) (stamp (n + length t) m (start_of eight (ns ++ k ∷ [])) ∷ []))
          (sym e)
      | inr e ↦
          let ge : (length ns ≡ 2) = omega (arith, e.1, length-append ns (k ∷ [])) in
          let w : within (Parameters eight ns k) 59 ≡ Some (LastSeparator eight (ns ++ k ∷ []), None) = rw ge refl in
          let z : n + 1 + 1 ≡ n + 2 = omega arith in
          ap (walk n (Some (state (Parameters eight ns k) m []))) e.0
          ∙ ap (λ (t : Option State). walk (n + 1) t (113 ∷ []))
          (within-some n m [] (Parameters eight ns k) (LastSeparator eight (ns ++ k ∷ [])) 59 None w)
          ∙ ap (λ (j : ℕ). idle j (stamp j m (start_of eight (ns ++ k ∷ [])) ∷ [])) z
          ∙ ap (λ (t : List ℕ). idle (n + length t) (stamp (n + length t) m (start_of eight (ns ++ k ∷ [])) ∷ []))
          (sym e.0)
    ]

abbrev pub begun : ℕ → ℕ → Event → Option State
begun k m event = idle k (stamp k m event ∷ [])

one_start : (m : ℕ) (eight : Bool) (ns : List ℕ) (k : ℕ) (text fields last : List ℕ)
    → Fields (ns ++ k ∷ []) fields → length ns ≤ 2
    → ((last ≡ 113 ∷ []) ⊎ ((last ≡ 59 ∷ 113 ∷ []) × (length (ns ++ k ∷ []) ≡ 3)))
    → text ≡ introducer eight ++ fields ++ last
    → walk m (Some (state NothingYet m [])) text ≡ begun (m + length text) m (start_of eight (ns ++ k ∷ []))
one_start m eight ns k text fields last f le l e =
    let z : m + length (introducer eight ++ fields) + length last ≡ m + length text =
    omega (arith, ap length e, length-append (introducer eight ++ fields) last) in
    ap (walk m (Some (state NothingYet m []))) e
    ∙ walk-then m (m + length (introducer eight ++ fields)) _ _ _ (introducer eight ++ fields) last refl
    (parameters_walk m m eight ns k fields f le)
    (last_walk (m + length (introducer eight ++ fields)) m eight ns k last le l)
    ∙ ap (λ (j : ℕ). begun j m (start_of eight (ns ++ k ∷ []))) z

start_text : (m : ℕ) (eight : Bool) (ns : List ℕ) (text fields last : List ℕ) → Fields ns fields → length ns ≤ 3
    → ((last ≡ 113 ∷ []) ⊎ ((last ≡ 59 ∷ 113 ∷ []) × (length ns ≡ 3)))
    → text ≡ introducer eight ++ fields ++ last
    → walk m (Some (state NothingYet m [])) text ≡ begun (m + length text) m (start_of eight ns)
start_text m eight [] text fields last f le l e = absurd f
start_text m eight (a ∷ []) text fields last f le l e = one_start m eight [] a text fields last f (omega arith) l e
start_text m eight (a ∷ b ∷ []) text fields last f le l e = one_start m eight (a ∷ []) b text fields last f
    (omega arith) l e
start_text m eight (a ∷ b ∷ c ∷ []) text fields last f le l e =
    one_start m eight (a ∷ b ∷ []) c text fields last f (omega arith) l e
start_text m eight (a ∷ b ∷ c ∷ d ∷ ns) text fields last f le l e = absurd (omega arith)

-- the first piece: the state after it
first_piece : (p : Piece) (eight : Bool) (ns : List ℕ) → p.event ≡ start_of eight ns → IsPiece p
    → walk 0 start (bytes_of p)
    ≡ idle (0 + length (bytes_of p)) (stamp (completed_at 0 p) (0 + length p.filler) p.event ∷ [])
first_piece p eight ns is h =
    let spells : Spells (start_of eight ns) p.text = subst (λ (e : Event). Spells e p.text) is h.spells in
    let w = start_text (0 + length p.filler) eight ns p.text spells.0 spells.1 spells.2 spells.3 spells.4 spells.5 in
    let e : 0 + length p.filler + length p.text ≡ 0 + length (bytes_of p) = omega
    (arith, length-append p.filler p.text) in
    let d : 0 + length (bytes_of p) ≡ completed_at 0 p = rw is (omega arith) in
    walk-then 0 (0 + length p.filler) start
    (Some (state NothingYet (0 + length p.filler) [])) _ p.filler p.text refl
    (outside-filler 0 p.filler h.filler_is) w
    ∙ ap (λ (j : ℕ). begun j (0 + length p.filler) (start_of eight ns)) e
    ∙ ap (λ (j : ℕ). idle (0 + length (bytes_of p)) (stamp j (0 + length p.filler) (start_of eight ns) ∷ [])) d
    ∙ ap (λ (v : Event). idle (0 + length (bytes_of p)) (stamp (completed_at 0 p) (0 + length p.filler) v ∷ []))
    (sym is)

begun_piece : (event : Event) (more : List Event) → AreBegun (event ∷ more)
    → (eight : Bool) × (ns : List ℕ) × (event ≡ start_of eight ns) × AreSteps more × (is_open_ended event ≡ false)
begun_piece (Start eight ps) more h = (eight, ps.items, refl, h, refl)
begun_piece (Step c) more h = absurd h
begun_piece (Finish eight) more h = absurd h

whole_piece : (event : Event) (more : List Event) → AreWhole (event ∷ more)
    → (eight : Bool) × (ns : List ℕ) × (event ≡ start_of eight ns) × AreRest more
whole_piece (Start eight ps) more h = (eight, ps.items, refl, h)
whole_piece (Step c) more h = absurd h
whole_piece (Finish eight) more h = absurd h

pub begun_walk : (ps : List Piece) → AllByRecursion IsPiece ps → AreBegun (events_in ps) → Leads ps 0 [] start ps
begun_walk [] each h = absurd h
begun_walk (p ∷ ps) each h =
    let g = begun_piece p.event (events_in ps) h in
    holds-more (IsLed (p ∷ ps)) ps p 0 [] start _ (first_piece p g.0 g.1 g.2 each.0)
    (steps_walk ps p (0 + length (bytes_of p)) _ _ (λ b x k. refl) (inl refl) each.1 g.3)

pub whole_walk : (ps : List Piece) → AllByRecursion IsPiece ps → AreWhole (events_in ps)
    → walk 0 start (joined ps) ≡ finished 0 [] ps
whole_walk [] each h = absurd h
whole_walk (p ∷ ps) each h =
    let g = whole_piece p.event (events_in ps) h in
    holds-more IsFinished ps p 0 [] start _ (first_piece p g.0 g.1 g.2 each.0)
    (rest_walk ps (0 + length (bytes_of p)) _ _ (λ b x k. refl) each.1 g.3)

pub document_walk : (ps : List Piece) (bytes : List ℕ) → Parses ps bytes
    → walk 0 start bytes ≡ Some (state Ended (length bytes) (stamped_from 0 ps))
document_walk ps bytes d =
    let e : 0 + length (joined ps) + length d.after ≡ length bytes =
    omega (arith, ap length d.bytes_are, length-append (joined ps) d.after) in
    ap (walk 0 start) d.bytes_are
    ∙ walk-then 0 (0 + length (joined ps)) start (finished 0 [] ps) _ (joined ps) d.after refl
    (whole_walk ps d.each d.whole) (ended-filler (0 + length (joined ps)) (stamped_from 0 ps) d.after d.after_is)
    ∙ ap (λ (j : ℕ). Some (state Ended j (stamped_from 0 ps))) e

-- ---- what ends in a form

abbrev Walked : Form → ℕ → List ℕ → List Piece → Type 0
Walked f opened bytes ps = walk 0 start bytes ≡ Some (state f opened (stamped_from 0 ps))

-- forms before the start
early : (f : Form) {events : List Placed} {opened : ℕ} {bytes : List ℕ} (e : EndsIn f events opened bytes)
    → events_in e.pieces ≡ []
    → ((n m : ℕ) → walk n (Some (state NothingYet m [])) e.open_bytes ≡ Some (state f m []))
    → Walked f opened bytes e.pieces
early f {opened = opened} e none w =
    let ps : e.pieces ≡ [] = none_said e.pieces none in
    let z : 0 + length e.filler ≡ opened = omega (arith, e.opened_is, ap (λ (t : List Piece). length (joined t)) ps) in
    ap (walk 0 start) (e.bytes_are ∙ ap (λ (t : List Piece). joined t ++ e.filler ++ e.open_bytes) ps)
    ∙ walk-then 0 (0 + length e.filler) start
    (Some (state NothingYet (0 + length e.filler) [])) _ e.filler e.open_bytes refl
    (outside-filler 0 e.filler e.filler_is) (w (0 + length e.filler) (0 + length e.filler))
    ∙ ap (λ (j : ℕ). Some (state f j [])) z
    ∙ ap (λ (t : List Piece). Some (state f opened (stamped_from 0 t))) (sym ps)

-- after pieces: filler, then what is open
settles-then : (n m : ℕ) (u : State) (s : List Stamp) (ps : List Piece) (filler text : List ℕ) (v : Option State)
    → Settles ps n s u → AreFiller filler → (text ≡ []) ⊎ Begins text → IsClosed ps (length filler + length text)
    → m ≡ n + length filler → walk m (idle m s) text ≡ v → walk n (Some u) (filler ++ text) ≡ v
settles-then n m u s ps filler text v l k h closed e w =
    elim l.1 [
      | inl same ↦
          ap (λ (t : Option State). walk n t (filler ++ text)) same
          ∙ walk-then n m (idle n s) (idle m s) v filler text e
          (idle-filler n s filler k ∙ ap (λ (j : ℕ). idle j s) (sym e)) w
      | inr f ↦
          let some = f (length filler + length text) closed in
          let b : (0 < length filler) ⊎ Begins text = elim h [
            | inl none ↦ inl
                (omega (arith, ap length none))
            | inr t ↦ inr t
          ] in
          ready-then n m u s filler text v l.0 k b e w
    ]

-- forms after the start
late : (f : Form) {events : List Placed} {opened : ℕ} {bytes : List ℕ} (e : EndsIn f events opened bytes)
    → AreBegun (events_in e.pieces) → (e.open_bytes ≡ []) ⊎ Begins e.open_bytes
    → ((m : ℕ) (s : List Stamp) → walk m (idle m s) e.open_bytes ≡ Some (state f m s))
    → Walked f opened bytes e.pieces
late f {opened = opened} e before h w =
    let l = begun_walk e.pieces e.each before in
    let z : opened ≡ 0 + length (joined e.pieces) + length e.filler = omega (arith, e.opened_is) in
    ap (walk 0 start) (e.bytes_are ∙ append_assoc (joined e.pieces) e.filler e.open_bytes)
    ∙ walk-then 0 (0 + length (joined e.pieces)) start (Some l.0) _ (joined e.pieces)
    (e.filler ++ e.open_bytes) refl l.1
    (settles-then (0 + length (joined e.pieces)) opened l.0
    (stamped_from 0 e.pieces) e.pieces e.filler e.open_bytes _ l.2 e.filler_is h e.closed z
    (w opened (stamped_from 0 e.pieces)))

last_parameters : (n m : ℕ) (eight : Bool) (ns fields : List ℕ) → Fields ns fields → length ns ≡ 3
    → walk n (Some (state NothingYet m [])) (introducer eight ++ fields ++ 59 ∷ [])
    ≡ Some (state (LastSeparator eight ns) m [])
last_parameters n m eight [] fields f e = absurd (omega arith)
last_parameters n m eight (a ∷ []) fields f e = absurd (omega arith)
last_parameters n m eight (a ∷ b ∷ []) fields f e = absurd (omega arith)
last_parameters n m eight (a ∷ b ∷ c ∷ []) fields f e =
    walk-then n (n + length (introducer eight ++ fields)) _ _ _ (introducer eight ++ fields) (59 ∷ []) refl
    (parameters_walk n m eight (a ∷ b ∷ []) c fields f (omega arith)) refl
last_parameters n m eight (a ∷ b ∷ c ∷ d ∷ ns) fields f e = absurd (omega arith)

-- the bytes of an ended string are its pieces and then filler
ended_bytes : {events : List Placed} {opened : ℕ} {bytes : List ℕ} (e : EndsIn Ended events opened bytes)
    → bytes ≡ joined e.pieces ++ e.filler
ended_bytes e =
    let none : e.open_bytes ≡ [] = e.opens in
    e.bytes_are ∙ ap (λ (t : List ℕ). joined e.pieces ++ e.filler ++ t) none ∙ append-nil (joined e.pieces ++ e.filler)

pub ended_parses : {events : List Placed} {opened : ℕ} {bytes : List ℕ} (e : EndsIn Ended events opened bytes)
    → Parses e.pieces bytes
ended_parses e = record {
  after = e.filler;
  bytes_are = ended_bytes e;
  each = e.each;
  whole = e.before;
  after_is = e.filler_is;
}

-- the walk over bytes that end in a form reaches that form
pub ends_walk : (f : Form) {events : List Placed} {opened : ℕ} {bytes : List ℕ} (e : EndsIn f events opened bytes)
    → walk 0 start bytes ≡ Some (state f opened (stamped_from 0 e.pieces))
ends_walk NothingYet e = early NothingYet e e.before (λ n m. ap (walk n (Some (state NothingYet m []))) e.opens)
ends_walk Introducing e = early Introducing e e.before (λ n m. ap (walk n (Some (state NothingYet m []))) e.opens)
ends_walk (Parameters eight ns k) e =
    let o = e.opens in
    early (Parameters eight ns k) e e.before
    (λ n m. ap (walk n (Some (state NothingYet m []))) o.3 ∙ parameters_walk n m eight ns k o.0 o.1 o.2)
ends_walk (LastSeparator eight ns) e =
    let o = e.opens in
    early (LastSeparator eight ns) e e.before
    (λ n m. ap (walk n (Some (state NothingYet m []))) o.3 ∙ last_parameters n m eight ns o.0 o.1 o.2)
ends_walk NoCommand e = late NoCommand e e.before (inl e.opens) (λ m s. ap (walk m (idle m s)) e.opens)
ends_walk (RepeatNumber k) e =
    let o = e.opens in
    late (RepeatNumber k) e e.before (inr (subst Begins (sym o.2) (_, refl)))
    (λ m s. ap (walk m (idle m s)) o.2 ∙ number_walk RepeatNumber repeat-digits (m + 1) m s k o.0 o.1)
ends_walk (RasterFields ns k) e =
    let o = e.opens in
    late (RasterFields ns k) e e.before (inr (subst Begins (sym o.3) (_, refl)))
    (λ m s.
    ap (walk m (idle m s)) o.3
    ∙ fields_walk RasterFields 3 raster-digits raster-separators (m + 1) m s ns k [] o.0 o.1 (omega (arith, o.2)))
ends_walk (ColourFields ns k) e =
    let o = e.opens in
    late (ColourFields ns k) e e.before (inr (subst Begins (sym o.3) (_, refl)))
    (λ m s.
    ap (walk m (idle m s)) o.3
    ∙ fields_walk ColourFields 4 colour-digits colour-separators (m + 1) m s ns k [] o.0 o.1 (omega (arith, o.2)))
ends_walk Terminating e =
    late Terminating e e.before (inr (subst Begins (sym e.opens) (_, refl))) (λ m s. ap (walk m (idle m s)) e.opens)
ends_walk Ended {events} {opened} {bytes} e =
    let long : length bytes ≡ opened =
    omega (arith, e.opened_is, ap length (ended_bytes e), length-append (joined e.pieces) e.filler) in
    document_walk e.pieces bytes (ended_parses e)
    ∙ ap (λ (j : ℕ). Some (state Ended j (stamped_from 0 e.pieces))) long

-- no document continues with a byte that isn't accepted
pub not_viable : (f : Form) {events : List Placed} {opened : ℕ} {bytes : List ℕ}
    (e : EndsIn f events opened bytes) (b : ℕ) (more : List ℕ)
    → next_of f b ≡ None → IsViable (bytes ++ b ∷ more) → ⊥
not_viable f {opened = opened} {bytes = bytes} e b more refused v =
    let d = document_walk v.1.pieces ((bytes ++ b ∷ more) ++ v.1.tail) v.1.parses in
    let n : walk 0 start ((bytes ++ b ∷ more) ++ v.1.tail) ≡ None =
    walk-then 0 (0 + length (bytes ++ b ∷ more)) start None None (bytes ++ b ∷ more) v.1.tail refl
    (walk-then 0 (0 + length bytes) start (Some (state f opened (stamped_from 0 e.pieces))) None bytes (b ∷ more) refl
    (ends_walk f e)
    (ap (λ (t : Option (Option Event × Form × Option Event)).
    walk (0 + length bytes + 1) (after (0 + length bytes) opened (stamped_from 0 e.pieces) t) more) refused
    ∙ walk-none (0 + length bytes + 1) more))
    (walk-none (0 + length (bytes ++ b ∷ more)) v.1.tail) in
    cc
