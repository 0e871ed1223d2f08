-- The state before an event of a canonical list.
use Rattle.std.proofs.Common.{◌≡◌, ℕ, ◌+◌, Bool, true, false, ◌||◌, cond, Option, Some, None, List, [], ◌∷◌, ◌++◌, refl}
use Rattle.std.proofs.Common.{sym, ap, ◌∙◌, subst, append_assoc, append-nil}
use Rattle.std.specs.Prelude.{◌==◌, if◌then◌else◌}
use Rattle.std.specs.Option.{option_map}
use Rattle.std.proofs.lemmas.Bool.{eq-eqb}
use Rattle.sixel_grammar.specs.declared.command.Event.{Event}
use Rattle.sixel_grammar.specs.declared.command.Event.TheVariants.{Step}
use Rattle.sixel_grammar.specs.declared.command.Command.TheVariants.{Select}
use Rattle.sixel_model.specs.declared.colour.Parts.{Parts}
use Rattle.sixel_model.specs.declared.colour.Parts.TheVariants.{Rgb, Hls}
use Rattle.sixel_model.specs.Colours.{palette_at}
use Rattle.sixel_model.specs.Pictures.{PictureValue, register_of}
use Rattle.sixel_model.specs.Events.{is_eight_bit, Definition, Attributes, bits_of, is_next_line, is_finish}
use Rattle.sixel_model.specs.Events.{raster_of, select_of, named_by, definition_where, is_in_box}
use Rattle.sixel_model.specs.Geometry.{band, falls}
use Rattle.sixel_model.specs.Rules.{known, definition_of, raster_before, register_at, is_covered, BreaksOutside}
use Rattle.sixel_model.specs.Rules.{BreaksUncovered, breaks_box_size, breaks_colour_value, breaks_ratio}
use Rattle.sixel_model.specs.Rules.{breaks_raster_first, breaks_raster_twice, breaks_redefined, breaks_register}
use Rattle.sixel_model.specs.Rules.{breaks_repeat_zero, breaks_undefined, breaks_unselected}
use Rattle.sixel_model.proofs.PositionLemmas.{latest_push}
use Rattle.sixel_model.proofs.StepLemmas.{band_push, raster_push, definition_push, register_push, covered_push}
use Rattle.sixel_model.proofs.RuleLemmas.{Keeps}
use Rattle.sixel_model.proofs.CoverLemmas.{idle_falls}
use Rattle.sixel_encode_laws.proofs.KeepLemmas.{KeepEach, keep_append, keep_one}

-- ---- the definitions

-- what the definition of a colour says
abbrev pub definition_by : Parts → Definition
definition_by (Rgb r g b) = record { system = 2; x = r; y = g; z = b }
definition_by (Hls h l s) = record { system = 1; x = h; y = l; z = s }

-- the box of a picture
abbrev pub box_of : PictureValue → Attributes
box_of p = record { pan = 1; pad = 1; width = p.width; height = p.height }

-- after `line` new lines, the palette is defined, and the pixels in `done` are painted, each in its own register
pub record Stands (p : PictureValue) (before : List Event) (line : ℕ) (done : ℕ → ℕ → Bool) : Type 0 where
  pub at_line : band before ≡ line
  pub has_box : raster_before before ≡ Some (box_of p)
  pub defines : (r : ℕ) → definition_of before r ≡ option_map definition_by (palette_at p.palette r)
  pub paints : (x y : ℕ) → register_at before x y ≡ (if done x y then Some (register_of p x y) else None)
  pub covers_done : (x y : ℕ) → is_covered before x y ≡ done x y

-- ---- events that keep the rules, and what holds after them

pub record Ran (registers : ℕ) (S : List Event → Type 0) (before events : List Event) : Type 0 where
  pub keeps : KeepEach registers before events
  pub after : S (before ++ events)

pub ran_none : {registers : ℕ} {S : List Event → Type 0} {before : List Event} → S before → Ran registers S before []
unfolding KeepEach
ran_none s = record { keeps = tt; after = rw append-nil s }

pub ran_one : {registers : ℕ} {S : List Event → Type 0} {before : List Event} {e : Event} → Keeps registers before e
    → is_eight_bit e ≡ false → S (before ++ e ∷ []) → Ran registers S before (e ∷ [])
ran_one {registers} {S} {before} {e} k bits s = record { keeps = keep_one registers before e k bits; after = s }

pub ran_join : {registers : ℕ} {S T : List Event → Type 0} {before xs ys : List Event} → Ran registers S before xs
    → Ran registers T (before ++ xs) ys → Ran registers T before (xs ++ ys)
ran_join {registers} {T = T} {before} {xs} {ys} f g = record {
  keeps = keep_append registers before xs ys f.keeps g.keeps;
  after = subst T (append_assoc before xs ys) g.after;
}

pub ran_as : {registers : ℕ} {S T : List Event → Type 0} {before xs : List Event} → Ran registers S before xs
    → ((b : List Event) → S b → T b) → Ran registers T before xs
ran_as {before = before} {xs = xs} f h = record { keeps = f.keeps; after = h (before ++ xs) f.after }

-- ---- one more event

paints_step : (b d : Bool) (k o : Option ℕ) (r : ℕ) → (b ≡ true → k ≡ Some r) → o ≡ (if d then Some r else None)
    → (if b then k else o) ≡ (if b || d then Some r else None)
paints_step true d k o r h e = rw (h refl) refl
paints_step false d k o r h e = e

-- an event that is neither raster attributes nor a definition, and paints points in their own registers
pub stands_push : {p : PictureValue} {before : List Event} (e : Event) {line : ℕ} (next : ℕ) {done : ℕ → ℕ → Bool}
    (f : ℕ → ℕ → Bool) → Stands p before line done → raster_of e ≡ None
    → ((r : ℕ) → definition_where (λ q. q == r) e ≡ None) → line + cond (is_next_line e) 1 0 ≡ next
    → ((x y : ℕ) → falls before e x y ≡ f x y) → ((x y : ℕ) → f x y ≡ true → known before ≡ Some (register_of p x y))
    → Stands p (before ++ e ∷ []) next (λ x y. f x y || done x y)
stands_push {p} {before} e next {done} f s raster define move fall own = record {
  at_line = band_push before e ∙ ap (λ n. n + cond (is_next_line e) 1 0) s.at_line ∙ move;
  has_box = raster_push before e ∙ rw (s.has_box) refl;
  defines = λ r. definition_push before e r ∙ rw (define r) (s.defines r);
  paints = λ x y. register_push before e x y ∙ rw (fall x y)
      (paints_step (f x y) (done x y) (known before) (register_at before x y) (register_of p x y) (own x y)
      (s.paints x y));
  covers_done = λ x y. covered_push before e x y ∙ rw (fall x y) (ap (λ d. f x y || d) (s.covers_done x y));
}

-- the same for an event that paints nothing
pub stands_quiet : {p : PictureValue} {before : List Event} (e : Event) {line : ℕ} (next : ℕ) {done : ℕ → ℕ → Bool}
    → Stands p before line done → bits_of e ≡ 0 → raster_of e ≡ None
    → ((r : ℕ) → definition_where (λ q. q == r) e ≡ None) → line + cond (is_next_line e) 1 0 ≡ next
    → Stands p (before ++ e ∷ []) next done
stands_quiet {before} e next s bits raster define move =
    stands_push e next (λ x y. false) s raster define move
    (λ x y. idle_falls before e x y (rw bits refl)) (λ x y h. cc h)

-- the same state, for an equal line and equal points
pub stands_as : {p : PictureValue} {before : List Event} {l1 l2 : ℕ} {done also : ℕ → ℕ → Bool}
    → Stands p before l1 done → l1 ≡ l2 → ((x y : ℕ) → done x y ≡ also x y) → Stands p before l2 also
stands_as s e h = record {
  at_line = s.at_line ∙ e;
  has_box = s.has_box;
  defines = s.defines;
  paints = λ x y. rw (← h x y) (s.paints x y);
  covers_done = λ x y. s.covers_done x y ∙ h x y;
}

-- ---- the known register

pub known_same : (before : List Event) (e : Event) → select_of e ≡ None → named_by e ≡ None
    → known (before ++ e ∷ []) ≡ known before
unfolding known
known_same before e s n = rw (latest_push select_of before e, latest_push named_by before e, s, n) refl

pub known_select : (before : List Event) (r : ℕ) → known (before ++ Step (Select r) ∷ []) ≡ Some r
unfolding known
known_select before r =
    rw (
      latest_push select_of before (Step (Select r)),
      latest_push named_by before
          (Step (Select r)),
      eq-eqb r r refl,
    ) refl

-- ---- the rules

-- an event after raster attributes that keeps the other rules
pub keeps_in_box : (registers : ℕ) (before : List Event) (e : Event) (a : Attributes) → raster_before before ≡ Some a
    → raster_of e ≡ None → is_finish e ≡ false → breaks_register registers e ≡ false → breaks_colour_value e ≡ false
    → breaks_repeat_zero e ≡ false → breaks_unselected before e ≡ false → breaks_undefined before e ≡ false
    → breaks_redefined before e ≡ false
    → ((x y : ℕ) → falls before e x y ≡ true → is_in_box a x y ≡ true) → Keeps registers before e
unfolding breaks_raster_first breaks_raster_twice breaks_ratio breaks_box_size BreaksOutside BreaksUncovered
keeps_in_box registers before e a box raster finish r5 r6 r7 r8 r9 r10 inside = record {
  raster_first = rw box refl;
  raster_twice = rw (box, raster) refl;
  ratio = rw raster refl;
  box_size = rw raster refl;
  register = r5;
  colour_value = r6;
  repeat_zero = r7;
  unselected = r8;
  undefined = r9;
  redefined = r10;
  outside = λ h.
      (let k = rw box at h in let t : is_in_box a k.0 k.1 ≡ true = inside k.0 k.1 (k.2).painted in
      let f : is_in_box a k.0 k.1 ≡ false = (k.2).outside in cc (t, f));
  uncovered = λ h. (let k : false ≡ true = sym finish ∙ h.0 in cc k);
}

-- the same for an event that paints nothing
pub quiet_keeps : {registers : ℕ} {before : List Event} {e : Event} {a : Attributes} → raster_before before ≡ Some a
    → bits_of e ≡ 0 → raster_of e ≡ None → is_finish e ≡ false → breaks_register registers e ≡ false
    → breaks_colour_value e ≡ false → breaks_repeat_zero e ≡ false → breaks_redefined before e ≡ false
    → Keeps registers before e
unfolding breaks_unselected breaks_undefined
quiet_keeps {registers} {before} {e} {a} box bits raster finish r5 r6 r7 r10 =
    keeps_in_box registers before e a box raster finish r5 r6 r7 (rw bits refl) (rw bits refl) r10
    (λ x y h. (let n : falls before e x y ≡ false = idle_falls before e x y (rw bits refl) in cc (n, h)))

-- events of a canonical list that keep the rules, and the state after them
abbrev pub Passed : ℕ → PictureValue → List Event → List Event → ℕ → (ℕ → ℕ → Bool) → Type 0
Passed registers p before events line done = Ran registers (λ b. Stands p b line done) before events

pub passed_as : {registers : ℕ} {p : PictureValue} {before events : List Event} {l1 l2 : ℕ} {done also : ℕ → ℕ → Bool}
    → Passed registers p before events l1 done → l1 ≡ l2 → ((x y : ℕ) → done x y ≡ also x y)
    → Passed registers p before events l2 also
passed_as s e h = ran_as s (λ b t. stands_as t e h)

-- an event that paints nothing
pub quiet_passed : {registers : ℕ} {p : PictureValue} {before : List Event} {e : Event} {line next : ℕ}
    {done : ℕ → ℕ → Bool} → Stands p before line done → bits_of e ≡ 0 → raster_of e ≡ None → is_finish e ≡ false
    → is_eight_bit e ≡ false → breaks_register registers e ≡ false → breaks_colour_value e ≡ false
    → breaks_repeat_zero e ≡ false
    → breaks_redefined before e ≡ false → ((r : ℕ) → definition_where (λ q. q == r) e ≡ None)
    → line + cond (is_next_line e) 1 0 ≡ next → Passed registers p before (e ∷ []) next done
quiet_passed {p = p} {before} {e} {line} {next} {done} s bits raster finish seven r5 r6 r7 r10 define move =
    ran_one (quiet_keeps s.has_box bits raster finish r5 r6 r7 r10) seven
    (stands_quiet e next s bits raster define move)
