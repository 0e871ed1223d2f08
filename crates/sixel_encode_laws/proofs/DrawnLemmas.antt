-- The data commands of a register.
use Rattle.std.proofs.Common.{◌≡◌, ℕ, zero, suc, ◌+◌, ◌<◌, ◌≤◌, Bool, true, false, ◌||◌, Option, Some, None, List, []}
use Rattle.std.proofs.Common.{◌∷◌, ◌++◌, map, length, replicate, refl, sym, ap, ◌∙◌, arith}
use Rattle.std.specs.Prelude.{◌==◌, if◌then◌else◌, nat_le, flat_map, is_some, is_none}
use Rattle.std.specs.Option.{option_map}
use Rattle.std.proofs.Math.Bool.{and-false}
use Rattle.std.proofs.lemmas.Bool.{lt-ltb, leb-true, and_from, cond-false, ne_eqb, or_left, or_right}
use Rattle.std.proofs.lemmas.List.{length-replicate, length-append, map-append}
use Rattle.sixel_grammar.specs.declared.command.Event.{Event}
use Rattle.sixel_grammar.specs.declared.command.Event.TheVariants.{Step}
use Rattle.sixel_grammar.specs.declared.command.Command.TheVariants.{Sixel, Repeat}
use Rattle.sixel_model.specs.Colours.{palette_at}
use Rattle.sixel_model.specs.Pictures.{PictureValue, register_of}
use Rattle.sixel_model.specs.Events.{is_eight_bit, columns_of, bits_of, is_return, is_next_line, is_finish}
use Rattle.sixel_model.specs.Events.{is_painting, is_repeat_of_zero, raster_of, select_of, named_by, definition_where}
use Rattle.sixel_model.specs.Geometry.{column, covers, touches, falls}
use Rattle.sixel_model.specs.Rules.{known, breaks_colour_value, breaks_redefined, breaks_register, breaks_repeat_zero}
use Rattle.sixel_model.specs.Rules.{breaks_undefined, breaks_unselected}
use Rattle.sixel_model.proofs.StepLemmas.{column_push}
use Rattle.sixel_encode.specs.Canon.{Run, run_commands}
use Rattle.sixel_encode_laws.specs.Laws.{items_of}
use Rattle.sixel_encode_laws.proofs.StripLemmas.{lies, lies_replicate, lies_append}
use Rattle.sixel_encode_laws.proofs.StandLemmas.{Ran, Stands, box_of, definition_by, keeps_in_box, known_same, ran_as}
use Rattle.sixel_encode_laws.proofs.StandLemmas.{ran_join, ran_none, ran_one, stands_as, stands_push}

-- ---- one data command

-- the state inside the commands of a register
pub record Draws (p : PictureValue) (before : List Event) (band col r : ℕ) (done : ℕ → ℕ → Bool) : Type 0 where
  pub stands : Stands p before band done
  pub at_column : column 0 before ≡ col
  pub knows : known before ≡ Some r
  pub coloured : is_some (palette_at p.palette r) ≡ true

-- the point is a pixel with this register
pub record IsOwn (p : PictureValue) (r x y : ℕ) : Type 0 where
  pub inside_x : x < p.width
  pub inside_y : y < p.height
  pub own : register_of p x y ≡ r

-- a data command with n columns and the bits b
record IsData (e : Event) (n b : ℕ) : Type 0 where
  columns : columns_of 0 e ≡ n
  bits : bits_of e ≡ b
  no_raster : raster_of e ≡ None
  no_name : named_by e ≡ None
  no_select : select_of e ≡ None
  no_definition : (p : ℕ → Bool) → definition_where p e ≡ None
  no_return : is_return e ≡ false
  no_next : is_next_line e ≡ false
  no_finish : is_finish e ≡ false
  seven_bits : is_eight_bit e ≡ false
  no_zero : is_repeat_of_zero e ≡ false
  no_redefinition : (before : List Event) → breaks_redefined before e ≡ false

sixel_data : (b : ℕ) → IsData (Step (Sixel b)) 1 b
unfolding breaks_redefined
sixel_data b = record {
  columns = refl;
  bits = refl;
  no_raster = refl;
  no_name = refl;
  no_select = refl;
  no_definition = λ p. refl;
  no_return = refl;
  no_next = refl;
  no_finish = refl;
  seven_bits = refl;
  no_zero = refl;
  no_redefinition = λ before. refl;
}

repeat_data : (n b : ℕ) → 4 ≤ n → IsData (Step (Repeat n b)) n b
unfolding breaks_redefined
repeat_data n b h =
    let some : (n == 0) ≡ false = ne_eqb n 0 (λ e. omega arith) in
    record {
      columns = cond-false (n == 0) 0 n some;
      bits = refl;
      no_raster = refl;
      no_name = refl;
      no_select = refl;
      no_definition = λ p. refl;
      no_return = refl;
      no_next = refl;
      no_finish = refl;
      seven_bits = refl;
      no_zero = some;
      no_redefinition = λ before. refl;
    }

some_map : {A B : Type 0} (f : A → B) (o : Option A) → is_some o ≡ true → is_none (option_map f o) ≡ false
some_map f None h = cc h
some_map f (Some a) h = refl

-- events that keep the rules, and the state after them
abbrev pub Drawn : ℕ → PictureValue → List Event → List Event → ℕ → ℕ → ℕ → (ℕ → ℕ → Bool) → Type 0
Drawn registers p before events band col r done = Ran registers (λ b. Draws p b band col r done) before events

drawn_as : {registers : ℕ} {p : PictureValue} {before events : List Event} {band c1 c2 r : ℕ}
    {done also : ℕ → ℕ → Bool} → Drawn registers p before events band c1 r done → c1 ≡ c2
    → ((x y : ℕ) → done x y ≡ also x y) → Drawn registers p before events band c2 r also
drawn_as d e h = ran_as d (λ b s. record {
  stands = stands_as s.stands refl h;
  at_column = s.at_column ∙ e;
  knows = s.knows;
  coloured = s.coloured;
})

drawn_one : {registers : ℕ} {p : PictureValue} {before : List Event} {band col r n b : ℕ} {done : ℕ → ℕ → Bool}
    {e : Event} → Draws p before band col r done → IsData e n b
    → ((x y : ℕ) → covers col n band 1 b x y ≡ true → IsOwn p r x y)
    → Drawn registers p before (e ∷ []) band (col + n) r (λ x y. covers col n band 1 b x y || done x y)
unfolding falls touches breaks_register breaks_colour_value breaks_repeat_zero breaks_unselected breaks_undefined
drawn_one {registers} {p} {before} {band} {col} {r} {n} {b} {done} {e} d is own =
    let fall : (x y : ℕ) → falls before e x y ≡ covers col n band 1 b x y =
    λ x y. rw (d.at_column, is.columns, d.stands.at_line, is.bits) refl in
    let no_painting = and-false (is_painting e) in
    ran_one
    (keeps_in_box registers before e (box_of p) d.stands.has_box is.no_raster is.no_finish (rw is.no_name refl)
    (rw (is.no_definition (λ r. true)) refl) is.no_zero (rw d.knows no_painting)
    (rw (d.knows, d.stands.defines r, some_map definition_by (palette_at p.palette r) d.coloured) no_painting)
    (is.no_redefinition before)
    (λ x y h. let o = own x y (sym (fall x y) ∙ h) in
    and_from _ _ (lt-ltb x p.width o.inside_x) (lt-ltb y p.height o.inside_y))) is.seven_bits
    (record {
      stands = stands_push e band (λ x y. covers col n band 1 b x y) d.stands is.no_raster
          (λ q. is.no_definition (λ s. s == q)) (rw is.no_next (omega arith)) fall
          (λ x y h. d.knows ∙ ap Some (sym ((own x y h).own)));
      at_column = column_push 0 before e ∙ rw (is.no_return, d.at_column, is.columns) refl;
      knows = known_same before e is.no_select is.no_name ∙ d.knows;
      coloured = d.coloured;
    })

-- ---- data commands one after another

pub or_turn : (a b c : Bool) → (a || (b || c)) ≡ ((b || a) || c)
or_turn true true c = refl
or_turn true false c = refl
or_turn false true c = refl
or_turn false false c = refl

-- the points that these columns cover have the register
abbrev pub AreOwn : PictureValue → ℕ → ℕ → List ℕ → ℕ → Type 0
AreOwn p band col bits r = (x y : ℕ) → lies col band bits x y ≡ true → IsOwn p r x y

sixels_drawn : (n b : ℕ) {registers : ℕ} {p : PictureValue} {before : List Event} {band col r : ℕ}
    {done : ℕ → ℕ → Bool} → Draws p before band col r done → AreOwn p band col (replicate n b) r
    → Drawn registers p before (map Step (replicate n (Sixel b))) band (col + n) r
    (λ x y. lies col band (replicate n b) x y || done x y)
unfolding lies
sixels_drawn zero b d own = drawn_as (ran_none d) (omega arith) (λ x y. refl)
sixels_drawn (suc n) b {band = band} {col} {done = done} d own =
    let one = drawn_one d (sixel_data b) (λ x y h. own x y (or_left _ _ h)) in
    drawn_as (ran_join one (sixels_drawn n b one.after (λ x y h. own x y (or_right _ _ h)))) (omega arith)
    (λ x y. or_turn (lies (col + 1) band (replicate n b) x y) (covers col 1 band 1 b x y) (done x y))

-- a run paints its columns
run_drawn : (run : Run) {registers : ℕ} {p : PictureValue} {before : List Event} {band col r : ℕ}
    {done : ℕ → ℕ → Bool} → Draws p before band col r done → AreOwn p band col (replicate run.count run.item) r
    → Drawn registers p before (map Step (run_commands run)) band (col + run.count) r
    (λ x y. lies col band (replicate run.count run.item) x y || done x y)
run_drawn run {registers} {p} {before} {band} {col} {r} {done} d own =
    split (nat_le 4 run.count) (leb-true 4 run.count)
  where
    split : (t : Bool) → (t ≡ true → 4 ≤ run.count)
        → Drawn registers p before (map Step (if t then Repeat run.count run.item ∷ [] else replicate run.count
        (Sixel run.item))) band (col + run.count) r
        (λ x y. lies col band (replicate run.count run.item) x y || done x y)
    split true h =
        drawn_as (drawn_one d (repeat_data run.count run.item (h refl))
        (λ x y k. own x y (sym (lies_replicate run.count col band run.item x y) ∙ k)))
        refl (λ x y. ap (λ o. o || done x y) (lies_replicate run.count col band run.item x y))
    split false h = sixels_drawn run.count run.item d own

-- runs paint their columns
pub runs_drawn : (rs : List Run) {registers : ℕ} {p : PictureValue} {before : List Event} {band col r : ℕ}
    {done : ℕ → ℕ → Bool} → Draws p before band col r done → AreOwn p band col (items_of rs) r
    → Drawn registers p before (map Step (flat_map run_commands rs)) band (col + length (items_of rs)) r
    (λ x y. lies col band (items_of rs) x y || done x y)
unfolding lies
runs_drawn [] d own = drawn_as (ran_none d) (omega arith) (λ x y. refl)
runs_drawn (run ∷ rs) {band = band} {col} {done = done} d own =
    let items = replicate run.count run.item in
    let len : length items ≡ run.count = length-replicate run.count run.item in
    let both : (x y : ℕ) → lies col band (items ++ items_of rs) x y
    ≡ (lies col band items x y || lies (col + run.count) band (items_of rs) x y) =
    λ x y. lies_append col band items (items_of rs) x y ∙ rw len refl in
    let one = run_drawn run d (λ x y h. own x y (both x y ∙ or_left _ _ h)) in
    let rest = runs_drawn rs one.after (λ x y h. own x y (both x y ∙ or_right _ _ h)) in
    let long : length (items ++ items_of rs) ≡ run.count + length (items_of rs) =
    length-append items (items_of rs) ∙ ap (λ n. n + length (items_of rs)) len in
    rw (map-append Step (run_commands run) (flat_map run_commands rs))
    (drawn_as (ran_join one rest) (omega arith)
    (λ x y. or_turn (lies (col + run.count) band (items_of rs) x y) (lies col band items x y) (done x y)
    ∙ ap (λ o. o || done x y) (sym (both x y))))
