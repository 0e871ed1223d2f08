-- The tallies rule by rule, and the rules that an event can't break.
use Rattle.std.proofs.Common.{◌≡◌, ◌≢◌, ◌==◌, ◌<◌, ◌≤◌, ◌-◌, ◌&&◌, ◌||◌, ℕ, zero, suc, Bool, true, false, not, Option}
use Rattle.std.proofs.Common.{Some, None, List, [], ◌∷◌, ◌++◌, length, set, refl, sym, ap, subst, ◌∙◌, arith}
use Rattle.std.specs.Prelude.{IfSome, is_none, is_some, slice_get}
use Rattle.std.specs.Option.{option_flatten, option_map_or}
use Rattle.std.proofs.Math.Bool.{and-false}
use Rattle.std.proofs.lemmas.Bool.{eqb-false, eqb-true, or_parts}
use Rattle.std.proofs.lemmas.List.{length-set}
use Rattle.sixel_grammar.specs.declared.command.Command.TheVariants.{Sixel, Repeat, Select, Define, Raster}
use Rattle.sixel_grammar.specs.declared.command.Command.TheVariants.{CarriageReturn, NextLine}
use Rattle.sixel_grammar.specs.declared.command.Event.{Event}
use Rattle.sixel_grammar.specs.declared.command.Event.TheVariants.{Start, Step, Finish}
use Rattle.sixel_grammar.specs.declared.command.Placed.{Placed}
use Rattle.sixel_grammar.specs.Document.{events_of}
use Rattle.sixel_model.specs.Events.{bits_of, columns_of, definition_where, is_data_command, is_eight_bit, is_finish}
use Rattle.sixel_model.specs.Events.{is_painting}
use Rattle.sixel_model.specs.Events.{is_repeat_of_zero, is_return, named_by, raster_of}
use Rattle.sixel_model.specs.Geometry.{band, column}
use Rattle.sixel_model.specs.Grids.{Grid}
use Rattle.sixel_model.specs.Rules.{Breaks, BreaksOutside, breaks_box_size, breaks_colour_value, breaks_ratio}
use Rattle.sixel_model.specs.Rules.{breaks_register, breaks_repeat_zero, number_of, raster_before}
use Rattle.sixel_model.specs.declared.rule.Rule.{Rule}
use Rattle.sixel_model.specs.declared.rule.Rule.TheVariants.{RasterFirst, RasterTwice, Ratio, BoxSize, Register}
use Rattle.sixel_model.specs.declared.rule.Rule.TheVariants.{ColourValue, RepeatZero, Unselected, Undefined, Redefined}
use Rattle.sixel_model.specs.declared.rule.Rule.TheVariants.{Outside, Uncovered, EightBit}
use Rattle.sixel_model.proofs.RuleLemmas.{at_least_one, at_most_last, same_rule}
use Rattle.sixel_judge.proofs.DrawLemmas.{falls_paints}
use Rattle.sixel_judge.proofs.OutsideLemmas.{IsCapped, inside_fits, none_outside}
use Rattle.sixel_judge.proofs.RunLemmas.{falls_first}
use Rattle.sixel_judge.proofs.StretchLemmas.{side}
use Rattle.sixel_survey.specs.declared.entry.Entry.{Entry}
use Rattle.sixel_judge.specs.declared.notes.Notes.{Notes}
use Rattle.sixel_judge.specs.Counting.{Counts, IsHit}
use Rattle.sixel_judge.specs.Covering.{IsCoverAfter}
use Rattle.sixel_judge.specs.Stretches.{Fits}
use Rattle.sixel_judge.specs.Notes.{IsNotesAfter, counts_in, known_in, lacks_definition_in}
use Rattle.sixel_survey.specs.Surveying.{AreTallies}
use Rattle.sixel_survey.specs.Tallies.{AreTalliedFor, IsTallyOf, is_one_of, of_columns, tally_in}
use Rattle.sixel_judge.proofs.HitLemmas.{hit_if, notes_hit, outside_hit, outside_none, uncovered_goes_on}
use Rattle.sixel_survey.proofs.TallyLemmas.{tally_push}
use Rattle.sixel_judge.proofs.TellLemmas.{if_box}

-- ---- one tally of the list

flat_same : (ts : List (Option Entry)) (k : ℕ) (x : Option Entry) → k < length ts
    → option_flatten (slice_get (set ts k x) k) ≡ x
flat_same [] k x lt = absurd (omega arith)
flat_same (t ∷ ts) zero x lt = refl
flat_same (t ∷ ts) (suc k) x lt = flat_same ts k x (omega arith)

flat_other : (ts : List (Option Entry)) (k j : ℕ) (x : Option Entry) → k ≢ j
    → option_flatten (slice_get (set ts k x) j) ≡ option_flatten (slice_get ts j)
flat_other [] k j x n = refl
flat_other (t ∷ ts) zero zero x n = absurd (n refl)
flat_other (t ∷ ts) zero (suc j) x n = refl
flat_other (t ∷ ts) (suc k) zero x n = refl
flat_other (t ∷ ts) (suc k) (suc j) x n = flat_other ts k j x (λ e. n (ap suc e))

-- ---- one more rule

-- before any rule
pub tallied_none : {registers : ℕ} {seen : List Placed} (more : List Placed) {tallies : List (Option Entry)}
    → AreTallies registers seen tallies → AreTalliedFor registers seen more [] tallies
tallied_none more are = record {
  rules = are.rules;
  after = λ rule is. cc;
  before = λ rule is. are.each rule;
}

-- the tally of one more rule, where the others stay
one_more : {registers : ℕ} {seen more : List Placed} {done : List Rule} (rule : Rule) {old : List (Option Entry)}
    (new : List (Option Entry)) → length new ≡ 13 → IsTallyOf registers (seen ++ more) rule (tally_in new rule)
    → ((other : Rule) → number_of rule ≢ number_of other → tally_in new other ≡ tally_in old other)
    → AreTalliedFor registers seen more done old → AreTalliedFor registers seen more (rule ∷ done) new
one_more {registers} {seen} {more} {done} rule new long this others t = record {
  rules = long;
  after = λ other is. after_of other (number_of rule == number_of other) refl is;
  before = λ other is.
      let parts = or_parts (number_of rule == number_of other) (is_one_of done other) is in
      subst (IsTallyOf registers seen other) (sym (others other (eqb-false (number_of rule) (number_of other) parts.0)))
      (t.before other parts.1);
}
  where
    after_of : (other : Rule) (b : Bool) → (number_of rule == number_of other) ≡ b
        → (b || is_one_of done other) ≡ true
        → IsTallyOf registers (seen ++ more) other (tally_in new other)
    after_of other true same is =
        subst (λ (r : Rule). IsTallyOf registers (seen ++ more) r (tally_in new r))
        (same_rule rule other (eqb-true (number_of rule) (number_of other) same)) this
    after_of other false differ is =
        subst (IsTallyOf registers (seen ++ more) other)
        (sym (others other (eqb-false (number_of rule) (number_of other) differ))) (t.after other is)

-- the tally of the rule stays
pub tallied_kept : {registers : ℕ} {seen more : List Placed} {done : List Rule} (rule : Rule)
    {tallies : List (Option Entry)} → IsTallyOf registers (seen ++ more) rule (tally_in tallies rule)
    → AreTalliedFor registers seen more done tallies → AreTalliedFor registers seen more (rule ∷ done) tallies
tallied_kept rule {tallies} this t = one_more rule tallies t.rules this (λ other differ. refl) t

-- the tally of the rule is set
pub tallied_set : {registers : ℕ} {seen more : List Placed} {done : List Rule} (rule : Rule)
    {tallies : List (Option Entry)} (tally : Option Entry) → IsTallyOf registers (seen ++ more) rule tally
    → AreTalliedFor registers seen more done tallies
    → AreTalliedFor registers seen more (rule ∷ done) (set tallies (number_of rule - 1) tally)
tallied_set {registers} {seen} {more} rule {tallies} tally this t =
    let some = at_least_one rule in
    let most = at_most_last rule in
    let here : number_of rule - 1 < length tallies = omega (arith, some, most, t.rules) in
    one_more rule (set tallies (number_of rule - 1) tally) (length-set tallies (number_of rule - 1) tally ∙ t.rules)
    (subst (IsTallyOf registers (seen ++ more) rule) (sym (flat_same tallies (number_of rule - 1) tally here)) this)
    (λ other differ. flat_other tallies (number_of rule - 1) (number_of other - 1) tally
    (λ e. differ (let more_than = at_least_one other in omega (arith, e, some, more_than)))) t

-- all rules are done, if the tallies of the others stay
pub tallied_rest : {registers : ℕ} {seen more : List Placed} {done : List Rule} {tallies : List (Option Entry)}
    → AreTalliedFor registers seen more done tallies
    → ((rule : Rule) → is_one_of done rule ≡ false → IsTallyOf registers seen rule (tally_in tallies rule)
    → IsTallyOf registers (seen ++ more) rule (tally_in tallies rule))
    → AreTallies registers (seen ++ more) tallies
tallied_rest {registers} {seen} {more} {done} {tallies} t stays = record {
  rules = t.rules;
  each = λ rule. by_place rule (is_one_of done rule) refl;
}
  where
    by_place : (rule : Rule) (b : Bool) → is_one_of done rule ≡ b
        → IsTallyOf registers (seen ++ more) rule (tally_in tallies rule)
    by_place rule true is = t.after rule is
    by_place rule false is = stays rule is (t.before rule is)

-- ---- the rules that an event can't break

-- an event of this kind can break the rule
abbrev pub can_break : Rule → Event → Bool
can_break RasterFirst e = is_data_command e || is_return e || is_finish e
can_break RasterTwice e = is_some (raster_of e)
can_break Ratio e = is_some (raster_of e)
can_break BoxSize e = is_some (raster_of e)
can_break Register e = is_some (named_by e)
can_break ColourValue e = is_some (definition_where (λ r. true) e)
can_break RepeatZero e = is_repeat_of_zero e
can_break Unselected e = is_painting e
can_break Undefined e = is_painting e
can_break Redefined e = is_some (definition_where (λ r. true) e)
can_break Outside e = is_painting e
can_break Uncovered e = is_finish e
can_break EightBit e = is_eight_bit e

no_map : {A : Type 0} (p : A → Bool) (o : Option A) → is_some o ≡ false → option_map_or p o false ≡ false
no_map p None h = refl
no_map p (Some a) h = cc

never_in : (registers : ℕ) (n : Notes) (e : Event) (rule : Rule) → can_break rule e ≡ false
    → counts_in registers n e rule ≡ false
unfolding breaks_ratio breaks_box_size breaks_register breaks_colour_value breaks_repeat_zero
never_in registers n e RasterFirst h = ap (λ (b : Bool). not n.declared && b) h ∙ and-false (not n.declared)
never_in registers n e RasterTwice h = ap (λ (b : Bool). n.declared && b) h ∙ and-false n.declared
never_in registers n e Ratio h = no_map _ (raster_of e) h
never_in registers n e BoxSize h = no_map _ (raster_of e) h
never_in registers n e Register h = no_map _ (named_by e) h
never_in registers n e ColourValue h = no_map _ (definition_where (λ r. true) e) h
never_in registers n e RepeatZero h = h
never_in registers n e Unselected h = ap (λ (b : Bool). b && is_none (known_in n)) h
never_in registers n e Undefined h = ap (λ (b : Bool). b && lacks_definition_in registers n) h
never_in registers n e Redefined h = not_defined e h
  where
    not_defined : (e : Event) → is_some (definition_where (λ r. true) e) ≡ false
        → counts_in registers n e Redefined ≡ false
    not_defined (Step (Define register system x y z)) h = cc
    not_defined _ h = refl
never_in registers n e Outside h = refl
never_in registers n e Uncovered h = refl
never_in registers n e EightBit h = h

never_outside : (registers : ℕ) (before : List Event) (e : Event) → is_painting e ≡ false
    → IsHit registers Outside before e None
unfolding Breaks BreaksOutside
never_outside registers before e idle =
    λ (k : Counts registers Outside before e).
    let box = if_box (raster_before before) _ k.broken in
    let point = rw box.1 at k.broken in
    let paints = falls_paints before e point.0 point.1 (point.2).painted in
    cc

-- the test on the notes says that the rule doesn't count
silent_if : (registers : ℕ) {n : Notes} {before : List Event} (e : Event) (rule : Rule) → registers ≤ 256
    → IsNotesAfter n before → rule ≢ Outside → rule ≢ Uncovered → counts_in registers n e rule ≡ false
    → IsHit registers rule before e None
silent_if registers {n} {before} e rule few s p q h =
    subst (λ (b : Bool). IsHit registers rule before e (hit_if b)) h (notes_hit registers n before e rule few s p q)

silent : (registers : ℕ) {n : Notes} {before : List Event} (e : Event) (rule : Rule) → registers ≤ 256
    → IsNotesAfter n before → rule ≢ Outside → rule ≢ Uncovered → can_break rule e ≡ false
    → IsHit registers rule before e None
silent registers {n} e rule few s p q h = silent_if registers e rule few s p q (never_in registers n e rule h)

-- a rule that an event of this kind can't break doesn't count
pub never : (registers : ℕ) {n : Notes} {before : List Event} (e : Event) (rule : Rule) → registers ≤ 256
    → IsNotesAfter n before → can_break rule e ≡ false → IsHit registers rule before e None
never registers {before} e Outside few s h = never_outside registers before e h
never registers {before} e Uncovered few s h = uncovered_goes_on registers before e h
never registers e RasterFirst few s h = silent registers e RasterFirst few s (λ i. cc) (λ i. cc) h
never registers e RasterTwice few s h = silent registers e RasterTwice few s (λ i. cc) (λ i. cc) h
never registers e Ratio few s h = silent registers e Ratio few s (λ i. cc) (λ i. cc) h
never registers e BoxSize few s h = silent registers e BoxSize few s (λ i. cc) (λ i. cc) h
never registers e Register few s h = silent registers e Register few s (λ i. cc) (λ i. cc) h
never registers e ColourValue few s h = silent registers e ColourValue few s (λ i. cc) (λ i. cc) h
never registers e RepeatZero few s h = silent registers e RepeatZero few s (λ i. cc) (λ i. cc) h
never registers e Unselected few s h = silent registers e Unselected few s (λ i. cc) (λ i. cc) h
never registers e Undefined few s h = silent registers e Undefined few s (λ i. cc) (λ i. cc) h
never registers e Redefined few s h = silent registers e Redefined few s (λ i. cc) (λ i. cc) h
never registers e EightBit few s h = silent registers e EightBit few s (λ i. cc) (λ i. cc) h

-- the rules that an event of its kind can break, the last one first
abbrev pub rules_of : Event → List Rule
rules_of (Step (Sixel bits)) = of_columns
rules_of (Step (Repeat count bits)) = of_columns
rules_of (Step CarriageReturn) = RasterFirst ∷ []
rules_of (Step NextLine) = RasterFirst ∷ []
rules_of (Step (Select register)) = Register ∷ []
rules_of (Step (Define register system x y z)) = Redefined ∷ ColourValue ∷ Register ∷ []
rules_of (Step (Raster pan pad width height)) = BoxSize ∷ Ratio ∷ RasterTwice ∷ []
rules_of (Start eight parameters) = EightBit ∷ []
rules_of (Finish eight) = EightBit ∷ Uncovered ∷ RasterFirst ∷ []

by_kind : (e : Event) (rule : Rule) → is_one_of (rules_of e) rule ≡ false → can_break rule e ≡ false
by_kind (Step (Sixel bits)) RasterFirst h = cc
by_kind (Step (Sixel bits)) _ h = cc
by_kind (Step (Repeat count bits)) RasterFirst h = cc
by_kind (Step (Repeat count bits)) _ h = cc
by_kind (Step CarriageReturn) RasterFirst h = cc
by_kind (Step CarriageReturn) _ h = cc
by_kind (Step NextLine) RasterFirst h = cc
by_kind (Step NextLine) _ h = cc
by_kind (Step (Select register)) RasterFirst h = cc
by_kind (Step (Select register)) _ h = cc
by_kind (Step (Define register system x y z)) RasterFirst h = cc
by_kind (Step (Define register system x y z)) _ h = cc
by_kind (Step (Raster pan pad width height)) RasterFirst h = cc
by_kind (Step (Raster pan pad width height)) _ h = cc
by_kind (Start eight parameters) RasterFirst h = cc
by_kind (Start eight parameters) _ h = cc
by_kind (Finish eight) RasterFirst h = cc
by_kind (Finish eight) _ h = cc

-- a sixel can break four rules
pub sixel_only : (bits : ℕ) (rule : Rule) → is_one_of (Outside ∷ Undefined ∷ Unselected ∷ RasterFirst ∷ []) rule ≡ false
    → can_break rule (Step (Sixel bits)) ≡ false
sixel_only bits RasterFirst h = cc
sixel_only bits _ h = cc

-- after one event, if the rules that it can break are done
pub tallied_event : {registers : ℕ} {n : Notes} {seen : List Placed} (p : Placed) (e : Event)
    {tallies : List (Option Entry)} → registers ≤ 256 → IsNotesAfter n (events_of seen) → p.event ≡ e
    → AreTalliedFor registers seen (p ∷ []) (rules_of e) tallies → AreTallies registers (seen ++ p ∷ []) tallies
tallied_event {registers} {seen} p e {tallies} few s is t =
    tallied_rest t (λ rule left tally. tally_push registers rule seen p None (tally_in tallies rule)
    (subst (λ (d : Event). IsHit registers rule (events_of seen) d None) (sym is)
    (never registers e rule few s (by_kind e rule left))) tally)

-- ---- columns that break no rule

raster_quiet : (registers : ℕ) {n : Notes} {before : List Event} (e : Event) → registers ≤ 256 → IsNotesAfter n before
    → n.declared ≡ true → IsHit registers RasterFirst before e None
raster_quiet registers e few s declared =
    silent_if registers e RasterFirst few s (λ i. cc) (λ i. cc)
    (ap (λ (b : Bool). not b && (is_data_command e || is_return e || is_finish e)) declared)

none_if_some : (o : Option ℕ) → is_some o ≡ true → is_none o ≡ false
none_if_some None h = cc
none_if_some (Some r) h = refl

outside_quiet : (registers : ℕ) {n : Notes} (grid : Option Grid) {before : List Event} (e : Event)
    → IsNotesAfter n before → IsCoverAfter grid before → IfSome grid (Fits n (columns_of 0 e))
    → IsHit registers Outside before e None
outside_quiet registers None {before} e s cover fits = outside_none registers before e cover
outside_quiet registers {n} (Some t) {before} e s cover fits =
    let w : IsCapped n.column n.band (column 0 before) (band before) t.width t.height = record {
      column_is = s.column_is;
      band_is = s.band_is;
      narrow = omega (arith, side t.width cover.width);
      low = omega (arith, side t.height cover.height);
    } in
    outside_hit registers t before e cover None
    (falls_first before e cover.box None
    (rw (cover.width_is, cover.height_is)
    (none_outside (column 0 before) (columns_of 0 e) (band before) (bits_of e) t.width t.height
    (inside_fits n.column n.band (column 0 before) (band before) t.width t.height (columns_of 0 e) (bits_of e) w
    fits.columns fits.rows))))

-- the tallies stay at an event, if none of the rules that columns can break counts there
quiet_kept : {registers : ℕ} {seen : List Placed} (p : Placed) {tallies : List (Option Entry)}
    → ((rule : Rule) → is_one_of of_columns rule ≡ true → IsHit registers rule (events_of seen) p.event None)
    → AreTalliedFor registers seen (p ∷ []) [] tallies → AreTalliedFor registers seen (p ∷ []) of_columns tallies
quiet_kept {registers} {seen} p {tallies} none t =
    let kept = λ (rule : Rule) (is : is_one_of of_columns rule ≡ true).
    tally_push registers rule seen p None (tally_in tallies rule) (none rule is) (t.before rule refl) in
    tallied_kept Outside (kept Outside refl)
    (tallied_kept Undefined (kept Undefined refl)
    (tallied_kept Unselected (kept Unselected refl)
    (tallied_kept RepeatZero (kept RepeatZero refl) (tallied_kept RasterFirst (kept RasterFirst refl) t))))

pub blank_quiet : {registers : ℕ} {n : Notes} {seen : List Placed} (p : Placed) {tallies : List (Option Entry)}
    → registers ≤ 256 → IsNotesAfter n (events_of seen) → n.declared ≡ true → is_repeat_of_zero p.event ≡ false
    → is_painting p.event ≡ false → AreTalliedFor registers seen (p ∷ []) [] tallies
    → AreTalliedFor registers seen (p ∷ []) of_columns tallies
blank_quiet {registers} {seen} p few s declared some idle =
    quiet_kept p none
  where
    none : (rule : Rule) → is_one_of of_columns rule ≡ true → IsHit registers rule (events_of seen) p.event None
    none RasterFirst is = raster_quiet registers p.event few s declared
    none RepeatZero is = never registers p.event RepeatZero few s some
    none Unselected is = never registers p.event Unselected few s idle
    none Undefined is = never registers p.event Undefined few s idle
    none Outside is = never registers p.event Outside few s idle
    none _ is = cc

pub painted_quiet : {registers : ℕ} {n : Notes} (grid : Option Grid) {seen : List Placed} (p : Placed)
    {tallies : List (Option Entry)} → registers ≤ 256 → IsNotesAfter n (events_of seen)
    → IsCoverAfter grid (events_of seen) → n.declared ≡ true → is_repeat_of_zero p.event ≡ false
    → is_some (known_in n) ≡ true → lacks_definition_in registers n ≡ false
    → IfSome grid (Fits n (columns_of 0 p.event)) → AreTalliedFor registers seen (p ∷ []) [] tallies
    → AreTalliedFor registers seen (p ∷ []) of_columns tallies
painted_quiet {registers} {n} grid {seen} p few s cover declared some known defined fits =
    quiet_kept p none
  where
    none : (rule : Rule) → is_one_of of_columns rule ≡ true → IsHit registers rule (events_of seen) p.event None
    none RasterFirst is = raster_quiet registers p.event few s declared
    none RepeatZero is = never registers p.event RepeatZero few s some
    none Unselected is =
        silent_if registers p.event Unselected few s (λ i. cc) (λ i. cc)
        (ap (λ (b : Bool). is_painting p.event && b) (none_if_some (known_in n) known)
        ∙ and-false (is_painting p.event))
    none Undefined is =
        silent_if registers p.event Undefined few s (λ i. cc) (λ i. cc)
        (ap (λ (b : Bool). is_painting p.event && b) defined ∙ and-false (is_painting p.event))
    none Outside is = outside_quiet registers grid p.event s cover fits
    none _ is = cc
