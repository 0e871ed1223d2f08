-- Where the commands of a canonical list stand: each data command in the box, and each return after a data command.
use Rattle.std.proofs.Common.{◌≡◌, ℕ, zero, suc, ◌+◌, ◌*◌, ◌≤◌, ◌<◌, Bool, true, false, cond, Option, Some, List, []}
use Rattle.std.proofs.Common.{◌∷◌, ◌++◌, map, length, replicate, take, refl, sym, ap, subst, ◌∙◌, append_assoc}
use Rattle.std.proofs.Common.{append-nil, arith}
use Rattle.std.specs.Prelude.{◌==◌, nat_le, flat_map, filter, slice_get, if◌then◌else◌}
use Rattle.std.specs.List.{join_by, range_with_len, AllByRecursion}
use Rattle.std.specs.Option.{option_map_or}
use Rattle.std.proofs.lemmas.Bool.{cond-false, leb-true, ne_eqb}
use Rattle.std.proofs.lemmas.List.{length-append, length-replicate, map-append}
use Rattle.sixel_grammar.specs.declared.command.Command.TheVariants.{Sixel, Repeat, Select, CarriageReturn, NextLine}
use Rattle.sixel_grammar.specs.declared.command.Event.{Event}
use Rattle.sixel_grammar.specs.declared.command.Event.TheVariants.{Step, Finish}
use Rattle.sixel_model.specs.Events.{columns_of, is_data_command, is_next_line, is_return}
use Rattle.sixel_model.specs.Geometry.{band, column}
use Rattle.sixel_model.specs.Pictures.{IsPicture, PictureValue}
use Rattle.sixel_model.specs.Positions.{latest}
use Rattle.sixel_model.proofs.PositionLemmas.{latest_push}
use Rattle.sixel_model.proofs.StepLemmas.{band_push, column_push}
use Rattle.sixel_encode.specs.Canon.{Run, all_columns, band_columns, band_commands, band_registers, bands, below}
use Rattle.sixel_encode.specs.Canon.{define_command, has_bits, occurs, picture_commands}
use Rattle.sixel_encode.specs.Canon.{register_commands, run_commands, runs, without_blanks}
use Rattle.sixel_encode_laws.specs.Laws.{items_of}
use Rattle.sixel_encode_laws.proofs.LengthLemmas.{columns_length}
use Rattle.sixel_encode_laws.proofs.LongestLemmas.{runs_joined}
use Rattle.sixel_encode_laws.proofs.OccurringLemmas.{band_some}
use Rattle.sixel_encode_laws.proofs.OpeningLemmas.{defines_opened, raster_opens}
use Rattle.sixel_encode.proofs.PartedLemmas.{Parted, parted}
use Rattle.sixel_model.specs.declared.colour.Parts.{Parts}
use Rattle.sixel_model.specs.declared.colour.Parts.TheVariants.{Rgb, Hls}
use Rattle.sixel_emulator_rules.specs.Asked.{is_droppable}
use Rattle.sixel_emulator_rules_laws.proofs.CanonLemmas.{closing, opening, opening_is}

-- ---- each event, given the events before it

-- each event has the property; `before` are the events before the list
unfoldable pub Each : (List Event → Event → Type 0) → List Event → List Event → Type 0
Each P before [] = Unit {0}
Each P before (e ∷ es) = P before e × Each P (before ++ e ∷ []) es

each_append : (P : List Event → Event → Type 0) (before xs ys : List Event) → Each P before xs
    → Each P (before ++ xs) ys → Each P before (xs ++ ys)
unfolding Each
each_append P before [] ys h k = subst (λ b. Each P b ys) (append-nil before) k
each_append P before (x ∷ xs) ys h k = (
  h.0,
  each_append P (before ++ x ∷ []) xs ys h.1
      (subst (λ b. Each P b ys) (sym (append_assoc before (x ∷ []) xs)) k),
)

each_there : (P : List Event → Event → Type 0) (before xs : List Event) (i : ℕ) (e : Event) → Each P before xs
    → slice_get xs i ≡ Some e → P (before ++ take i xs) e
unfolding Each
each_there P before [] i e h here = cc
each_there P before (x ∷ xs) zero e h here =
    let same : x ≡ e = cc in
    subst (P (before ++ [])) same (subst (λ (b : List Event). P b x) (sym (append-nil before)) h.0)
each_there P before (x ∷ xs) (suc i) e h here =
    subst (λ (b : List Event). P b e) (append_assoc before (x ∷ []) (take i xs))
    (each_there P (before ++ x ∷ []) xs i e h.1 here)

pub each_at : (P : List Event → Event → Type 0) (xs : List Event) (i : ℕ) (e : Event) → Each P [] xs
    → slice_get xs i ≡ Some e → P (take i xs) e
each_at P xs i e h here = each_there P [] xs i e h here

-- each event has the property, and the state is this one after them
record Walked (P : List Event → Event → Type 0) (S : List Event → Type 0) (before events : List Event) : Type 0 where
  each : Each P before events
  after : S (before ++ events)

walked_none : (P : List Event → Event → Type 0) (S : List Event → Type 0) (before : List Event) → S before
    → Walked P S before []
unfolding Each
walked_none P S before s = record { each = tt; after = rw append-nil s }

walked_one : (P : List Event → Event → Type 0) (S : List Event → Type 0) (before : List Event) (e : Event)
    → P before e → S (before ++ e ∷ []) → Walked P S before (e ∷ [])
unfolding Each
walked_one P S before e p s = record { each = (p, tt); after = s }

walked_join : (P : List Event → Event → Type 0) (S T : List Event → Type 0) (before xs ys : List Event)
    → Walked P S before xs → Walked P T (before ++ xs) ys → Walked P T before (xs ++ ys)
walked_join P S T before xs ys f g = record {
  each = each_append P before xs ys f.each g.each;
  after = subst T (append_assoc before xs ys) g.after;
}

walked_as : (P : List Event → Event → Type 0) (S T : List Event → Type 0) (before xs : List Event)
    → Walked P S before xs → ((b : List Event) → S b → T b) → Walked P T before xs
walked_as P S T before xs f h = record { each = f.each; after = h (before ++ xs) f.after }

-- ---- what holds of each event

-- the last event is a select, a definition or raster attributes
abbrev pub is_last_droppable : List Event → Bool
is_last_droppable before = option_map_or is_droppable (latest (λ (d : Event). Some d) before) false

-- a data command ends in the picture's columns and begins in its rows; a return doesn't come right after a select, a
-- definition or raster attributes
pub record IsCalm (p : PictureValue) (before : List Event) (e : Event) : Type 0 where
  pub across : is_data_command e ≡ true → column 0 before + columns_of 0 e ≤ p.width
  pub down : is_data_command e ≡ true → 6 * band before < p.height
  pub kept : is_return e ≡ true → is_last_droppable before ≡ false

calm_plain : (p : PictureValue) (before : List Event) (e : Event) → is_data_command e ≡ false → is_return e ≡ false
    → IsCalm p before e
calm_plain p before e idle returns = record {
  across = λ h. (let no : false ≡ true = sym idle ∙ h in cc);
  down = λ h. (let no : false ≡ true = sym idle ∙ h in cc);
  kept = λ h. (let no : false ≡ true = sym returns ∙ h in cc);
}

calm_return : (p : PictureValue) (before : List Event) (e : Event) → is_data_command e ≡ false
    → is_last_droppable before ≡ false → IsCalm p before e
calm_return p before e idle kept = record {
  across = λ h. (let no : false ≡ true = sym idle ∙ h in cc);
  down = λ h. (let no : false ≡ true = sym idle ∙ h in cc);
  kept = λ h. kept;
}

-- ---- the state

-- the next sixel stands in this band and column; past the margin, the last event is a data command
record IsAt (line col : ℕ) (before : List Event) : Type 0 where
  line_is : band before ≡ line
  column_is : column 0 before ≡ col
  kept : 0 < col → is_last_droppable before ≡ false

-- the band is this one, and the last event is a data command
record IsEnded (line : ℕ) (before : List Event) : Type 0 where
  line_is : band before ≡ line
  kept : is_last_droppable before ≡ false

last_is : (before : List Event) (e : Event) → is_last_droppable (before ++ e ∷ []) ≡ is_droppable e
last_is before e =
    ap (λ (o : Option Event). option_map_or is_droppable o false) (latest_push (λ (d : Event). Some d) before e)

-- ---- data commands

-- a data command of so many columns
record IsData (n : ℕ) (e : Event) : Type 0 where
  data_is : is_data_command e ≡ true
  columns : columns_of 0 e ≡ n
  stays : is_return e ≡ false
  no_next : is_next_line e ≡ false
  keeps : is_droppable e ≡ false

sixel_data : (bits : ℕ) → IsData 1 (Step (Sixel bits))
sixel_data bits = record { data_is = refl; columns = refl; stays = refl; no_next = refl; keeps = refl }

repeat_data : (n bits : ℕ) → 4 ≤ n → IsData n (Step (Repeat n bits))
repeat_data n bits le = record {
  data_is = refl;
  columns = cond-false (n == 0) 0 n (ne_eqb n 0 (λ e. omega (arith, le, e)));
  stays = refl;
  no_next = refl;
  keeps = refl;
}

data_walks : (p : PictureValue) (before : List Event) (line col n : ℕ) (e : Event) → IsData n e → IsAt line col before
    → col + n ≤ p.width → 6 * line < p.height → Walked (IsCalm p) (IsAt line (col + n)) before (e ∷ [])
data_walks p before line col n e is s across down =
    walked_one (IsCalm p) (IsAt line (col + n)) before e (record {
      across = λ h. rw (s.column_is, is.columns) across;
      down = λ h. rw s.line_is down;
      kept = λ h. (let no : false ≡ true = sym is.stays ∙ h in cc);
    }) (record {
      line_is = band_push before e ∙ rw (is.no_next, s.line_is) (omega arith);
      column_is = column_push 0 before e ∙ rw (is.stays, s.column_is, is.columns) refl;
      kept = λ lt. last_is before e ∙ is.keeps;
    })

same_column : (p : PictureValue) (line c d : ℕ) (before es : List Event) → c ≡ d
    → Walked (IsCalm p) (IsAt line c) before es → Walked (IsCalm p) (IsAt line d) before es
same_column p line c d before es e w = subst (λ (n : ℕ). Walked (IsCalm p) (IsAt line n) before es) e w

sixels_walk : (p : PictureValue) (n bits : ℕ) (before : List Event) (line col : ℕ) → IsAt line col before
    → col + n ≤ p.width → 6 * line < p.height
    → Walked (IsCalm p) (IsAt line (col + n)) before (map Step (replicate n (Sixel bits)))
sixels_walk p zero bits before line col s across down =
    same_column p line col (col + 0) before [] (omega arith) (walked_none (IsCalm p) (IsAt line col) before s)
sixels_walk p (suc n) bits before line col s across down =
    let one = data_walks p before line col 1 (Step (Sixel bits)) (sixel_data bits) s (omega (arith, across)) down in
    let more = sixels_walk p n bits (before ++ Step (Sixel bits) ∷ []) line (col + 1) one.after (omega (arith, across))
    down in
    same_column p line (col + 1 + n) (col + suc n) before _ (omega arith)
    (walked_join (IsCalm p) (IsAt line (col + 1)) (IsAt line (col + 1 + n)) before (Step (Sixel bits) ∷ [])
    (map Step (replicate n (Sixel bits))) one more)

run_by : (p : PictureValue) (run : Run) (four : Bool) (before : List Event) (line col : ℕ)
    → (four ≡ true → 4 ≤ run.count) → IsAt line col before → col + run.count ≤ p.width → 6 * line < p.height
    → Walked (IsCalm p) (IsAt line (col + run.count)) before
    (map Step (if four then Repeat run.count run.item ∷ [] else replicate run.count (Sixel run.item)))
run_by p run true before line col four s across down =
    data_walks p before line col run.count (Step (Repeat run.count run.item))
    (repeat_data run.count run.item (four refl)) s across down
run_by p run false before line col four s across down = sixels_walk p run.count run.item before line col s across down

runs_walk : (p : PictureValue) (rs : List Run) (before : List Event) (line col : ℕ) → IsAt line col before
    → col + length (items_of rs) ≤ p.width → 6 * line < p.height
    → Walked (IsCalm p) (IsAt line (col + length (items_of rs))) before (map Step (flat_map run_commands rs))
runs_walk p [] before line col s across down =
    same_column p line col (col + 0) before [] (omega arith) (walked_none (IsCalm p) (IsAt line col) before s)
runs_walk p (run ∷ rs) before line col s across down =
    let long : length (replicate run.count run.item ++ items_of rs) ≡ run.count + length (items_of rs) =
    length-append (replicate run.count run.item) (items_of rs)
    ∙ ap (λ n. n + length (items_of rs)) (length-replicate run.count run.item) in
    let one = run_by p run (nat_le 4 run.count) before line col (leb-true 4 run.count) s (omega (arith, across, long))
    down in
    let more = runs_walk p rs (before ++ map Step (run_commands run)) line (col + run.count) one.after
    (omega (arith, across, long)) down in
    rw (map-append Step (run_commands run) (flat_map run_commands rs))
    (same_column p line (col + run.count + length (items_of rs))
    (col + length (replicate run.count run.item ++ items_of rs)) before _ (omega (arith, long))
    (walked_join (IsCalm p) (IsAt line (col + run.count)) (IsAt line (col + run.count + length (items_of rs))) before
    (map Step (run_commands run)) (map Step (flat_map run_commands rs)) one more))

-- ---- a register

some_left : (columns : List ℕ) → has_bits columns ≡ true → 1 ≤ length (without_blanks columns)
some_left [] h = cc
some_left (bits ∷ columns) h = rw h (omega arith)

some_columns : (p : PictureValue) (line r : ℕ) → occurs p line r ≡ true → 1 ≤ length (band_columns p line r)
unfolding occurs band_columns
some_columns p line r h = some_left (all_columns p line r) h

select_walks : (p : PictureValue) (before : List Event) (line r : ℕ) → IsAt line 0 before
    → Walked (IsCalm p) (IsAt line 0) before (Step (Select r) ∷ [])
select_walks p before line r s =
    walked_one (IsCalm p) (IsAt line 0) before (Step (Select r)) (calm_plain p before (Step (Select r)) refl refl)
    (record {
      line_is = band_push before (Step (Select r)) ∙ rw s.line_is (omega arith);
      column_is = column_push 0 before (Step (Select r)) ∙ rw s.column_is refl;
      kept = λ lt. absurd (omega (arith, lt));
    })

register_walks : (p : PictureValue) (before : List Event) (line r : ℕ) → IsAt line 0 before → occurs p line r ≡ true
    → 6 * line < p.height
    → Walked (IsCalm p) (IsEnded line) before (map Step (register_commands p line r))
unfolding register_commands
register_walks p before line r s here down =
    let rs = runs (band_columns p line r) in
    let long : length (items_of rs) ≡ length (band_columns p line r) =
    ap length (runs_joined (band_columns p line r)) in
    let select = select_walks p before line r s in
    let drawn = runs_walk p rs (before ++ Step (Select r) ∷ []) line 0 select.after
    (omega (arith, long, columns_length p line r)) down in
    let some : 1 ≤ length (band_columns p line r) = some_columns p line r here in
    walked_join (IsCalm p) (IsAt line 0) (IsEnded line) before (Step (Select r) ∷ [])
    (map Step (flat_map run_commands rs)) select
    (walked_as (IsCalm p) (IsAt line (0 + length (items_of rs))) (IsEnded line) (before ++ Step (Select r) ∷ [])
    (map Step (flat_map run_commands rs)) drawn
    (λ b d. record { line_is = d.line_is; kept = d.kept (omega (arith, long, some)) }))

-- ---- a band

return_walks : (p : PictureValue) (before : List Event) (line : ℕ) → IsEnded line before
    → Walked (IsCalm p) (IsAt line 0) before (Step CarriageReturn ∷ [])
return_walks p before line s =
    walked_one (IsCalm p) (IsAt line 0) before (Step CarriageReturn)
    (calm_return p before (Step CarriageReturn) refl s.kept) (record {
      line_is = band_push before (Step CarriageReturn) ∙ rw s.line_is (omega arith);
      column_is = column_push 0 before (Step CarriageReturn);
      kept = λ lt. absurd (omega (arith, lt));
    })

abbrev Occur : PictureValue → ℕ → List ℕ → Type 0
Occur p line rs = AllByRecursion (λ r. occurs p line r ≡ true) rs

others_walk : (p : PictureValue) (rs : List ℕ) (before : List Event) (line : ℕ) → IsEnded line before
    → Occur p line rs → 6 * line < p.height
    → Walked (IsCalm p) (IsEnded line) before
    (map Step (flat_map (λ r. CarriageReturn ∷ register_commands p line r) rs))
others_walk p [] before line s here down = walked_none (IsCalm p) (IsEnded line) before s
others_walk p (r ∷ rs) before line s here down =
    let more = flat_map (λ r. CarriageReturn ∷ register_commands p line r) rs in
    let return = return_walks p before line s in
    let register = walked_join (IsCalm p) (IsAt line 0) (IsEnded line) before (Step CarriageReturn ∷ [])
    (map Step (register_commands p line r)) return
    (register_walks p (before ++ Step CarriageReturn ∷ []) line r return.after here.0 down) in
    rw (map-append Step (register_commands p line r) more)
    (walked_join (IsCalm p) (IsEnded line) (IsEnded line) before
    (Step CarriageReturn ∷ map Step (register_commands p line r)) (map Step more) register
    (others_walk p rs (before ++ Step CarriageReturn ∷ map Step (register_commands p line r)) line register.after here.1
    down))

registers_walk : (p : PictureValue) (rs : List ℕ) (before : List Event) (line : ℕ) → IsAt line 0 before
    → Occur p line rs → 1 ≤ length rs → 6 * line < p.height
    → Walked (IsCalm p) (IsEnded line) before
    (map Step (join_by (register_commands p line) (CarriageReturn ∷ []) rs))
registers_walk p [] before line s here some down = absurd (omega (arith, some))
registers_walk p (r ∷ rs) before line s here some down =
    let more = flat_map (λ r. CarriageReturn ∷ register_commands p line r) rs in
    let register = register_walks p before line r s here.0 down in
    rw (map-append Step (register_commands p line r) more)
    (walked_join (IsCalm p) (IsEnded line) (IsEnded line) before (map Step (register_commands p line r)) (map Step more)
    register
    (others_walk p rs (before ++ map Step (register_commands p line r)) line register.after here.1 down))

filter_step : (q : ℕ → Bool) (r : ℕ) (rs : List ℕ) (b : Bool) → q r ≡ b → AllByRecursion (λ r. q r ≡ true) rs
    → AllByRecursion (λ r. q r ≡ true) (cond b (r ∷ rs) rs)
filter_step q r rs true is h = (is, h)
filter_step q r rs false is h = h

filter_passes : (q : ℕ → Bool) (rs : List ℕ) → AllByRecursion (λ r. q r ≡ true) (filter q rs)
filter_passes q [] = tt
filter_passes q (r ∷ rs) = filter_step q r (filter q rs) (q r) refl (filter_passes q rs)

registers_occur : (p : PictureValue) (line : ℕ) → Occur p line (band_registers p line)
unfolding band_registers
registers_occur p line = filter_passes (occurs p line) (below (length p.palette))

band_walks : (registers : ℕ) (p : PictureValue) (before : List Event) (line : ℕ) → Parted registers p
    → IsAt line 0 before → line < bands p → Walked (IsCalm p) (IsEnded line) before (map Step (band_commands p line))
unfolding band_commands
band_walks registers p before line parts s lt =
    registers_walk p (band_registers p line) before line s (registers_occur p line) (band_some line parts lt)
    (omega (arith, lt))

-- ---- all bands

next_walks : (p : PictureValue) (before : List Event) (line : ℕ) → IsEnded line before
    → Walked (IsCalm p) (IsAt (line + 1) 0) before (Step NextLine ∷ [])
next_walks p before line s =
    walked_one (IsCalm p) (IsAt (line + 1) 0) before (Step NextLine) (calm_return p before (Step NextLine) refl s.kept)
    (record {
      line_is = band_push before (Step NextLine) ∙ rw s.line_is refl;
      column_is = column_push 0 before (Step NextLine);
      kept = λ lt. absurd (omega (arith, lt));
    })

nexts_walk : (registers : ℕ) (p : PictureValue) (n : ℕ) (before : List Event) (line : ℕ) → Parted registers p
    → IsEnded line before → line + n < bands p
    → Each (IsCalm p) before (map Step (flat_map (λ l. NextLine ∷ band_commands p l) (range_with_len (line + 1) n)))
unfolding Each
nexts_walk registers p zero before line parts s lt = tt
nexts_walk registers p (suc n) before line parts s lt =
    let more = flat_map (λ l. NextLine ∷ band_commands p l) (range_with_len (line + 1 + 1) n) in
    let next = next_walks p before line s in
    let one = walked_join (IsCalm p) (IsAt (line + 1) 0) (IsEnded (line + 1)) before (Step NextLine ∷ [])
    (map Step (band_commands p (line + 1))) next
    (band_walks registers p (before ++ Step NextLine ∷ []) (line + 1) parts next.after (omega (arith, lt))) in
    rw (map-append Step (band_commands p (line + 1)) more)
    (each_append (IsCalm p) before (Step NextLine ∷ map Step (band_commands p (line + 1))) (map Step more) one.each
    (nexts_walk registers p n (before ++ Step NextLine ∷ map Step (band_commands p (line + 1))) (line + 1) parts
    one.after (omega (arith, lt))))

bands_walk : (registers : ℕ) (p : PictureValue) (n : ℕ) (before : List Event) → Parted registers p → IsAt 0 0 before
    → n ≤ bands p → Each (IsCalm p) before (map Step (join_by (band_commands p) (NextLine ∷ []) (below n)))
unfolding Each
bands_walk registers p zero before parts s le = tt
bands_walk registers p (suc n) before parts s le =
    let more = flat_map (λ l. NextLine ∷ band_commands p l) (range_with_len (0 + 1) n) in
    let one = band_walks registers p before 0 parts s (omega (arith, le)) in
    rw (map-append Step (band_commands p 0) more)
    (each_append (IsCalm p) before (map Step (band_commands p 0)) (map Step more) one.each
    (nexts_walk registers p n (before ++ map Step (band_commands p 0)) 0 parts one.after (omega (arith, le))))

-- ---- the whole

-- the event is no data command and no return
abbrev IsPlain : Event → Type 0
IsPlain e = (is_data_command e ≡ false) × (is_return e ≡ false)

plain_each : (p : PictureValue) (before es : List Event) → AllByRecursion IsPlain es → Each (IsCalm p) before es
unfolding Each
plain_each p before [] h = tt
plain_each p before (e ∷ es) h =
    (calm_plain p before e (h.0).0 (h.0).1, plain_each p (before ++ e ∷ []) es h.1)

colour_plain : (r : ℕ) (c : Parts) → IsPlain (Step (define_command r c))
colour_plain r (Rgb x y z) = (refl, refl)
colour_plain r (Hls x y z) = (refl, refl)

opening_walks : (p : PictureValue) → Each (IsCalm p) [] (opening p)
opening_walks p =
    plain_each p [] (opening p)
    (opening_is IsPlain p (refl, refl) (refl, refl) (λ r c is. colour_plain r c))

opening_at : (registers : ℕ) (p : PictureValue) → Parted registers p → IsAt 0 0 (opening p)
opening_at registers p parts =
    let opened = (defines_opened parts (raster_opens p)).after in
    record { line_is = opened.at_line; column_is = opened.at_margin; kept = λ lt. absurd (omega (arith, lt)) }

closing_walks : (registers : ℕ) (p : PictureValue) → Parted registers p → Each (IsCalm p) (opening p) (closing p)
unfolding picture_commands Each
closing_walks registers p parts =
    each_append (IsCalm p) (opening p) (map Step (picture_commands p)) (Finish false ∷ [])
    (bands_walk registers p (bands p) (opening p) parts (opening_at registers p parts) (omega arith))
    (calm_plain p _ (Finish false) refl refl, tt)

pub canon_walks : (registers : ℕ) (p : PictureValue) → IsPicture registers p
    → Each (IsCalm p) [] (opening p ++ closing p)
canon_walks registers p picture =
    each_append (IsCalm p) [] (opening p) (closing p) (opening_walks p)
    (closing_walks registers p (parted picture))
