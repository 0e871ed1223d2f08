-- Columns that a reader takes at once, perhaps after a select.
use Rattle.std.proofs.Common.{Bool, cond, ◌≡◌, ◌∙◌, ℕ, ◌+◌, ◌-◌, ◌<◌, ◌≤◌, true, false, List, [], ◌∷◌, ◌++◌, length}
use Rattle.std.proofs.Common.{get_or}
use Rattle.std.proofs.Common.{take, drop, Option, Some, None, refl, sym, ap, ap₂, subst, arith, length-append}
use Rattle.std.proofs.Common.{append_assoc, suc}
use Rattle.std.specs.Prelude.{◌&&◌, ◌==◌, nat_le, nat_lt}
use Rattle.std.proofs.lemmas.Bool.{cond-true, cond-false, le-leb}
use Rattle.std.proofs.lemmas.Bool.Decides.{nat_tests}
use Rattle.std.proofs.lemmas.List.{append-nil, drop-take, drop_more, get_or-drop, get_or-take, length-drop, length-take}
use Rattle.std.proofs.lemmas.List.{length-take-le}
use Rattle.std.proofs.lemmas.List.{take-append-drop, take-take, take_more, take_rest}
use Rattle.sixel_grammar.specs.declared.command.Command.TheVariants.{Repeat, Select, Sixel}
use Rattle.sixel_grammar.specs.declared.command.Event.{Event}
use Rattle.sixel_grammar.specs.declared.command.Event.TheVariants.{Step}
use Rattle.sixel_grammar.specs.declared.command.Placed.{Placed}
use Rattle.sixel_grammar.specs.declared.command.Run.{Run}
use Rattle.sixel_grammar.specs.declared.reader.Reader.{Reader}
use Rattle.sixel_grammar.specs.Bytes.{is_data, is_digit}
use Rattle.sixel_grammar.specs.Document.{most_bytes}
use Rattle.sixel_grammar.specs.Faults.{Form, NoCommand, RepeatNumber, ColourFields, EndsIn, is_idle}
use Rattle.sixel_grammar.specs.Next.{begin, next_of, chosen, with_digit, within}
use Rattle.sixel_grammar.specs.Pending.{form_of}
use Rattle.sixel_grammar.specs.Runs.{HasNumber, IsRun, LeadsTo, TakesRun, columns_in, column_events}
use Rattle.sixel_grammar.specs.Runs.{events_of_run, open_run, select_events, selected, selected_at}
use Rattle.sixel_grammar.specs.Standing.{StandsAfter, opened_after}
use Rattle.sixel_grammar.specs.Stretches.{CountsDataBytes, IsNoSixel, sixels_from}
use Rattle.sixel_grammar.proofs.AdvanceLemmas.{GoesTo, advances, second_place, with_done}
use Rattle.sixel_grammar.proofs.ChoiceLemmas.{goes-on}
use Rattle.sixel_grammar.proofs.NotSixelLemmas.{not_sixel}
use Rattle.sixel_grammar.proofs.SixelLemmas.{other_byte, sixels_end}
use Rattle.sixel_grammar.proofs.StandLemmas.{accepted, completed_events, ends-unfinished, handed, second-same}
use Rattle.sixel_grammar.proofs.WalkLemmas.{moved}

-- one more byte of the piece
step : (place : ℕ) (piece : List ℕ) (k : ℕ) (f g : Form) (done : List Placed) (o : ℕ) (first second : Option Event)
    → LeadsTo place piece k f done o → k < length piece
    → next_of f (get_or piece k 0) ≡ Some (first, g, second)
    → LeadsTo place piece (k + 1) g (done ++ completed_events o (place + k) first second)
    (cond (is_idle g) (place + k + 1) (moved o (place + k) first))
step place piece k f g done o first second leads lt next events bytes at e =
    let b : ℕ = get_or piece k 0 in
    let here : List ℕ = bytes ++ take k piece in
    let n : place + k ≡ length here =
    omega (arith, length-append bytes (take k piece), length-take-le k piece (omega arith), at) in
    let went : GoesTo (events ++ done) o here b (Some (first, g, second)) =
    subst (λ (t : Option (Option Event × Form × Option Event)). GoesTo (events ++ done) o here b t) next
    (advances f (leads events bytes at e) b) in
    let same : with_done (with_done (events ++ done) o first) (second_place o here first) second
    ≡ events ++ (done ++ completed_events o (place + k) first second) =
    handed (events ++ done) o (place + k) here first second n
    ∙ append_assoc events done (completed_events o (place + k) first second) in
    let more : here ++ b ∷ [] ≡ bytes ++ take (k + 1) piece =
    append_assoc bytes (take k piece) (b ∷ []) ∙ ap (λ (t : List ℕ). bytes ++ t) (sym (take_more piece k 0 lt)) in
    let opened : cond (is_idle g) (length here + 1) (second_place o here first)
    ≡ cond (is_idle g) (place + k + 1) (moved o (place + k) first) =
    ap (λ (m : ℕ). cond (is_idle g) (m + 1) (second_place o here first)) (sym n)
    ∙ ap (λ (m : ℕ). cond (is_idle g) (place + k + 1) m) (second-same o (place + k) here first n) in
    subst (λ (t : List ℕ).
    EndsIn g (events ++ (done ++ completed_events o (place + k) first second))
    (cond (is_idle g) (place + k + 1) (moved o (place + k) first)) t) more
    (subst (λ (m : ℕ). EndsIn g (events ++ (done ++ completed_events o (place + k) first second)) m (here ++ b ∷ []))
    opened
    (subst (λ (es : List Placed).
    EndsIn g es (cond (is_idle g) (length here + 1) (second_place o here first)) (here ++ b ∷ [])) same went))

-- no byte yet
pub led_nowhere : (place : ℕ) (piece : List ℕ) → LeadsTo place piece 0 NoCommand [] place
led_nowhere place piece events bytes at e =
    subst (λ (es : List Placed). EndsIn NoCommand es place (bytes ++ [])) (sym (append-nil events))
    (subst (λ (bs : List ℕ). EndsIn NoCommand events place bs) (sym (append-nil bytes)) e)

pub not_begun : (piece : List ℕ) (place : ℕ) → LeadsTo place piece 0 NoCommand [] (place + 0)
not_begun piece place =
    let none : place ≡ place + 0 = omega arith in
    subst (λ (n : ℕ). LeadsTo place piece 0 NoCommand [] n) none (led_nowhere place piece)

-- a digit of the open number
pub digit_led : (place opened : ℕ) (piece : List ℕ) (k n m : ℕ) (done : List Placed) (form : ℕ → Form) → HasNumber form
    → LeadsTo place piece k (form n) done opened → k < length piece → is_digit (get_or piece k 0) ≡ true
    → m ≡ with_digit n (get_or piece k 0) → m ≤ 65535
    → LeadsTo place piece (k + 1) (form m) done opened
digit_led place opened piece k n m done form has leads lt digit is small =
    let b : ℕ = get_or piece k 0 in
    let fits : nat_le (with_digit n b) 65535 ≡ true = le-leb (with_digit n b) 65535 (omega (arith, is, small)) in
    let next : within (form n) b ≡ Some (form m, None) =
    (has n b).0 digit ∙ cond-true (nat_le (with_digit n b) 65535) _ _ fits
    ∙ ap (λ (j : ℕ). Some (form j, None)) (sym is) in
    let went = step place piece k (form n) (form m) done opened None None leads lt
    (goes-on (form n) (form m) b None next) in
    subst (λ (es : List Placed). LeadsTo place piece (k + 1) (form m) es opened) (append-nil done)
    (subst (λ (i : ℕ). LeadsTo place piece (k + 1) (form m) (done ++ []) i)
    (ap (λ (t : Bool). cond t (place + k + 1) opened) (has m 0).1) went)

pub repeat_number : HasNumber RepeatNumber
repeat_number n b = (λ d. cond-true (is_digit b) _ _ d, refl)

pub colour_number : HasNumber (ColourFields [])
colour_number n b = (λ d. cond-true (is_digit b) _ _ d, refl)

-- `#`
pub select_led : (place : ℕ) (piece : List ℕ) → 0 < length piece → get_or piece 0 0 ≡ 35
    → LeadsTo place piece 1 (ColourFields [] 0) [] place
select_led place piece lt is =
    step place piece 0 NoCommand (ColourFields [] 0) [] place None None (led_nowhere place piece) lt
    (ap (λ (b : ℕ). next_of NoCommand b) is)

-- `!`
pub repeat_led : (place : ℕ) (piece : List ℕ) (k : ℕ) (select : Option ℕ)
    → LeadsTo place piece k (selected select) [] (selected_at place k select) → k < length piece
    → get_or piece k 0 ≡ 33
    → LeadsTo place piece (k + 1) (RepeatNumber 0) (select_events place select) (place + k)
repeat_led place piece k None leads lt is =
    step place piece k NoCommand (RepeatNumber 0) [] (place + k) None None leads lt
    (ap (λ (b : ℕ). next_of NoCommand b) is)
repeat_led place piece k (Some n) leads lt is =
    step place piece k (ColourFields [] n) (RepeatNumber 0) [] place (Some (Step (Select n))) None leads lt
    (ap (λ (b : ℕ). next_of (ColourFields [] n) b) is)

no_digit : (b : ℕ) → is_data b ≡ true → is_digit b ≡ false
no_digit b h = grind (arith, nat_tests)

-- a data byte after `!` and its number
pub repeat_ended : (place : ℕ) (piece : List ℕ) (k n o : ℕ) (done : List Placed)
    → LeadsTo place piece k (RepeatNumber n) done o → k < length piece → is_data (get_or piece k 0) ≡ true
    → LeadsTo place piece (k + 1) NoCommand
    (done ++ record { place = o; event = Step (Repeat n (get_or piece k 0 - 63)) } ∷ []) (place + (k + 1))
repeat_ended place piece k n o done leads lt data_byte =
    let b : ℕ = get_or piece k 0 in
    let event : Event = Step (Repeat n (b - 63)) in
    let next : within (RepeatNumber n) b ≡ Some (NoCommand, Some event) =
    cond-false (is_digit b) _ _ (no_digit b data_byte) ∙ cond-true (is_data b) _ _ data_byte in
    let far : place + k + 1 ≡ place + (k + 1) = omega arith in
    subst (λ (m : ℕ).
    LeadsTo place piece (k + 1) NoCommand (done ++ record { place = o; event = event } ∷ []) m) far
    (step place piece k (RepeatNumber n) NoCommand done o None (Some event) leads lt
    (goes-on (RepeatNumber n) NoCommand b (Some event) next))

-- more of the piece
taken_then : (k n : ℕ) (xs : List ℕ) → take k xs ++ take n (drop k xs) ≡ take (k + n) xs
taken_then k n xs =
    ap (λ (t : List ℕ). t ++ take n (drop k xs)) (sym (take-take k (k + n) xs (omega arith)))
    ∙ ap (λ (t : List ℕ). take k (take (k + n) xs) ++ t) (sym (drop-take k n xs))
    ∙ take-append-drop k (take (k + n) xs)

-- data bytes, when no command is open
sixels_led : (place : ℕ) (piece : List ℕ) (k end : ℕ) (done : List Placed)
    → LeadsTo place piece k NoCommand done (place + k) → k ≤ end → end ≤ length piece
    → ((j : ℕ) → k ≤ j → j < end → is_data (get_or piece j 0) ≡ true)
    → LeadsTo place piece end NoCommand (done ++ sixels_from (place + k) (take (end - k) (drop k piece))) (place + end)
sixels_led place piece k end done leads from to each events bytes at e =
    let p : List ℕ = take (end - k) (drop k piece) in
    let here : List ℕ = bytes ++ take k piece in
    let n : place + k ≡ length here =
    omega (arith, length-append bytes (take k piece), length-take-le k piece (omega arith), at) in
    let long : length p ≡ end - k = length-take-le (end - k) (drop k piece) (omega (arith, length-drop k piece)) in
    let went = sixels_end p (events ++ done) (place + k) here n
    (λ j lt. ap is_data (get_or-take (end - k) (drop k piece) j 0 (omega (arith, long)) ∙ get_or-drop k piece j 0)
    ∙ each (k + j) (omega arith) (omega (arith, long))) (leads events bytes at e) in
    let far : place + k + length p ≡ place + end = omega (arith, long) in
    let whole : k + (end - k) ≡ end = omega arith in
    let more : here ++ p ≡ bytes ++ take end piece =
    append_assoc bytes (take k piece) p
    ∙ ap (λ (t : List ℕ). bytes ++ t) (taken_then k (end - k) piece ∙ ap (λ (m : ℕ). take m piece) whole) in
    subst (λ (t : List ℕ). EndsIn NoCommand (events ++ (done ++ sixels_from (place + k) p)) (place + end) t) more
    (subst (λ (m : ℕ). EndsIn NoCommand (events ++ (done ++ sixels_from (place + k) p)) m (here ++ p)) far
    (subst (λ (es : List Placed). EndsIn NoCommand es (place + k + length p) (here ++ p))
    (append_assoc events done (sixels_from (place + k) p)) went))

-- a data byte ends a select
select_ended : (n b : ℕ) → is_data b ≡ true
    → next_of (ColourFields [] n) b ≡ Some (Some (Step (Select n)), NoCommand, Some (Step (Sixel (b - 63))))
select_ended n b data_byte =
    let other : within (ColourFields [] n) b ≡ None =
    cond-false (is_digit b) _ _ (no_digit b data_byte) ∙ cond-false ((b == 59) && nat_lt 0 4) _ _ (no_separator b data_byte) in
    let begins : begin b ≡ Some (NoCommand, Some (Step (Sixel (b - 63)))) = cond-true (is_data b) _ _ data_byte in
    ap (λ (w : Option (Form × Option Event)). chosen w (Some (Step (Select n))) (begin b)) other
    ∙ ap (λ (w : Option (Form × Option Event)). chosen None (Some (Step (Select n))) w) begins
  where
    no_separator : (b : ℕ) → is_data b ≡ true → ((b == 59) && nat_lt 0 4) ≡ false
    no_separator b h = grind (arith, nat_tests)

-- data bytes, when no command or only a select is open
pub columns_led : (place : ℕ) (piece : List ℕ) (k end : ℕ) (select : Option ℕ)
    → LeadsTo place piece k (selected select) [] (selected_at place k select) → k < end → end ≤ length piece
    → ((j : ℕ) → k ≤ j → j < end → is_data (get_or piece j 0) ≡ true)
    → LeadsTo place piece end NoCommand
    (select_events place select ++ sixels_from (place + k) (take (end - k) (drop k piece))) (place + end)
columns_led place piece k end None leads from to each =
    sixels_led place piece k end [] leads (omega arith) to each
columns_led place piece k end (Some n) leads from to each =
    let b : ℕ = get_or piece k 0 in
    let first : Placed = record { place = place; event = Step (Select n) } in
    let second : Placed = record { place = place + k; event = Step (Sixel (b - 63)) } in
    let one : LeadsTo place piece (k + 1) NoCommand (first ∷ second ∷ []) (place + k + 1) =
    step place piece k (ColourFields [] n) NoCommand [] place (Some (Step (Select n))) (Some (Step (Sixel (b - 63))))
    leads (omega arith) (select_ended n b (each k (omega arith) (omega arith))) in
    let next : place + k + 1 ≡ place + (k + 1) = omega arith in
    let rest = sixels_led place piece (k + 1) end (first ∷ second ∷ [])
    (subst (λ (m : ℕ). LeadsTo place piece (k + 1) NoCommand (first ∷ second ∷ []) m) next one)
    (omega arith) to (λ j lt under. each j (omega arith) under) in
    let count : suc (end - (k + 1)) ≡ end - k = omega arith in
    let all : b ∷ take (end - (k + 1)) (drop (k + 1) piece) ≡ take (end - k) (drop k piece) =
    ap (λ (t : List ℕ). take (suc (end - (k + 1))) t) (sym (drop_more piece k 0 (omega arith)))
    ∙ ap (λ (m : ℕ). take m (drop k piece)) count in
    let events : first ∷ second ∷ sixels_from (place + (k + 1)) (take (end - (k + 1)) (drop (k + 1) piece))
    ≡ first ∷ sixels_from (place + k) (take (end - k) (drop k piece)) =
    ap (λ (m : ℕ). first ∷ second ∷ sixels_from m (take (end - (k + 1)) (drop (k + 1) piece))) (sym next)
    ∙ ap (λ (t : List ℕ). first ∷ sixels_from (place + k) t) all in
    subst (λ (es : List Placed). LeadsTo place piece end NoCommand es (place + end)) events rest

-- data bytes at the beginning of the rest of a piece
pub rest_is_data : (piece : List ℕ) (from count : ℕ)
    → CountsDataBytes (take (length piece - from) (drop from piece)) 0
    (length (take (length piece - from) (drop from piece))) count
    → (j : ℕ) → from ≤ j → j < from + count → is_data (get_or piece j 0) ≡ true
rest_is_data piece from count counted j le lt =
    let rest : List ℕ = take (length piece - from) (drop from piece) in
    let at : from + (j - from) ≡ j = omega arith in
    let same : get_or rest (j - from) 0 ≡ get_or piece j 0 =
    ap (λ (t : List ℕ). get_or t (j - from) 0) (take_rest piece from) ∙ get_or-drop from piece (j - from) 0
    ∙ ap (λ (k : ℕ). get_or piece k 0) at in
    ap is_data (sym same) ∙ counted.each (j - from) (omega arith) (omega arith)

-- ---- the reader

columns_are : (run : Run) (piece : List ℕ) → run.start ≤ run.length
    → columns_in run piece ≡ drop run.start (take run.length piece)
columns_are run piece le =
    let whole : run.start + (run.length - run.start) ≡ run.length = omega arith in
    sym (drop-take run.start (run.length - run.start) piece)
    ∙ ap (λ (n : ℕ). drop run.start (take n piece)) whole

-- a reader takes a run at the beginning of a piece, of which no more bytes than may come are seen
pub run_taken : (r q : Reader) (run : Run) (piece : List ℕ) → form_of r.pending ≡ NoCommand → q.pending ≡ r.pending
    → q.fault ≡ r.fault → q.left ≡ r.left - run.length → run.place ≡ most_bytes - r.left → run.start < run.length
    → (seen : List ℕ) → seen ≡ take r.left piece → run.length ≤ length seen → IsRun run seen
    → TakesRun r q run piece
run_taken r q run piece form same fault left begins some seen seen_is room is events bytes s =
    let few : run.length ≤ r.left = omega (arith, room, ap length seen_is, length-take r.left piece) in
    let at : run.place ≡ length bytes = omega (arith, begins, s.left) in
    let here : opened_after (length bytes) r ≡ run.place =
    ap (λ (f : Form). cond (is_idle f) (length bytes) r.opened) form ∙ sym at in
    let between : form_of q.pending ≡ NoCommand = ap form_of same ∙ form in
    let part : take run.length seen ≡ take run.length piece =
    ap (λ (t : List ℕ). take run.length t) seen_is ∙ take-take run.length r.left piece few in
    let cols : columns_in run seen ≡ columns_in run piece =
    columns_are run seen (omega arith)
    ∙ ap (λ (t : List ℕ). drop run.start t) part ∙ sym (columns_are run piece (omega arith)) in
    let long : length (take run.length piece) ≡ run.length =
    ap length (sym part) ∙ length-take-le run.length seen room in
    let len : length (bytes ++ take run.length piece) ≡ length bytes + run.length =
    length-append bytes (take run.length piece) ∙ ap (λ (n : ℕ). length bytes + n) long in
    let there : opened_after (length (bytes ++ take run.length piece)) q ≡ run.place + run.length =
    ap (λ (f : Form). cond (is_idle f) (length (bytes ++ take run.length piece)) q.opened) between ∙ len
    ∙ ap (λ (n : ℕ). n + run.length) (sym at) in
    let from : EndsIn NoCommand events run.place bytes =
    subst (λ (f : Form). EndsIn f events run.place bytes) form
    (subst (λ (k : ℕ). EndsIn (form_of r.pending) events k bytes) here s.ends) in
    let went : EndsIn NoCommand (events ++ events_of_run run piece) (run.place + run.length)
    (bytes ++ take run.length piece) =
    subst (λ (t : List ℕ). EndsIn NoCommand (events ++ events_of_run run piece) (run.place + run.length) (bytes ++ t))
    part
    (subst (λ (t : List ℕ).
    EndsIn NoCommand
    (events ++ (select_events run.place run.select ++ column_events (run.place + run.start) run.columns t))
    (run.place + run.length) (bytes ++ take run.length seen)) cols (is events bytes at from)) in (
      at,
      record {
        no_fault = fault ∙ s.no_fault;
        left = omega (arith, s.left, left, len, few);
        ends = subst (λ (k : ℕ).
            EndsIn (form_of q.pending) (events ++ events_of_run run piece) k (bytes ++ take run.length piece))
            (sym there)
            (subst (λ (f : Form).
            EndsIn f (events ++ events_of_run run piece) (run.place + run.length) (bytes ++ take run.length piece))
            (sym between) went);
      },
    )

-- what is behind a run, which no more than single sixels ended, is no sixel
pub behind_run : (q : Reader) (most count : ℕ) (piece seen : List ℕ) → seen ≡ take most piece → q.left ≡ most - count
    → count < length piece → (count < length seen → is_data (get_or seen count 0) ≡ false)
    → IsNoSixel q (get_or piece count 0)
behind_run q most count piece seen seen_is left more other after events bytes place bits s t =
    not_sixel q after events bytes _ place bits
    (λ some. other_byte (form_of q.pending) (get_or piece count 0)
    (let under : count < most = omega (arith, some, left) in
    let room : count < length seen = omega (arith, under, more, ap length seen_is, length-take most piece) in
    ap (λ (b : ℕ). is_data b)
    (sym (ap (λ (t : List ℕ). get_or t count 0) seen_is ∙ get_or-take most piece count 0 under)) ∙ other room)) s t

-- a reader takes the introducer and the digits of a select, of which no more bytes than may come are seen
pub select_opened : (r q : Reader) (register end place : ℕ) (piece : List ℕ) → form_of r.pending ≡ NoCommand
    → form_of q.pending ≡ ColourFields [] register → q.fault ≡ r.fault → q.left ≡ r.left - end
    → q.opened ≡ most_bytes - r.left → place ≡ most_bytes - r.left
    → (seen : List ℕ) → seen ≡ take r.left piece → end ≤ length seen
    → LeadsTo place seen end (ColourFields [] register) [] place
    → TakesRun r q (open_run place end) piece
select_opened r q register end place piece form after fault left opened begins seen seen_is room leads events bytes s =
    let few : end ≤ r.left = omega (arith, room, ap length seen_is, length-take r.left piece) in
    let at : place ≡ length bytes = omega (arith, begins, s.left) in
    let here : opened_after (length bytes) r ≡ place =
    ap (λ (f : Form). cond (is_idle f) (length bytes) r.opened) form ∙ sym at in
    let part : take end seen ≡ take end piece =
    ap (λ (t : List ℕ). take end t) seen_is ∙ take-take end r.left piece few in
    let long : length (take end piece) ≡ end = ap length (sym part) ∙ length-take-le end seen room in
    let len : length (bytes ++ take end piece) ≡ length bytes + end =
    length-append bytes (take end piece) ∙ ap (λ (n : ℕ). length bytes + n) long in
    let there : opened_after (length (bytes ++ take end piece)) q ≡ place =
    ap (λ (f : Form). cond (is_idle f) (length (bytes ++ take end piece)) q.opened) after ∙ opened ∙ sym begins in
    let from : EndsIn NoCommand events place bytes =
    subst (λ (f : Form). EndsIn f events place bytes) form
    (subst (λ (k : ℕ). EndsIn (form_of r.pending) events k bytes) here s.ends) in
    let went : EndsIn (ColourFields [] register) (events ++ []) place (bytes ++ take end piece) =
    subst (λ (t : List ℕ). EndsIn (ColourFields [] register) (events ++ []) place (bytes ++ t)) part
    (leads events bytes at from) in (
      at,
      record {
        no_fault = fault ∙ s.no_fault;
        left = omega (arith, s.left, left, len, few);
        ends = subst (λ (k : ℕ). EndsIn (form_of q.pending) (events ++ []) k (bytes ++ take end piece)) (sym there)
            (subst (λ (f : Form). EndsIn f (events ++ []) place (bytes ++ take end piece)) (sym after) went);
      },
    )

-- a byte ends a command, and is one itself
pub two : (r q : Reader) (events : List Placed) (bytes : List ℕ) (b began place : ℕ) (first second : Event)
    → StandsAfter r events bytes → 0 < r.left
    → next_of (form_of r.pending) b ≡ Some (Some first, form_of q.pending, Some second)
    → form_of q.pending ≡ NoCommand → began ≡ r.opened → place ≡ most_bytes - r.left
    → q.fault ≡ r.fault → q.left ≡ r.left - 1
    → StandsAfter q (events ++ record { place = began; event = first } ∷ record { place = place; event = second } ∷ [])
    (bytes ++ b ∷ [])
two r q events bytes b began place first second s lt next form begins at fault left =
    let here : place ≡ length bytes = omega (arith, s.left, at) in
    let unfinished = ends-unfinished (form_of r.pending) b first (form_of q.pending) (Some second) next in
    accepted r q events bytes b r.opened (Some first) (Some second)
    (record {
      first = Some (record { place = began; event = first });
      second = Some (record { place = place; event = second });
    }) s lt next
    (ap (λ (i : Bool). cond i (length bytes) r.opened) (sym unfinished))
    (ap₂ (λ (m n : ℕ). record { place = m; event = first } ∷ record { place = n; event = second } ∷ []) begins here)
    fault left (λ i. absurd (let n = ap is_idle form in cc))
