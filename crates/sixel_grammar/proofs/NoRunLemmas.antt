-- Bytes that begin with no run.
use Rattle.std.proofs.Common.{◌≡◌, ◌≢◌, ◌∙◌, ℕ, ◌+◌, ◌<◌, ◌≤◌, true, false, List, [], ◌∷◌, ◌++◌, length, get_or}
use Rattle.std.proofs.Common.{take, drop, None, refl, sym, ap, subst, arith, length-append, append_assoc, ◌⊎◌, inl, inr}
use Rattle.std.proofs.Common.{Option, zero, suc}
use Rattle.std.specs.Prelude.{nat_le}
use Rattle.std.proofs.lemmas.Bool.{cases_lt, cond-false, cond_both}
use Rattle.std.proofs.lemmas.Bool.Decides.{nat_tests}
use Rattle.std.proofs.lemmas.List.{drop_more, get_or-take, length-take, take-append-drop, take-take}
use Rattle.sixel_grammar.specs.declared.command.Command.TheVariants.{Repeat}
use Rattle.sixel_grammar.specs.declared.command.Event.{Event}
use Rattle.sixel_grammar.specs.declared.command.Event.TheVariants.{Step}
use Rattle.sixel_grammar.specs.declared.command.Placed.{Placed}
use Rattle.sixel_grammar.specs.declared.reader.Reader.{Reader}
use Rattle.sixel_grammar.specs.Bytes.{is_data, is_digit}
use Rattle.sixel_grammar.specs.Document.{most_bytes}
use Rattle.sixel_grammar.specs.Faults.{Form, NoCommand, RepeatNumber, EndsIn}
use Rattle.sixel_grammar.specs.Next.{chosen, begin, with_digit, within}
use Rattle.sixel_grammar.specs.Pending.{form_of}
use Rattle.sixel_grammar.specs.Prefixes.{CompleteIn}
use Rattle.sixel_grammar.specs.Runs.{EndsNoRepeat, IsNoRun}
use Rattle.sixel_grammar.specs.Standing.{StandsAfter}
use Rattle.sixel_grammar.proofs.DocumentWalkLemmas.{not_viable}
use Rattle.sixel_grammar.proofs.RunLemmas.{not_begun, repeat_led, repeat_number}
use Rattle.sixel_grammar.proofs.StandLemmas.{read_complete, read_short}
use Rattle.sixel_grammar.proofs.UniqueLemmas.{complete_stays, form_once}
use Rattle.sixel_grammar.proofs.ViableLemmas.{complete}

-- a byte that is no data and no digit that fits ends no repeat
pub stuck : (n b : ℕ) → (is_digit b ≡ true → 65535 < with_digit n b) → is_data b ≡ false
    → within (RepeatNumber n) b ≡ None
stuck n b large other =
    cond_both (is_digit b) _ _ (λ w. w ≡ None)
    (λ digit. cond-false (nat_le (with_digit n b) 65535) _ _ (above (with_digit n b) (large digit)))
    (λ _. cond-false (is_data b) _ _ other)
  where
    above : (m : ℕ) → 65535 < m → nat_le m 65535 ≡ false
    above m h = grind (arith, nat_tests)

-- the first k of the bytes, of which no more than these were seen
parts : (k most : ℕ) (piece seen : List ℕ) → seen ≡ take most piece → length (take k piece) ≤ most
    → take k piece ≡ take (length (take k piece)) seen
parts k most piece seen seen_is few =
    let j : ℕ = length (take k piece) in
    sym (own k piece) ∙ sym (take-take j most piece few) ∙ ap (λ (t : List ℕ). take j t) (sym seen_is)
  where
    own : (k : ℕ) (xs : List ℕ) → take (length (take k xs)) xs ≡ take k xs
    own zero xs = refl
    own (suc k) [] = refl
    own (suc k) (x ∷ xs) = ap (λ (t : List ℕ). x ∷ t) (own k xs)

-- more of the bytes
longer : (bytes xs : List ℕ) (j end : ℕ) → j ≤ end
    → bytes ++ take end xs ≡ (bytes ++ take j xs) ++ drop j (take end xs)
longer bytes xs j end le =
    ap (λ (t : List ℕ). bytes ++ t)
    (sym (take-append-drop j (take end xs)) ∙ ap (λ (t : List ℕ). t ++ drop j (take end xs)) (take-take j end xs le))
    ∙ sym (append_assoc bytes (take j xs) (drop j (take end xs)))

-- the byte behind a part
with_next : (bytes xs : List ℕ) (end j : ℕ) → end < j → end < length xs
    → bytes ++ take j xs ≡ (bytes ++ take end xs) ++ get_or xs end 0 ∷ drop (end + 1) (take j xs)
with_next bytes xs end j lt within_xs =
    let there : end < length (take j xs) = omega (arith, length-take j xs) in
    longer bytes xs end j (omega arith)
    ∙ ap (λ (t : List ℕ). (bytes ++ take end xs) ++ t)
    (drop_more (take j xs) end 0 there
    ∙ ap (λ (b : ℕ). b ∷ drop (end + 1) (take j xs)) (get_or-take j xs end 0 lt))

-- one more event isn't complete where digits are open, and nothing goes on behind them
no_more : (events : List Placed) (bytes seen : List ℕ) (n end value j o : ℕ) (p : Placed) → (end < j) ⊎ (j ≤ end)
    → EndsIn (RepeatNumber value) (events ++ []) o (bytes ++ take end seen)
    → CompleteIn (events ++ p ∷ []) (bytes ++ take j seen) → j ≤ length seen
    → (end < length seen → within (RepeatNumber value) (get_or seen end 0) ≡ None) → ⊥
no_more events bytes seen n end value j o p (inl lt) number done room stops =
    let b : ℕ = get_or seen end 0 in
    not_viable (RepeatNumber value) number b (drop (end + 1) (take j seen))
    (ap (λ (w : Option (Form × Option Event)). chosen w None (begin b)) (stops (omega arith))) (
      events ++ p ∷ [],
      subst (λ (t : List ℕ). CompleteIn (events ++ p ∷ []) t)
          (with_next bytes seen end j lt (omega arith)) done,
    )
no_more events bytes seen n end value j o p (inr le) number done room stops =
    let more = complete_stays (bytes ++ take j seen) (drop j (take end seen)) (events ++ p ∷ []) (events ++ []) done
    (subst (λ (t : List ℕ). CompleteIn (events ++ []) t) (longer bytes seen j end le)
    (complete (RepeatNumber value) number)) in
    omega (
      arith,
      ap length more.1,
      length-append events [],
      length-append (events ++ p ∷ []) more.0,
      length-append events (p ∷ []),
    )

-- no reader completes a repeat with a part of a piece whose `!` has none behind it
pub no_repeat : (after : Reader) (events : List Placed) (bytes piece : List ℕ) (most k place count bits : ℕ)
    → most + length bytes ≡ most_bytes → EndsIn NoCommand events (length bytes) bytes
    → (seen : List ℕ) → seen ≡ take most piece → 0 < length seen → get_or seen 0 0 ≡ 33 → EndsNoRepeat seen 0
    → StandsAfter after (events ++ record { place = place; event = Step (Repeat count bits) } ∷ []) (bytes ++ take k piece)
    → ⊥
no_repeat after events bytes piece most k place count bits most_is idle seen seen_is some sign none s =
    let repeat : Placed = record { place = place; event = Step (Repeat count bits) } in
    let n : ℕ = length bytes in
    let end : ℕ = none.0 in
    let j : ℕ = length (take k piece) in
    let few : j ≤ most =
    omega (
      arith,
      read_short after (events ++ repeat ∷ []) (bytes ++ take k piece) s,
      length-append bytes (take k piece),
      most_is,
    ) in
    let same : take k piece ≡ take j seen = parts k most piece seen seen_is few in
    let done : CompleteIn (events ++ repeat ∷ []) (bytes ++ take j seen) =
    subst (λ (p : List ℕ). CompleteIn (events ++ repeat ∷ []) (bytes ++ p)) same
    (read_complete after (events ++ repeat ∷ []) (bytes ++ take k piece) s) in
    let number : EndsIn (RepeatNumber none.1) (events ++ []) (n + 0) (bytes ++ take end seen) =
    none.4 n (n + 0) [] RepeatNumber repeat_number (repeat_led n seen 0 None (not_begun seen n) some sign) events bytes refl
    idle in
    let room : j ≤ length seen =
    omega (arith, few, ap length seen_is, length-take most piece, length-take k piece) in
    no_more events bytes seen n end none.1 j (n + 0) repeat (cases_lt end j) number done room none.5

-- a reader finds no run: a command is open, or no byte may come, or the bytes begin with none
pub open_or_full : (r : Reader) (piece : List ℕ) → r.sixels ≡ 0 → IsNoRun r piece
open_or_full r piece none events bytes s idle short some =
    let open_form : form_of r.pending ≡ NoCommand =
    form_once bytes (form_of r.pending) NoCommand s.ends idle in
    absurd (omega (arith, r.«open» (omega (arith, s.left)) open_form, none))

pub begins_none : (r : Reader) (piece : List ℕ)
    → (0 < length piece → (is_data (get_or piece 0 0) ≡ false) × (get_or piece 0 0 ≢ 33) × (get_or piece 0 0 ≢ 35))
    → IsNoRun r piece
begins_none r piece other events bytes s idle short some =
    let o = other some in (o.0, o.2, λ sign. absurd (o.1 sign))

pub found_none : (r : Reader) (piece seen : List ℕ) → seen ≡ take r.left piece
    → (0 < length seen → get_or seen 0 0 ≢ 35)
    → (0 < length seen → (is_data (get_or seen 0 0) ≡ false) × (get_or seen 0 0 ≡ 33 → EndsNoRepeat seen 0))
    → IsNoRun r piece
found_none r piece seen seen_is no_select other events bytes s idle short some =
    let left : 0 < r.left = omega (arith, s.left, short) in
    let seen_some : 0 < length seen = omega (arith, ap length seen_is, length-take r.left piece, left, some) in
    let first : get_or seen 0 0 ≡ get_or piece 0 0 =
    ap (λ (t : List ℕ). get_or t 0 0) seen_is ∙ get_or-take r.left piece 0 0 left in
    let o = other seen_some in (
      ap is_data (sym first) ∙ o.0,
      λ is. no_select seen_some (first ∙ is),
      λ sign after k place count bits t.
          no_repeat after events bytes piece r.left k place count bits s.left idle seen seen_is seen_some (first ∙ sign)
          (o.1 (first ∙ sign)) t,
    )
