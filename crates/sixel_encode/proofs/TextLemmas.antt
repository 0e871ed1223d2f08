-- The texts of commands and of columns.
use Rattle.std.proofs.Common.{◌≡◌, ◌≢◌, ℕ, zero, suc, ◌+◌, ◌<◌, Bool, false, List, [], ◌∷◌, ◌++◌, map}
use Rattle.std.proofs.Common.{replicate, refl, ap, ◌∙◌}
use Rattle.std.specs.Prelude.{flat_map, nat_le, if◌then◌else◌}
use Rattle.std.proofs.lemmas.Bool.{lt-leb}
use Rattle.std.proofs.lemmas.List.{map-append, append-nil}
use Rattle.sixel_grammar.specs.declared.command.Command.{Command}
use Rattle.sixel_grammar.specs.declared.command.Command.TheVariants.{Sixel, Repeat}
use Rattle.sixel_grammar.specs.declared.command.Event.TheVariants.{Step}
use Rattle.sixel_grammar.specs.Spelling.{fixed_command}
use Rattle.sixel_grammar.specs.FixedText.{fixed_text}
use Rattle.sixel_grammar.proofs.FixedTextLemmas.{fixed_text-append}
use Rattle.sixel_encode.specs.Canon.{Run, runs, run_commands, without_blanks, commands_text}
use Rattle.sixel_encode.proofs.RunLemmas.{run_before, run_at_end, without_all}

pub text-append : (xs ys : List Command) → commands_text (xs ++ ys) ≡ commands_text xs ++ commands_text ys
unfolding commands_text
text-append xs ys = ap fixed_text (map-append Step xs ys) ∙ fixed_text-append (map Step xs) (map Step ys)

pub text-none : commands_text [] ≡ []
unfolding commands_text
text-none = refl

pub text-one : (c : Command) → commands_text (c ∷ []) ≡ fixed_command c
unfolding commands_text
text-one c = append-nil (fixed_command c)

-- n equal sixels
pub text-sixels : (n b : ℕ) → commands_text (replicate n (Sixel b)) ≡ replicate n (63 + b)
unfolding commands_text
text-sixels zero b = refl
text-sixels (suc n) b = ap (λ (t : List ℕ). (63 + b) ∷ t) (text-sixels n b)

-- ---- the text of columns

-- the text of a run of `count` columns with these bits
abbrev pub run_text : ℕ → ℕ → List ℕ
run_text count bits = commands_text (run_commands (record { count = count; item = bits }))

-- the text of columns up to the last one with a set bit
abbrev pub columns_text : List ℕ → List ℕ
columns_text columns = commands_text (flat_map run_commands (runs (without_blanks columns)))

-- equal columns before a different one
pub columns-before : (n b c : ℕ) (cs : List ℕ) → c ≢ b
    → columns_text (replicate n b ++ c ∷ cs) ≡ run_text n b ++ columns_text (c ∷ cs)
unfolding commands_text
columns-before zero b c cs h = refl
columns-before (suc n) b c cs h =
    ap (λ (rs : List Run). commands_text (flat_map run_commands rs)) (run_before n b c cs h)
    ∙ text-append (run_commands (record { count = suc n; item = b }))
    (flat_map run_commands (runs (without_blanks (c ∷ cs))))

-- equal columns with set bits at the end
pub columns-end : (n b : ℕ) → b ≢ 0 → columns_text (replicate n b ++ []) ≡ run_text n b
unfolding commands_text runs
columns-end zero b h = refl
columns-end (suc n) b h =
    ap columns_text (append-nil (replicate (suc n) b))
    ∙ ap (λ (rs : List Run). commands_text (flat_map run_commands rs)) (run_at_end n b h)
    ∙ ap commands_text (append-nil (run_commands (record { count = suc n; item = b })))

-- blank columns at the end have no text
pub columns-blank : (n b : ℕ) → b ≡ 0 → columns_text (replicate n b ++ []) ≡ []
unfolding commands_text runs
columns-blank n b h =
    ap columns_text (append-nil (replicate n b)) ∙ ap (λ (t : ℕ). columns_text (replicate n t)) h
    ∙ ap (λ (t : List ℕ). commands_text (flat_map run_commands (runs t))) (without_all n)

-- one more column
pub replicate-then : {A : Type 0} (n : ℕ) (b : A) (cs : List A) → replicate n b ++ b ∷ cs ≡ replicate (suc n) b ++ cs
replicate-then zero b cs = refl
replicate-then (suc n) b cs = ap (λ (t : List _). b ∷ t) (replicate-then n b cs)

-- a run of fewer than four columns
pub run-short : (count bits : ℕ) → count < 4 → run_text count bits ≡ replicate count (63 + bits)
run-short count bits less =
    let short : nat_le 4 count ≡ false = lt-leb 4 count less in
    ap (λ (t : Bool). commands_text (if t then Repeat count bits ∷ [] else replicate count (Sixel bits))) short
    ∙ text-sixels count bits
