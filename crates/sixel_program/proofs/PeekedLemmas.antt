-- What an input has left that gives its prefix again.
use Rattle.std.proofs.Common.{◌≡◌, ◌∙◌, ◌≤◌, ◌<◌, ◌+◌, ◌++◌, ℕ, List, Option, Some, None, ap, append_assoc, arith, drop}
use Rattle.std.proofs.Common.{[], ◌∷◌, IfSome, false, inl, length, min, subst, sym, take, true}
use Rattle.std.specs.Prelude.{◌==◌}
use Rattle.std.specs.Io.KnownBytes.{Consumes, IsAtEnd, Keeps, prepend_known}
use Rattle.sixel_messages.specs.declared.formats.Format.{Format}
use Rattle.sixel_program.specs.declared.peeked.After.{After}
use Rattle.sixel_program.specs.declared.peeked.After.TheVariants.{Rest, Failure, End}
use Rattle.sixel_messages.specs.Formats.{IsFormat, format_of}
use Rattle.sixel_program.specs.Peeked.{after_prefix, failures_of_source}
use Rattle.std.proofs.Math.Seq.{drop-drop, take-append_seam}
use Rattle.std.proofs.lemmas.List.{length-take-le, take-append-drop}

-- the first of the waiting bytes are given
part_given : (waits : List ℕ) (rest : Option (List ℕ)) (n : ℕ)
    → Consumes (prepend_known waits rest) (prepend_known (drop n waits) rest) (take n waits)
part_given waits None n = tt
part_given waits (Some more) n =
    ap (λ (bytes : List ℕ). bytes ++ more) (sym (take-append-drop n waits))
    ∙ append_assoc (take n waits) (drop n waits) more

-- a piece into which these bytes were copied begins with them
piece_begins : (waits behind : List ℕ) (n : ℕ) → n ≤ length waits → take n (take n waits ++ behind) ≡ take n waits
piece_begins waits behind n short =
    subst (λ (k : ℕ). take k (take n waits ++ behind) ≡ take n waits) (length-take-le n waits short)
    (take-append_seam (take n waits) behind)

-- `n` bytes of the prefix are given
pub prefix_given : (prefix waits new piece : List ℕ) (rest : Option (List ℕ)) (given n : ℕ) → waits ≡ drop given prefix
    → 0 < length waits → 0 < length piece → n ≡ min (length waits) (length piece) → new ≡ take n waits
    → Consumes (prepend_known (drop given prefix) rest) (prepend_known (drop (given + n) prefix) rest)
    (take n (new ++ drop n piece))
    × (n ≡ 0 → 0 < length (new ++ drop n piece) → IsAtEnd (prepend_known (drop (given + n) prefix) rest))
prefix_given prefix waits new piece rest given n waiting some room count is =
    let begins : take n (new ++ drop n piece) ≡ take n waits =
    rw is (piece_begins waits (drop n piece) n (omega (arith, count))) in
    let left : drop (given + n) prefix ≡ drop n waits = sym (drop-drop n given prefix) ∙ ap (drop n) (sym waiting) in (
      rw (begins, left, sym waiting) (part_given waits rest n),
      λ none. absurd (omega (arith, some, room, count, none)),
    )

-- some bytes wait
pub some_wait : (waits : List ℕ) → (length waits == 0) ≡ false → 0 < length waits
some_wait [] is = let no : true ≡ false = is in cc
some_wait (byte ∷ waits) is = omega arith

-- a format that the waiting bytes tell is one of the input
pub format_told : (told rest : Option (List ℕ)) (waits seen : List ℕ) (format : Option Format)
    → Keeps told (prepend_known waits rest) → seen ≡ waits → format ≡ format_of seen → IsFormat told format
format_told None rest waits seen format same are is = tt
format_told (Some bytes) None waits seen format same are is = absurd same
format_told (Some bytes) (Some more) waits seen format same are is =
    inl (waits, (more, sym same), is ∙ ap format_of are)

-- an input that waits with nothing, and has then come to its end, had no bytes
pub none_told : (told left : Option (List ℕ)) (after : After) (waits : List ℕ) → after ≡ End → waits ≡ []
    → Keeps told (prepend_known waits (after_prefix after left)) → IfSome told (λ bytes. bytes ≡ [])
none_told None left after waits ended none same = tt
none_told (Some bytes) left after waits ended none same =
    let at_end : Keeps (Some bytes) (prepend_known waits (Some [])) =
    subst (λ (a : After). Keeps (Some bytes) (prepend_known waits (after_prefix a left))) ended same in
    sym (subst (λ (w : List ℕ). Keeps (Some bytes) (prepend_known w (Some []))) none at_end)

-- if the input has had a failure, so has its source
pub source_failed : (after : After) (failures of_source : ℕ) → of_source ≡ failures_of_source after failures
    → 0 < failures → 0 < of_source
source_failed Rest failures of_source is some = omega (arith, is, some)
source_failed Failure failures of_source is some = omega (arith, is)
source_failed End failures of_source is some = omega (arith, is, some)
