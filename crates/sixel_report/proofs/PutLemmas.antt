-- From the contract of a call that writes a text to the words of `specs/Exits`.
use Rattle.std.proofs.Common.{◌≡◌, ◌∙◌, ℕ, List, ◌++◌, Option, Some, None, sym, ap, inl, inr, length}
use Rattle.std.proofs.Math.Seq.{take-length}
use Rattle.std.specs.Prelude.{Result, Ok, Err}
use Rattle.std.specs.Io.KnownBytes.{Appends, Keeps}
use Rattle.sixel_io.specs.Devices.{Puts, SinkState, Writes, change}
use Rattle.sixel_report.specs.Exits.{IsPut}
use Rattle.sixel_report.specs.Texts.{Text}

-- what such a call does (`Writes`) is what `IsPut` says
pub is_put : {A E : Type 0} (r : Result A E) (text : Text) (old new : SinkState) → Writes r old new text
    → IsPut text (change old new)
is_put (Ok x) text old new w = inl (w.taken, w.failures)
is_put (Err x) text old new w = inr (w.taken.0, w.taken.1, w.failures)

-- a text that was appended is still there after a flush, whether that failed or not
pub stays_put : {A E : Type 0} (r : Result A E) (had mid has : Option (List ℕ)) (text : Text) → Appends had mid text
    → Keeps mid has → Puts r had has text
stays_put (Ok x) None mid has text put kept = tt
stays_put (Ok x) (Some y) None has text put kept = absurd put
stays_put (Ok x) (Some y) (Some z) None text put kept = absurd kept
stays_put (Ok x) (Some y) (Some z) (Some w) text put kept = let same : w ≡ z = kept in same ∙ put
stays_put (Err x) None mid has text put kept = (0, tt)
stays_put (Err x) (Some y) None has text put kept = absurd put
stays_put (Err x) (Some y) (Some z) None text put kept = absurd kept
stays_put (Err x) (Some y) (Some z) (Some w) text put kept =
    let same : w ≡ z = kept in (length text, same ∙ put ∙ ap (λ (t : Text). y ++ t) (sym (take-length text)))
