-- What words that give no task come to.
use Rattle.std.proofs.Common.{◌≡◌, List, [], ap, inl, inr, refl, subst, sym}
use Rattle.clap.specs.Kinds.{HasKind, IsAmong}
use Rattle.clap.specs.Values.{kind_of}
use Rattle.clap.specs.declared.error.Error.{Error}
use Rattle.clap.specs.declared.error.kind.ErrorKind.{ErrorKind}
use Rattle.clap.specs.declared.error.kind.ErrorKind.TheVariants as kind
use Rattle.sixel_words.specs.declared.words.WordsFault.{WordsFault}
use Rattle.sixel_words.specs.declared.words.WordsFault.TheVariants as fault
use Rattle.sixel_report.specs.declared.task.Task.{Task}
use Rattle.sixel_report.specs.Texts.{Text}
use Rattle.sixel_words.specs.Words.{AsksFor, HoldsError, IsExplanationOf, IsFaultFor, IsFoundIn, IsNoHelp, IsTaskOf}
use Rattle.sixel_words.specs.Words.{IsUnexplained, kinds_of}

-- memory may be wanted for any words
pub memory_is_wanted : (words : List Text) → IsFaultFor words fault.OutOfMemory
memory_is_wanted words = record {
  sorted = tt;
  found = tt;
  accepted = λ taken t is. refl;
  asked = tt;
  explained = λ taken names asks. tt;
  unhelped = λ taken. tt;
}

-- an error that is shown isn't out of memory, so its kind is one of the other kinds that it may have
shown_kind : (words : List Text) (error held : Error) (f : WordsFault) → kind_of held ≡ kind_of error
    → (kind_of error ≡ kind.OutOfMemory → f ≡ fault.OutOfMemory) → (f ≡ fault.OutOfMemory → ⊥)
    → HasKind (kinds_of words) error → IsAmong (kind_of held) (kinds_of words)
shown_kind words error held f kept memory shown (inl wanted) = absurd (shown (memory wanted))
shown_kind words error held f kept memory shown (inr among) =
    subst (λ (k : ErrorKind). IsAmong k (kinds_of words)) (sym kept) among

pub found_by_clap : (words : List Text) (error : Error) (f : WordsFault) → HasKind (kinds_of words) error
    → HoldsError error f → IsUnexplained f → (kind_of error ≡ kind.OutOfMemory → f ≡ fault.OutOfMemory)
    → IsFoundIn words f
found_by_clap words error (fault.Usage held) has kept unexplained memory =
    inl (shown_kind words error held (fault.Usage held) kept.0 memory (λ is. cc) has)
found_by_clap words error (fault.Help held) has kept unexplained memory =
    shown_kind words error held (fault.Help held) (ap kind_of kept) memory (λ is. cc) has
found_by_clap words error (fault.Explanation topics) has kept unexplained memory = absurd unexplained
found_by_clap words error fault.OutOfMemory has kept unexplained memory = tt

-- of words that clap takes and that give no task
pub found_in_taken : (words : List Text) (f : WordsFault) → kinds_of words ≡ [] → IsNoHelp f
    → ((t : Task) → IsTaskOf words t → ⊥)
    → ((names : List Text) → AsksFor words names → IsExplanationOf names f) → IsFoundIn words f
found_in_taken words (fault.Usage error) taken unhelped task explained =
    inr (record { taken = taken; task = task; explanation = explained })
found_in_taken words (fault.Help error) taken unhelped task explained = absurd unhelped
found_in_taken words (fault.Explanation topics) taken unhelped task explained = taken
found_in_taken words fault.OutOfMemory taken unhelped task explained = tt
