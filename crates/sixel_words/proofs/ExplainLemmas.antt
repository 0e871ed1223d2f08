-- What the arguments of `explain` ask for.
use Rattle.std.proofs.Common.{◌≡◌, ◌∙◌, [], Option, Some, None, ap, codes, subst, sym, List}
use Rattle.std.specs.Prelude.{unwrap_or}
use Rattle.clap.specs.Simple.{subcommand_of}
use Rattle.clap.specs.Walk.{Row, all_of}
use Rattle.sixel_words.specs.declared.words.WordsFault.{WordsFault}
use Rattle.sixel_words.specs.declared.words.WordsFault.TheVariants as fault
use Rattle.sixel_explain.specs.Explanations.{Asks, line_of, names_in}
use Rattle.sixel_report.specs.Texts.{Text}
use Rattle.sixel_words.proofs.MatchLemmas.{same_parts}
use Rattle.sixel_words.specs.Words.{AsksFor, IsAskedBy, IsAskedIn, IsNoHelp, IsRefusal, IsUnexplained}
use Rattle.sixel_commands.specs.Commands.{sixel_app}

-- these names were found, so no others are asked for
pub found_asked : (said : List Text) (found names : List Text) → names_in (line_of said) ≡ Some found
    → Asks (Some said) names → found ≡ names
found_asked said found names is asks = ap (λ (o : Option (List Text)). unwrap_or o []) (sym is ∙ asks)

-- none were found, so none are asked for
pub none_asked : (said : List Text) (names : List Text) → names_in (line_of said) ≡ None → Asks (Some said) names → ⊥
none_asked said names is asks = let bad : None ≡ Some names = sym is ∙ asks in cc

pub asked_by : (words : List Text) (name : Text) (rows : List Row) (f : WordsFault)
    → subcommand_of sixel_app words ≡ Some (name, rows) → IsAskedIn name rows f → IsAskedBy words f
asked_by words name rows (fault.Explanation topics) is asked =
    (rows, is ∙ ap (λ (n : Text). Some (n, rows)) asked.0, asked.1)
asked_by words name rows (fault.Usage error) is asked = tt
asked_by words name rows (fault.Help error) is asked = tt
asked_by words name rows fault.OutOfMemory is asked = tt

-- a fault that is no explanation is right for any arguments
pub unasked : (words : List Text) (f : WordsFault) → IsUnexplained f → IsAskedBy words f
unasked words (fault.Explanation topics) is = absurd is
unasked words (fault.Usage error) is = tt
unasked words (fault.Help error) is = tt
unasked words fault.OutOfMemory is = tt

pub refused_unasked : (words : List Text) (f : WordsFault) → IsRefusal f → IsAskedBy words f
refused_unasked words (fault.Explanation topics) is = absurd is
refused_unasked words (fault.Usage error) is = tt
refused_unasked words (fault.Help error) is = absurd is
refused_unasked words fault.OutOfMemory is = tt

-- arguments that ask for names have the subcommand `explain`, with these names
pub same_wish : (words : List Text) (wanted : List Text) (name : Text) (rows : List Row) → AsksFor words wanted
    → subcommand_of sixel_app words ≡ Some (name, rows)
    → (name ≡ codes "explain") × Asks (all_of (codes "name") rows) wanted
same_wish words wanted name rows asks is =
    let same = same_parts (subcommand_of sixel_app words) (codes "explain") name asks.0 rows asks.1 is in
    (sym same.0, subst (λ (r : List Row). Asks (all_of (codes "name") r) wanted) same.1 asks.2)

-- a refusal isn't help
pub refused_unhelped : (f : WordsFault) → IsRefusal f → IsNoHelp f
refused_unhelped (fault.Explanation topics) is = absurd is
refused_unhelped (fault.Usage error) is = tt
refused_unhelped (fault.Help error) is = absurd is
refused_unhelped fault.OutOfMemory is = tt
