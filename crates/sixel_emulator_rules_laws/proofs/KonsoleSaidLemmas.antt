-- The model of konsole says all of a list that breaks no rule.
use Rattle.std.proofs.Common.{◌≡◌, ℕ, ◌+◌, ◌<◌, true, false, List, length, take}
use Rattle.std.specs.Prelude.{slice_get}
use Rattle.sixel_grammar.specs.declared.command.Event.{Event}
use Rattle.sixel_grammar.specs.declared.command.Event.TheVariants.{Start, Step, Finish}
use Rattle.sixel_model.specs.Events.{is_eight_bit}
use Rattle.sixel_model.specs.Rules.{BreaksNone, last_rule}
use Rattle.sixel_model.proofs.LastLemmas.{item_there}
use Rattle.sixel_model.proofs.RuleLemmas.{keeps_at, none_drawn, seven_bits_at}
use Rattle.sixel_konsole.specs.Konsole.{konsole_model}
use Rattle.sixel_emulator.specs.Readings.{IsSaid, IsUnsaid, is_unsaid_control}
use Rattle.sixel_emulator.specs.Readings.IsUnsaid.{Control, Behaviour}
use Rattle.sixel_emulator_rules_laws.proofs.KonsoleRuleLemmas.{says}

seven_bits : (e : Event) → is_eight_bit e ≡ false → is_unsaid_control konsole_model e ≡ true → ⊥
seven_bits (Start true parameters) h is = cc
seven_bits (Start false parameters) h is = cc
seven_bits (Step command) h is = cc
seven_bits (Finish true) h is = cc
seven_bits (Finish false) h is = cc

position_says : (n : ℕ) (events : List Event) (i : ℕ) → BreaksNone n last_rule events → i < length events
    → IsUnsaid konsole_model events i → ⊥
position_says n events i none lt (Control e here is) = seven_bits e (seven_bits_at n events none i e here) is
position_says n events i none lt (Behaviour goes is) =
    let e = item_there events i lt in
    says n (take i events) e.0 (slice_get events (i + 1)) (keeps_at n events (none_drawn n events none) i e.0 e.1)
    (rw e.1 at is)

pub all_is_said : (n : ℕ) (events : List Event) → BreaksNone n last_rule events → IsSaid konsole_model events
all_is_said n events none = λ i lt unsaid. position_says n events i none lt unsaid
