-- The register that a command selects.
use Rattle.std.proofs.Common.{◌≡◌, ℕ, Bool, true, false, Some, None, List, refl}
use Rattle.std.specs.Prelude.{if◌then◌else◌}
use Rattle.std.specs.Bool.{then_some}
use Rattle.sixel_grammar.specs.declared.command.Command.{Command}
use Rattle.sixel_grammar.specs.declared.command.Command.TheVariants.{Select, Define}
use Rattle.std.proofs.Math.Nat.{mod-eq_of_lt}
use Rattle.sixel_grammar.specs.declared.command.Event.{Event}
use Rattle.sixel_grammar.specs.declared.command.Event.TheVariants.{Step}
use Rattle.sixel_model.specs.Events.{named_by, select_of}
use Rattle.sixel_model.specs.Positions.{latest}
use Rattle.sixel_model.proofs.KnownLemmas.{Known, known_is}
use Rattle.sixel_terminal.specs.Drawing.{selected_on}
use Rattle.sixel_terminal.specs.Laws.{KnownIsSelected}

pub select_selects : (b : Bool) (r : ℕ) → Some r ≡ (if b then named_by else select_of) (Step (Select r))
select_selects true r = refl
select_selects false r = refl

pub define_selects : (b : Bool) (r system x y z : ℕ)
    → then_some b r ≡ (if b then named_by else select_of) (Step (Define r system x y z))
define_selects true r system x y z = refl
define_selects false r system x y z = refl

pub none_selects : (b : Bool) (command : Command) → ((r : ℕ) → command ≡ Select r → ⊥)
    → ((r system x y z : ℕ) → command ≡ Define r system x y z → ⊥)
    → None ≡ (if b then named_by else select_of) (Step command)
none_selects b (Select r) no_select no_define = absurd (no_select r refl)
none_selects b (Define r s x y z) no_select no_define = absurd (no_define r s x y z refl)
none_selects true _ no_select no_define = refl
none_selects false _ no_select no_define = refl

last_of_either : (b : Bool) (before : List Event) (r : ℕ) → Known before r
    → latest (if b then named_by else select_of) before ≡ Some r
last_of_either true before r k = k.named
last_of_either false before r k = k.selected

-- a known register is the selected one
pub known_is_selected : KnownIsSelected
unfolding selected_on
known_is_selected t before r h below =
    rw (last_of_either t.choices.selects before r (known_is before r h)) (mod-eq_of_lt below)
