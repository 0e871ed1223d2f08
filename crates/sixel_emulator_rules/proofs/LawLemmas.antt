-- Documents that break no rule of portable pictures.
use Rattle.std.proofs.Common.{◌≡◌, ◌≤◌, ℕ, true, false, Option, Some, None, length, take, subst, sym, arith}
use Rattle.std.specs.Prelude.{IsTrue, nat_le}
use Rattle.std.specs.Option.{option_map_or}
use Rattle.std.proofs.lemmas.Bool.{le-leb, leb-true}
use Rattle.std.proofs.Math.Seq.{take-length}
use Rattle.sixel_grammar.specs.Document.{events_of}
use Rattle.sixel_grammar.specs.declared.command.Event.{Event}
use Rattle.sixel_model.specs.Events.{named_by}
use Rattle.sixel_model.specs.Rules.{Breaks, BreaksNone, breaks_register}
use Rattle.sixel_model.specs.declared.rule.Rule.TheVariants.{Register}
use Rattle.sixel_emulator_rules.specs.Asked.{BreaksNoneAsked}
use Rattle.sixel_emulator_rules.specs.Asking.{NamesWithin}
use Rattle.sixel_emulator_rules.specs.Laws.{FirstIsExact, NoneIsEarlier, NoneIsExact, UnbrokenNamesWithin}

more : (registers : ℕ) (o : Option ℕ) → registers ≤ 256 → option_map_or (λ r. nat_le 256 r) o false ≡ true
    → option_map_or (λ r. nat_le registers r) o false ≡ true
more registers None le h = h
more registers (Some r) le h =
    let high : 256 ≤ r = leb-true 256 r h in
    le-leb registers r (omega (arith, le, high))

register_broken : (registers : ℕ) (e : Event) → registers ≤ 256 → IsTrue (breaks_register 256 e)
    → IsTrue (breaks_register registers e)
unfolding breaks_register
register_broken registers e le h = more registers (named_by e) le h

pub names_within : UnbrokenNamesWithin
unfolding BreaksNone Breaks
names_within registers events le none i h =
    none Register (omega arith) i
    (record { item = h.item; here = h.here; holds = register_broken registers h.item le h.holds })

pub none_is_exact : NoneIsExact
none_is_exact registers t placed le none answer =
    let all = take-length (events_of placed) in
    subst (BreaksNoneAsked t) all
    (answer (length (events_of placed))
    (subst NamesWithin (sym all) (names_within registers (events_of placed) le none)))

pub first_is_exact : FirstIsExact
first_is_exact registers t placed f i le none found =
    found.first (names_within registers (take i (events_of placed)) le none)

pub none_is_earlier : NoneIsEarlier
none_is_earlier registers t placed f i k le before none found =
    found.earlier k before (names_within registers (take k (events_of placed)) le none)
