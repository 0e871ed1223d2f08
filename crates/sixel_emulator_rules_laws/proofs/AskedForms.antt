-- What each named terminal asks for, as a test of one event.
use Rattle.std.proofs.Common.{◌≡◌, ◌||◌, Bool, true, false, List, refl}
use Rattle.std.specs.Prelude.{IsTrue}
use Rattle.sixel_grammar.specs.declared.command.Event.{Event}
use Rattle.sixel_model.specs.Positions.{HoldsNowhere}
use Rattle.sixel_named_terminals.specs.declared.named.Named.{Named}
use Rattle.sixel_named_terminals.specs.declared.named.Named.TheVariants.{XTerm, MlTerm, Foot, Konsole}
use Rattle.sixel_emulator_rules.specs.Asked.{breaks_dropped, breaks_far, breaks_hue, breaks_large, breaks_introducer}
use Rattle.sixel_emulator_rules.specs.Asked.{breaks_past, breaks_raster_late, breaks_rows}
use Rattle.sixel_emulator_rules.specs.Stale.{IsStale}
use Rattle.sixel_emulator_rules.specs.declared.rule.AskedRule.TheVariants.{RasterLate, Dropped, Stale, Large, Rows}
use Rattle.sixel_emulator_rules.specs.declared.rule.AskedRule.TheVariants.{Past, Hue}
use Rattle.sixel_emulator_rules.specs.declared.rule.AskedRule.TheVariants.{Far, Introducer, Bare, SpaceAfter}
use Rattle.sixel_emulator_rules_laws.specs.Laws.{BreaksNoneOf}

-- the event breaks a rule that the terminal asks for, besides those of portable pictures
abbrev pub BreaksFor : Named → List Event → Event → Type 0
BreaksFor XTerm before e = IsTrue (breaks_large e || (breaks_hue e || breaks_introducer e))
BreaksFor MlTerm before e = IsTrue (breaks_far before e || breaks_introducer e)
BreaksFor Foot before e = IsStale before e
BreaksFor Konsole before e =
    IsTrue ((breaks_raster_late before e || breaks_dropped before e) || (breaks_rows e || breaks_past before e))

-- no event does
abbrev pub BreaksNoneFor : Named → List Event → Type 0
BreaksNoneFor named events = HoldsNowhere (BreaksFor named) events

either : (a b : Bool) → (a ≡ true → ⊥) → (b ≡ true → ⊥) → (a || b) ≡ true → ⊥
either true b no_a no_b h = no_a h
either false b no_a no_b h = no_b h

pub none_for : (named : Named) (events : List Event) → BreaksNoneOf named events → BreaksNoneFor named events
none_for XTerm events none i at =
    either _ _ (λ large. none Large refl i (record { item = at.item; here = at.here; holds = large }))
    (either _ _ (λ hue. none Hue refl i (record { item = at.item; here = at.here; holds = hue }))
    (λ starts. none Introducer refl i (record { item = at.item; here = at.here; holds = starts }))) at.holds
none_for MlTerm events none i at =
    either _ _ (λ far. none Far refl i (record { item = at.item; here = at.here; holds = far }))
    (λ starts. none Introducer refl i (record { item = at.item; here = at.here; holds = starts })) at.holds
none_for Foot events none i at = none Stale refl i (record { item = at.item; here = at.here; holds = at.holds })
none_for Konsole events none i at =
    either _ _
    (either _ _ (λ late. none RasterLate refl i (record { item = at.item; here = at.here; holds = late }))
    (λ dropped. none Dropped refl i (record { item = at.item; here = at.here; holds = dropped })))
    (either _ _ (λ rows. none Rows refl i (record { item = at.item; here = at.here; holds = rows }))
    (λ past. none Past refl i (record { item = at.item; here = at.here; holds = past }))) at.holds

-- foot asks for one rule
pub stale_only : (events : List Event) → HoldsNowhere IsStale events → BreaksNoneOf Foot events
stale_only events none Stale asked = none
stale_only events none RasterLate asked = cc
stale_only events none Dropped asked = cc
stale_only events none Large asked = cc
stale_only events none Rows asked = cc
stale_only events none Past asked = cc
stale_only events none Hue asked = cc
stale_only events none Far asked = cc
stale_only events none Introducer asked = cc
stale_only events none Bare asked = cc
stale_only events none SpaceAfter asked = cc
