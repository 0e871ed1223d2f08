use Rattle.std.proofs.Common.{◌≡◌, ◌∙◌, Option, ap, ap₂, subst, sym, ℕ}
use Rattle.sixel_emulator.specs.declared.hearing.Hears.{Hears}
use Rattle.sixel_emulator.specs.declared.hearing.Hears.TheVariants.{Selects, SelectsAndRasters}
use Rattle.sixel_emulator.specs.declared.hearing.Omitted.{Omitted}
use Rattle.sixel_emulator.specs.declared.hearing.RasterHeard.{RasterHeard}
use Rattle.sixel_emulator.specs.declared.hearing.RasterHeard.TheVariants.{AsTheyAre}
use Rattle.sixel_emulator.specs.Heard.{as_ratio, omitted_in}
use Rattle.sixel_emulator.specs.Looking.{HasSeenFor}
use Rattle.sixel_emulator.proofs.HeardLemmas.{first_bare_is}
use Rattle.sixel_emulator.proofs.looking.Looking.omitted.Goals as goal

pub returns-in-Selects : goal.returns-in-Selects
returns-in-Selects c = λ hears bytes h.
    let is : hears ≡ Selects = sym h.0 ∙ c.in-Selects.is in
    let seen = subst (λ (k : Hears). HasSeenFor k c.args.self.now bytes) is h.1 in
    let omitted : Option ℕ → Omitted = λ o. record { bare = o; raster = AsTheyAre } in
    ap omitted (first_bare_is bytes c.first.result (c.first.ensures bytes seen))
    ∙ ap (λ (k : Hears). omitted_in k bytes) (sym is)

pub returns-in-SelectsAndRasters : goal.returns-in-SelectsAndRasters
returns-in-SelectsAndRasters c = λ hears bytes h.
    let is : hears ≡ SelectsAndRasters = sym h.0 ∙ c.in-SelectsAndRasters.is in
    let seen = subst (λ (k : Hears). HasSeenFor k c.args.self.now bytes) is h.1 in
    let bare = c.first-in-SelectsAndRasters in
    let omitted : Option ℕ → RasterHeard → Omitted = λ o r. record { bare = o; raster = r } in
    ap₂ omitted (first_bare_is bytes bare.result (bare.ensures bytes seen.0))
    (c.as_ratio.ensures ∙ ap as_ratio (c.written.ensures bytes seen.1))
    ∙ ap (λ (k : Hears). omitted_in k bytes) (sym is)
