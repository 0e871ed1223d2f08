use Rattle.std.proofs.Common.{◌≡◌, ◌∙◌, arith, refl}
use Rattle.sixel_ppm.proofs.PpmEntryLemmas.{moved}
use Rattle.sixel_ppm.proofs.ppm.pixel_cache.PixelCache.move_entry.Goals as goal

pub returns-then-place_of-place : goal.returns-then-place_of-place
returns-then-place_of-place c = λ maxval palette knows.
    let first : c.args.place ≡ c.place_of.result = omega (arith, c.if-place_of-place.true) in
    moved c.args.self.now _ maxval palette c.args.place _ c.second_of.result refl (first ∙ c.place_of.ensures.value)
    (omega arith) c.second_of.ensures.within knows
