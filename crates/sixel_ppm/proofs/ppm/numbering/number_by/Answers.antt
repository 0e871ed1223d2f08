use Rattle.std.proofs.Common.{ℕ, Some, ◌∙◌, ap, arith, refl, sym}
use Rattle.sixel_ppm.proofs.PpmColourLemmas.{numbered_before}
use Rattle.sixel_ppm.proofs.PpmPixelCacheLemmas.{still_cached}
use Rattle.sixel_ppm.proofs.ppm.numbering.number_by.Goals as goal

pub returns-in-Some-clause-numbers : goal.returns-in-Some-clause-numbers
returns-in-Some-clause-numbers c = λ seen fills.
    let colours = c.args.colours.now in
    numbered_before colours seen c.args.colour _ c.in-Some.register refl
    (sym (c.in-Some.ensures colours.palette c.requires.knows)) fills

pub returns-in-None-clause-kept : goal.returns-in-None-clause-kept
returns-in-None-clause-kept c = (c.register_of.ensures.kept c.requires.unused).1

pub returns-in-None-clause-knows : goal.returns-in-None-clause-knows
returns-in-None-clause-knows c =
    still_cached c.args.cache.now 100 c.args.colours.now.palette c.register_of.new.self.palette
    (c.register_of.ensures.kept c.requires.unused).1 c.requires.knows

pub returns-in-Some-register_of-clause-kept : goal.returns-in-Some-register_of-clause-kept
returns-in-Some-register_of-clause-kept c = (c.register_of.ensures.kept c.requires.unused).1

pub returns-in-Some-register_of-clause-knows : goal.returns-in-Some-register_of-clause-knows
returns-in-Some-register_of-clause-knows c =
    c.keep.ensures c.register_of.new.self.palette
    (still_cached c.args.cache.now 100 c.args.colours.now.palette c.register_of.new.self.palette
    (c.register_of.ensures.kept c.requires.unused).1 c.requires.knows)
    (c.in-Some-register_of.ensures.first ∙ ap (λ (r : ℕ). Some r) (omega arith))
