use Rattle.std.proofs.Common.{◌≡◌, Some, subst}
use Rattle.std.specs.Prelude.{position}
use Rattle.sixel_model.specs.Colours.{is_entry}
use Rattle.sixel_ppm.specs.PpmColours.{Fills}
use Rattle.sixel_ppm.specs.PpmReading.{colour_of, distinct, register_among, with_colour}
use Rattle.sixel_ppm.specs.PpmSamples.{IsKnown}
use Rattle.sixel_model.specs.declared.colour.Parts.{Parts}
use Rattle.sixel_ppm.proofs.PpmPixelCacheLemmas.{still_cached}
use Rattle.sixel_ppm.proofs.PpmSampleLemmas.{seen_with}
use Rattle.sixel_ppm.proofs.ppm.samples.Samples.number.Goals as goal

pub returns-in-Some-clause-registered : goal.returns-in-Some-clause-registered
returns-in-Some-clause-registered c = λ colours holds.
    let seen = distinct colours in
    let colour = colour_of c.args.self.now.maxval c.args.red c.args.green c.args.blue in
    let numbered =
    subst (λ (x : Parts). (c.in-Some.register
    ≡ register_among (with_colour seen x) x) × Fills c.number_by.new.colours (with_colour seen x))
    c.colour_of-colour.ensures (c.in-Some.ensures.numbers seen holds.fills) in
    let known : IsKnown c.args.self.now.maxval (with_colour seen colour)
    (record { red = c.args.red; green = c.args.green; blue = c.args.blue; register = c.in-Some.register }) =
    record {
      red = c.requires.red;
      green = c.requires.green;
      blue = c.requires.blue;
      is_seen = seen_with seen colour;
      register = numbered.0;
    } in
    record { same_registers = c.in-Some.ensures.profile; fills = numbered.1; knows_last = known; known = known }

pub invariant_of-self-clause-unused : goal.invariant_of-self-clause-unused
invariant_of-self-clause-unused c = c.number_by.ensures.unused

pub invariant_of-self-clause-knows : goal.invariant_of-self-clause-knows
invariant_of-self-clause-knows c =
    let s = c.args.self.now in
    still_cached s.cache s.maxval s.colours.palette c.number_by.new.colours.palette
    c.number_by.ensures.kept s.knows

pub invariant_of-self-in-Some-clause-unused : goal.invariant_of-self-in-Some-clause-unused
invariant_of-self-in-Some-clause-unused c = c.number_by.ensures.unused

pub invariant_of-self-in-Some-clause-knows : goal.invariant_of-self-in-Some-clause-knows
invariant_of-self-in-Some-clause-knows c =
    let s = c.args.self.now in
    c.keep.ensures s.maxval c.number_by.new.colours.palette
    (still_cached s.cache s.maxval s.colours.palette c.number_by.new.colours.palette
    c.number_by.ensures.kept s.knows)
    record {
      good_red = c.requires.red;
      good_green = c.requires.green;
      good_blue = c.requires.blue;
      first = subst (λ (x : Parts). position (is_entry x) c.number_by.new.colours.palette ≡ Some c.in-Some.register)
          c.colour_of-colour.ensures c.in-Some.ensures.first;
    }
