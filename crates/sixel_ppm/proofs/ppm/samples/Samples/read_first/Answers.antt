use Rattle.std.proofs.Common.{[], ◌∷◌, arith}
use Rattle.std.specs.Prelude.{slice_index}
use Rattle.sixel_ppm.proofs.PpmSampleLemmas.{budget_whole, one_prefix, pixel_leads_on, three_prefix}
use Rattle.sixel_ppm.proofs.ppm.samples.Samples.read_first.Goals as goal

pub returns-in_ok-pixel-in-Nothing-len3-up-clause-read :
    goal.returns-in_ok-pixel-in-Nothing-len3-up-clause-read
returns-in_ok-pixel-in-Nothing-len3-up-clause-read c =
    let bytes = c.args.bytes.now in
    let samples = slice_index bytes 0 ∷ slice_index bytes 1 ∷ slice_index bytes 2 ∷ [] in
    record {
      prefix = samples;
      joined = three_prefix bytes c.in-Nothing-len3-up.len_at_least;
      fewer = omega (
        arith,
        c.in_ok-pixel-in-Nothing-len3-up.ensures.fewer,
        budget_whole c.args.self.now
            c.in-Nothing-len3-up.is-0,
        budget_whole c.pixel.new.self c.in_ok-pixel-in-Nothing-len3-up.ensures.partial,
      );
      leads = pixel_leads_on c.args.self.now c.pixel.new.self samples c.in-Nothing-len3-up.is-0
          c.in_ok-pixel-in-Nothing-len3-up.ensures.partial
          c.in_ok-pixel-in-Nothing-len3-up.ensures.read;
    }

pub returns-in_ok-sample-in_default-len1-up-clause-read :
    goal.returns-in_ok-sample-in_default-len1-up-clause-read
returns-in_ok-sample-in_default-len1-up-clause-read c =
    let bytes = c.args.bytes.now in
    record {
      prefix = slice_index bytes 0 ∷ [];
      joined = one_prefix bytes (omega (arith, c.requires));
      fewer = c.in_ok-sample-in_default-len1-up.ensures.fewer;
      leads = c.in_ok-sample-in_default-len1-up.ensures.read;
    }
