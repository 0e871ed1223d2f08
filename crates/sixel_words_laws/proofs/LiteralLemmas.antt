-- Values of options, written out.
use Rattle.std.proofs.Common.{arith, codes, refl}
use Rattle.sixel_words.specs.Words.{IsPercentage, IsSideText}

-- ---- percentages

pub none : IsPercentage (codes "0") 0
none = record { numeral = (omega arith, (omega arith, tt)); short = omega arith; value = refl; most = omega arith }

pub half : IsPercentage (codes "50") 50
half = record {
  numeral = (omega arith, (omega arith, (omega arith, tt)));
  short = omega arith;
  value = refl;
  most = omega arith;
}

pub all : IsPercentage (codes "100") 100
all = record {
  numeral = (omega arith, (omega arith, (omega arith, (omega arith, tt))));
  short = omega arith;
  value = refl;
  most = omega arith;
}

-- ---- the sides of a screen, if none is given

pub wide : IsSideText (codes "800") 800
wide = record {
  numeral = (omega arith, (omega arith, (omega arith, (omega arith, tt))));
  value = refl;
  least = omega arith;
  most = omega arith;
}

pub high : IsSideText (codes "480") 480
high = record {
  numeral = (omega arith, (omega arith, (omega arith, (omega arith, tt))));
  value = refl;
  least = omega arith;
  most = omega arith;
}
