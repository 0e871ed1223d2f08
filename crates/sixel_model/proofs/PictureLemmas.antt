-- The registers of a picture.
use Rattle.std.proofs.Common.{◌<◌, ◌≡◌, ◌≤◌, arith, Bool, true, ℕ, Option, None, List, [], ◌∷◌, All, IfSome, replicate}
use Rattle.std.specs.List.{list_all}
use Rattle.std.proofs.lemmas.Bool.{and_from, and_parts}
use Rattle.std.proofs.lemmas.List.{length-replicate}
use Rattle.std.proofs.lemmas.List.Elements.{All-replicate}
use Rattle.sixel_model.specs.Colours.{IsColour}
use Rattle.sixel_model.specs.Pictures.{IsAnyPalette}
use Rattle.sixel_model.specs.Profiles.{count_of}
use Rattle.sixel_model.specs.declared.colour.Parts.{Parts}
use Rattle.sixel_model.specs.declared.profile.Profile.{Profile}
use Rattle.sixel_model.specs.declared.profile.Profile.TheVariants.{Registers16, Registers256}

-- if p implies q, and all elements pass p, all pass q
pub all_weaker : (p q : ℕ → Bool) (xs : List ℕ) → ((x : ℕ) → p x ≡ true → q x ≡ true) → list_all p xs ≡ true
    → list_all q xs ≡ true
all_weaker p q [] follows all = all
all_weaker p q (x ∷ xs) follows all =
    let both = and_parts (p x) (list_all p xs) all in
    and_from (q x) (list_all q xs) (follows x both.0) (all_weaker p q xs follows both.1)

none_in_range : (n : ℕ) → All (λ (o : Option Parts). IfSome o IsColour) (replicate n None)
none_in_range n = All-replicate (λ (o : Option Parts). IfSome o IsColour) n None tt

-- a palette without colours is one
pub blank_palette : (profile : Profile) → IsAnyPalette (replicate (count_of profile) None)
blank_palette profile = record {
  profile = profile;
  entries = record {
    entries = length-replicate (count_of profile) None;
    in_range = none_in_range (count_of profile);
  };
}

-- each profile has a register
pub some_registers : (profile : Profile) → 0 < count_of profile
some_registers Registers16 = omega arith
some_registers Registers256 = omega arith

pub at_most_256 : (profile : Profile) → count_of profile ≤ 256
at_most_256 Registers16 = omega arith
at_most_256 Registers256 = omega arith
