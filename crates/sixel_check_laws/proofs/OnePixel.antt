-- A list that breaks no rule: one pixel.
use Rattle.std.proofs.Common.{◌≡◌, ◌⊎◌, inl, inr, Bool, true, false, refl}
use Rattle.sixel_model.specs.Rules.{Breaks, BreaksNone, BreaksOutside, BreaksUncovered, breaks_box_size}
use Rattle.sixel_model.specs.Rules.{breaks_eight_bit, breaks_colour_value, breaks_ratio, breaks_raster_first}
use Rattle.sixel_model.specs.Rules.{breaks_raster_twice, breaks_redefined, breaks_register, breaks_repeat_zero}
use Rattle.sixel_model.specs.Rules.{breaks_undefined, breaks_unselected, definition_of, is_covered, is_painted_in}
use Rattle.sixel_model.specs.Rules.{known, last_rule, raster_before}
use Rattle.sixel_model.specs.Geometry.{band, column, covers, falls, touches}
use Rattle.sixel_model.specs.Positions.{any_at, any_below, earliest, latest, passes_at, since}
use Rattle.sixel_judge.proofs.DecideLemmas.{decided_by, falls_searchable, blank_searchable, first_of, outside_first}
use Rattle.sixel_judge.proofs.DecideLemmas.{blank_first, outside_decided, blank_somewhere, both_decided}
use Rattle.sixel_judge.proofs.DecideLemmas.{uncovered_decided, rule_decided, held_decided, position_decided}
use Rattle.sixel_judge.proofs.DecideLemmas.{broken_decided, broken_or_none}
use Rattle.sixel_judge.proofs.SearchLemmas.{decide_true, least_here, least_more, least_below, in_row}
use Rattle.sixel_judge.proofs.SearchLemmas.{row_decided, first_point}
use Rattle.sixel_model.specs.Profiles.{count_of}
use Rattle.sixel_model.specs.declared.profile.Profile.{Profile}
use Rattle.sixel_model.specs.declared.profile.Profile.TheVariants.{Registers16, Registers256}
use Rattle.sixel_check_laws.specs.Examples.{OnePixelBreaksNone, one_pixel}

abbrev pub is_second : {A B : Type 0} → A ⊎ B → Bool
is_second (inl a) = false
is_second (inr b) = true

pub second_of : {A B : Type 0} (s : A ⊎ B) → is_second s ≡ true → B
second_of (inl a) h = cc
second_of (inr b) h = b

-- by computation, each rule is tested at each event
unbroken : (profile : Profile) → BreaksNone (count_of profile) last_rule one_pixel
unfolding decided_by falls_searchable blank_searchable first_of outside_first blank_first outside_decided
    blank_somewhere both_decided uncovered_decided rule_decided held_decided position_decided broken_decided
    broken_or_none decide_true least_here least_more least_below in_row row_decided
    first_point Breaks
    BreaksOutside BreaksUncovered breaks_box_size breaks_colour_value breaks_eight_bit breaks_ratio
    breaks_raster_first breaks_raster_twice breaks_redefined breaks_register breaks_repeat_zero breaks_undefined
    breaks_unselected definition_of is_covered is_painted_in known raster_before band column covers falls touches any_at
    any_below earliest latest passes_at since
unbroken Registers16 = second_of (broken_or_none 16 one_pixel) refl
unbroken Registers256 = second_of (broken_or_none 256 one_pixel) refl

pub one_pixel_breaks_none : (profile : Profile) → OnePixelBreaksNone (count_of profile)
one_pixel_breaks_none profile = (refl, unbroken profile)
