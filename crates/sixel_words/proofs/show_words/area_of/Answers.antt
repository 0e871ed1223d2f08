use Rattle.std.proofs.Common.{◌∙◌, inl, inr, refl}
use Rattle.clap.specs.Walk.{rows_of}
use Rattle.clap.specs.Matches.{found_of}
use Rattle.sixel_words.proofs.MatchLemmas.{without_side}
use Rattle.sixel_words.proofs.show_words.area_of.Goals as goal

pub returns-in_default-clause-none : goal.returns-in_default-clause-none
returns-in_default-clause-none c = λ none area has.
    without_side (rows_of (found_of c.args.matches.now)) area (c.flag_of.ensures ∙ c.if-flag_of.false)
    (inr (c.in_default.ensures'.none refl)) has

pub returns-in_default-2-clause-none : goal.returns-in_default-2-clause-none
returns-in_default-2-clause-none c = λ none area has.
    without_side (rows_of (found_of c.args.matches.now)) area (c.flag_of.ensures ∙ c.if-flag_of.false)
    (inl (c.side_of.ensures.none (rw c.in_default.is-0 refl))) has
