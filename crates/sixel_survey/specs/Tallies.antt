-- How often each rule has counted so far, and where first.
use Rattle.std.specs.Prelude.{◌≡◌, ◌==◌, ◌||◌, ◌+◌, ◌-◌, ◌<◌, ℕ, Bool, true, false, Option, Some, None, List, []}
use Rattle.std.specs.Prelude.{◌∷◌, ◌++◌, length, slice_get}
use Rattle.std.specs.Option.{option_flatten, option_map}
use Rattle.sixel_grammar.specs.declared.command.Placed.{Placed}
use Rattle.sixel_grammar.specs.Document.{events_of}
use Rattle.sixel_model.specs.Positions.{HoldsAtPosition, HoldsNowhere}
use Rattle.sixel_model.specs.declared.rule.Rule.{Rule}
use Rattle.sixel_model.specs.declared.rule.Rule.TheVariants.{RasterFirst, RepeatZero, Unselected, Undefined, Outside}
use Rattle.sixel_model.specs.declared.rule.Rule.TheVariants.{Uncovered}
use Rattle.sixel_model.specs.Rules.{number_of}
use Rattle.sixel_judge.specs.Verdicts.{IsPixel, capped}
use Rattle.sixel_survey.specs.declared.entry.Entry.{Entry}
use Rattle.sixel_judge.specs.Counting.{Counts}
use Rattle.sixel_judge.specs.declared.hits.Hit.{Hit}
use Rattle.sixel_survey.specs.Counting.{HoldsOften}

-- the first position at which the rule of the tally counts, and the number of positions, capped
pub record IsTallyAt (registers : ℕ) (placed : List Placed) (tally : Entry) (i : ℕ) : Type 0 where
  pub counts : HoldsAtPosition (Counts registers tally.rule) (events_of placed) i
  pub none_earlier : (j : ℕ) → j < i → ¬ HoldsAtPosition (Counts registers tally.rule) (events_of placed) j
  pub place : option_map (λ (p : Placed). p.place) (slice_get placed i) ≡ Some tally.place
  pub pixel : HoldsAtPosition (IsPixel tally.rule tally.pixel) (events_of placed) i
  pub often : ℕ
  pub holds_often : HoldsOften (Counts registers tally.rule) (events_of placed) often
  pub count_is : tally.count ≡ capped often

-- the tally of the rule, if the rule counts anywhere
abbrev pub IsTallyOf : ℕ → List Placed → Rule → Option Entry → Type 0
IsTallyOf registers placed rule None = HoldsNowhere (Counts registers rule) (events_of placed)
IsTallyOf registers placed rule (Some tally) = (tally.rule ≡ rule) × (i : ℕ) × IsTallyAt registers placed tally i

-- the tally after one more event
abbrev pub next_tally : Rule → ℕ → Option Hit → Option Entry → Option Entry
next_tally rule place None tally = tally
next_tally rule place (Some hit) None = Some (record { rule = rule; count = 1; place = place; pixel = hit.pixel })
next_tally rule place (Some hit) (Some tally) = Some (record tally { count = capped (tally.count + 1) })

-- the tally after some more events at which the rule counts, without a pixel; the first one has this offset, if there is
-- one
abbrev pub tally_with : Rule → Option ℕ → ℕ → Option Entry → Option Entry
tally_with rule None more tally = tally
tally_with rule (Some place) more None =
    Some (record { rule = rule; count = capped more; place = place; pixel = None })
tally_with rule (Some place) more (Some tally) = Some (record tally { count = capped (tally.count + more) })

-- the tally of the rule in a list of tallies, in order of number
abbrev pub tally_in : List (Option Entry) → Rule → Option Entry
tally_in tallies rule = option_flatten (slice_get tallies (number_of rule - 1))

-- the entry that a tally makes: for `Uncovered` it has the number of blank pixels
abbrev pub entry_from : ℕ → Rule → Entry → Entry
entry_from blank Uncovered tally = record tally { count = blank }
entry_from blank _ tally = tally

-- the entry of the rule, by the tallies and the number of blank pixels
abbrev pub entry_in : List (Option Entry) → ℕ → Rule → Option Entry
entry_in tallies blank rule = option_map (entry_from blank rule) (tally_in tallies rule)

-- ---- rule by rule

-- the rule is one of these
abbrev pub is_one_of : List Rule → Rule → Bool
is_one_of [] rule = false
is_one_of (r ∷ rs) rule = (number_of r == number_of rule) || is_one_of rs rule

-- the rules that a sixel or a repeat can break
abbrev pub of_columns : List Rule
of_columns = Outside ∷ Undefined ∷ Unselected ∷ RepeatZero ∷ RasterFirst ∷ []

-- the tallies of these rules are those after `more`, and the others are those before it
pub record AreTalliedFor (registers : ℕ) (seen more : List Placed) (done : List Rule) (tallies : List (Option Entry)) :
    Type 0 where
  pub rules : length tallies ≡ 13
  pub after : (rule : Rule) → is_one_of done rule ≡ true
      → IsTallyOf registers (seen ++ more) rule (tally_in tallies rule)
  pub before : (rule : Rule) → is_one_of done rule ≡ false → IsTallyOf registers seen rule (tally_in tallies rule)
