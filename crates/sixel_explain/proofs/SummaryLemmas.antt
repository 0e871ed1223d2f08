-- The summary in an explanation.
use Rattle.std.proofs.Common.{◌≡◌, ◌∙◌, ◌++◌, ◌==◌, ◌≤◌, ap, arith, drop, length, refl, subst, sym, take-append-drop}
use Rattle.std.specs.Io.{StartsWith}
use Rattle.std.specs.List.{after_first, before_first}
use Rattle.sixel_emulator_rules.specs.declared.rule.AskedRule.TheVariants as asked
use Rattle.sixel_grammar.specs.declared.fault.Reason.TheVariants as reason
use Rattle.sixel_model.specs.declared.rule.Rule.TheVariants as rule
use Rattle.sixel_ppm.specs.declared.ppm.PpmReason.TheVariants as ppm
use Rattle.sixel_explain.specs.declared.explanations.Topic.{Topic}
use Rattle.sixel_explain.specs.declared.explanations.Topic.TheVariants as topic
use Rattle.sixel_explain.specs.Explanations.{first_line, summary}
use Rattle.sixel_report.specs.Texts.{Text}

-- what follows the first space of a text, up to the end of the line
abbrev pub cut : Text → Text
cut text = before_first (λ byte. byte == 10) (after_first (λ byte. byte == 32) text)

-- no name has a space; the last clause stands for each other topic
cut_line : (t : Topic) (rest : Text) → cut (first_line t ++ rest) ≡ summary t
cut_line (topic.Rule rule.RasterFirst) rest = refl
cut_line (topic.Asked asked.RasterLate) rest = refl
cut_line (topic.Grammar reason.NotSixel) rest = refl
cut_line (topic.Ppm ppm.Header) rest = refl
cut_line t rest = refl

pub cut_explanation : (t : Topic) (text : Text) → StartsWith text (first_line t) → cut text ≡ summary t
cut_explanation t text starts =
    let rest = drop (length (first_line t)) text in
    subst (λ (s : Text). cut s ≡ summary t)
    (ap (λ (s : Text). s ++ rest) (sym starts) ∙ take-append-drop (length (first_line t)) text) (cut_line t rest)

pub is_short : (t : Topic) → length (summary t) ≤ 69
is_short (topic.Rule rule.RasterFirst) = omega arith
is_short (topic.Asked asked.RasterLate) = omega arith
is_short (topic.Grammar reason.NotSixel) = omega arith
is_short (topic.Ppm ppm.Header) = omega arith
is_short t = omega arith
