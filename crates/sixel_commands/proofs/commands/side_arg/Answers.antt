use Rattle.std.proofs.Common.{◌∙◌, ◌≡◌, ap, pos, Some, [], ◌∷◌}
use Rattle.sixel_terminal.specs.Limits.{most_screen_side}
use Rattle.clap.specs.Walk.{Rule, Text, rule_of}
use Rattle.clap.specs.declared.builder.value_parser.ValueParser.{ValueParser}
use Rattle.clap.specs.declared.builder.value_parser.ValueParser.TheVariants as vp
use Rattle.sixel_commands.proofs.commands.side_arg.Goals as goal

abbrev named : Rule → Rule
named r = record r { value_names = 1 }

abbrev parsed : Rule → Rule
parsed r = record r { parser = Some (vp.Signed (pos 1) (pos most_screen_side)) }

abbrev defaulted : Text → Rule → Rule
defaulted fallback r = record r { defaults = fallback ∷ [] }

abbrev long : Text → Rule → Rule
long name r = record r { long = Some name }

pub returns-clause-rule : goal.returns-clause-rule
returns-clause-rule c =
    let name = c.args.name.now in
    let fallback = c.args.fallback.now in
    let given = c.value_parser-2.ensures.given in
    let made : c.range.result ≡ vp.Signed (pos 1) (pos most_screen_side) =
    rw (c.new-2.ensures.start, c.new-2.ensures.end, c.value_parser.ensures) at c.range.ensures in
    let is : c.value_parser-2.result.value_parser ≡ Some (vp.Signed (pos 1) (pos most_screen_side)) =
    given.1 ∙ ap (λ (q : ValueParser). Some q) (given.2 ∙ made) in
    let helps : rule_of c.help.result ≡ rule_of c.default_value.result = rw c.help.ensures in
    let defaults : rule_of c.default_value.result ≡ defaulted fallback (rule_of c.value_parser-2.result) =
    rw c.default_value.ensures in
    let parses : rule_of c.value_parser-2.result ≡ parsed (rule_of c.value_name.result) =
    rw (c.value_parser-2.ensures.others, is) in
    let names : rule_of c.value_name.result ≡ named (rule_of c.long.result) = rw c.value_name.ensures in
    let longs : rule_of c.long.result ≡ long name (rule_of c.new.result) = rw c.long.ensures in
    helps ∙ defaults
    ∙ ap (defaulted fallback) (parses ∙ ap parsed (names ∙ ap named (longs ∙ ap (long name) c.new.ensures.rule)))

pub returns-clause-local : goal.returns-clause-local
returns-clause-local c =
    rw (c.help.ensures, c.default_value.ensures, c.value_parser-2.ensures.others, c.value_name.ensures, c.long.ensures)
    c.new.ensures.optional.1
