use Rattle.std.proofs.Common.{◌∙◌, Some, ap}
use Rattle.clap.specs.declared.parser.matches.ValueSource.{ValueSource}
use Rattle.clap.specs.Matches.{found_of}
use Rattle.sixel_words.specs.Words.{is_of_words}
use Rattle.sixel_words.proofs.MatchLemmas.{named_by}
use Rattle.sixel_words.proofs.options.is_named.Goals as goal

pub returns-in-Some-CommandLine : goal.returns-in-Some-CommandLine
returns-in-Some-CommandLine c =
    named_by (found_of c.args.matches.now) c.args.name.now c.value_source.result c.value_source.ensures
    ∙ ap is_of_words (c.in-Some-CommandLine.is ∙ ap (λ (s : ValueSource). Some s) c.in-Some-CommandLine.field-0-is)

pub returns-in-Some-DefaultValue : goal.returns-in-Some-DefaultValue
returns-in-Some-DefaultValue c =
    named_by (found_of c.args.matches.now) c.args.name.now c.value_source.result c.value_source.ensures
    ∙ ap is_of_words (c.in-Some-DefaultValue.is ∙ ap (λ (s : ValueSource). Some s) c.in-Some-DefaultValue.field-0-is)

pub returns-in-None : goal.returns-in-None
returns-in-None c =
    named_by (found_of c.args.matches.now) c.args.name.now c.value_source.result c.value_source.ensures
    ∙ ap is_of_words c.in-None.is
