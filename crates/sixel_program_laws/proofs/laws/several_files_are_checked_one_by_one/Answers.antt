use Rattle.std.proofs.Common.{◌∙◌}
use Rattle.std.proofs.lemmas.Grind.{flat_map-append}
use Rattle.std.proofs.lemmas.List.{append-nil}
use Rattle.sixel_program.specs.Files.{text_of_end}
use Rattle.sixel_program_laws.proofs.FeedLemmas.{item_is_line}
use Rattle.sixel_program.proofs.SeveralLemmas.{greatest_of, reached}
use Rattle.sixel_program_laws.proofs.SaidLemmas.{alone, failures_of, faulty, quiet, refused, said_whole, unended}
use Rattle.sixel_program_laws.proofs.laws.several_files_are_checked_one_by_one.Goals as goal

pub returns : goal.returns
returns c = record {
  joined = λ lines prefix rest. flat_map-append (text_of_end lines) prefix rest;
  named = λ e name is. rw is (append-nil _ ∙ append-nil _);
  unnamed = λ e is. rw is (append-nil _ ∙ append-nil _);
  failures = λ e. append-nil _ ∙ append-nil _ ∙ failures_of e.label e.items;
  lines = item_is_line;
  alone = alone;
  refused = refused;
  quiet = quiet;
  faulty = faulty;
  unended = unended;
  greatest = greatest_of;
  reached = reached;
  said = said_whole;
}
