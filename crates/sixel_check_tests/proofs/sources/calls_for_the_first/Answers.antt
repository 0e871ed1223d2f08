use Rattle.sixel_check_tests.proofs.sources.calls_for_the_first.Goals as goal

pub next_string-requires : goal.next_string-requires
next_string-requires c = (_, _, _, _, c.new-scan.ensures _)
