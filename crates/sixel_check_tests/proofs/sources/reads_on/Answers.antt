use Rattle.sixel_check_tests.proofs.sources.reads_on.Goals as goal

pub next_string-requires : goal.next_string-requires
next_string-requires c = (_, _, _, _, c.new-scan.ensures _)
