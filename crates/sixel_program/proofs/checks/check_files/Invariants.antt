use Rattle.std.proofs.Common.{◌≡◌, List, Some, drop, false, length, map, take}
use Rattle.std.specs.List.{list_any}
use Rattle.std.specs.String.{string_bytes}
use Rattle.sixel_io.specs.Devices.{change}
use Rattle.sixel_program.specs.Files.{AreChecked, FileEnd, causes_among, failed_among, is_dash, wrapped_among}
use Rattle.sixel_program.specs.Openings.{folder_view}
use Rattle.sixel_program.specs.Peeked.{peeked_state}
use Rattle.sixel_program.proofs.checks.check_files.Given as goal

abbrev pub invariant-loop-name : goal.invariant-loop-name
invariant-loop-name g l = ((ends : List FileEnd) × AreChecked l.task l.lines
    (folder_view (g.F.Folder.opening l.folder) g.F.Opened.Source.state) ends
    (map Some (map string_bytes (take l.name-index l.names))) l.exit
    (change (peeked_state (drop l.fn.input.given l.fn.input.prefix.items) l.fn.input.after
    (g.S.Source.state l.fn.input.rest) l.fn.input.failures)
    (peeked_state (drop l.input.given l.input.prefix.items) l.input.after (g.S.Source.state l.input.rest)
    l.input.failures))
    (change (g.K.Sink.state l.fn.output) (g.K.Sink.state l.output))
    (change (g.E.Sink.state l.fn.errors) (g.E.Sink.state l.errors))
    × (l.causes.found.items ≡ causes_among ends) × (l.wrapped ≡ wrapped_among ends) × (l.failed ≡ failed_among ends)
    × (length ends ≡ l.name-index))
    × (list_any is_dash (map string_bytes (take l.name-index l.names)) ≡ false → l.input ≡ l.fn.input)
