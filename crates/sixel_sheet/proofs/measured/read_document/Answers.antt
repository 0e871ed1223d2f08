use Rattle.std.proofs.Common.{◌≡◌, List, Some}
use Rattle.std.specs.Prelude.{IfSome}
use Rattle.sixel_grammar.specs.declared.command.Placed.{Placed}
use Rattle.sixel_grammar.specs.Document.{events_of}
use Rattle.sixel_grammar.proofs.FollowSourceLemmas.{told_known}
use Rattle.sixel_keeping.specs.declared.keeping.Keeping.{Keeping}
use Rattle.sixel_keeping.proofs.KeepingLemmas.{keeps_none, kept_so}
use Rattle.sixel_mend.specs.declared.extent.Extent.{Extent}
use Rattle.sixel_mend.specs.Measures.{Measures}
use Rattle.sixel_mend.specs.Measuring.{HasMeasured}
use Rattle.sixel_sheet.proofs.measured.read_document.Goals as goal

abbrev takes : Extent → Extent → List Placed → Type 0
takes first extent seen = Measures extent (events_of seen)

pub read_source-requires : goal.read_source-requires
read_source-requires g c =
    let kept : Keeping = record { kept = Some c.new.result } in
    (c.new-extent.result, kept, keeps_none takes c.new-extent.result kept c.new-extent.ensures c.new.ensures.items)

pub returns-clause-read : goal.returns-clause-read
returns-clause-read g c =
    let kept : Keeping = record { kept = Some c.new.result } in
    let r = c.in_ok-read_source.ensures.read c.new-extent.result kept
    (keeps_none takes c.new-extent.result kept c.new-extent.ensures c.new.ensures.items) in
    kept_so (λ k. k.items) c.read_source.new.pieces.kept r.bytes
    (λ bytes. IfSome (g.S.Source.state c.args.input.now).remaining (λ told. told ≡ bytes)) r.read.1 r.known_are

pub returns-clause-measured : goal.returns-clause-measured
returns-clause-measured g c =
    let kept : Keeping = record { kept = Some c.new.result } in
    let r = c.in_ok-read_source.ensures.read c.new-extent.result kept
    (keeps_none takes c.new-extent.result kept c.new-extent.ensures c.new.ensures.items) in
    kept_so (λ k. k.items) c.read_source.new.pieces.kept r.bytes (HasMeasured c.read_source.new.follower) r.read.1
    (r.read.0.events, r.document r.read.0.events r.read.0.read, r.read.0.taken)

pub returns-clause-told : goal.returns-clause-told
returns-clause-told g c =
    let kept : Keeping = record { kept = Some c.new.result } in
    let r = c.in_ok-read_source.ensures.read c.new-extent.result kept
    (keeps_none takes c.new-extent.result kept c.new-extent.ensures c.new.ensures.items) in
    told_known (g.S.Source.state c.args.input.now).remaining r.bytes (HasMeasured c.read_source.new.follower)
    r.known_are (r.read.0.events, r.document r.read.0.events r.read.0.read, r.read.0.taken)
