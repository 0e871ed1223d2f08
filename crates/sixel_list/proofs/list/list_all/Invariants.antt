use Rattle.std.proofs.Common.{◌≡◌, ℕ, List, []}
use Rattle.std.specs.Io.KnownBytes.{Consumes}
use Rattle.sixel_grammar.specs.Following.{AreFollowed}
use Rattle.sixel_grammar.specs.Standing.{left_of}
use Rattle.sixel_list.specs.Listings.{HasListed}
use Rattle.sixel_list.proofs.list.list_all.Given as goal

abbrev pub invariant-loop-count : goal.invariant-loop-count
invariant-loop-count g l = record {
  followed : (bytes : List ℕ) × AreFollowed (HasListed g.K.Sink.state l.fn.listing) l.reader l.listing bytes
      × Consumes (g.S.Source.state l.fn.input).remaining (g.S.Source.state l.input).remaining bytes;
  drained : l.listing.lines.now ≡ [];
  reads : (g.S.Source.state l.input).failures ≡ (g.S.Source.state l.fn.input).failures;
}

abbrev pub decreases-loop-count : goal.decreases-loop-count
decreases-loop-count g l = left_of l.reader
