-- On texts that are put in turn.
use Rattle.std.proofs.Common.{List, [], ◌∷◌, ◌++◌, refl, sym}
use Rattle.sixel_io.specs.Devices.{SinkState, change}
use Rattle.sixel_report.specs.Exits.{IsPut}
use Rattle.sixel_messages.specs.Puts.{ArePut}
use Rattle.sixel_report.specs.Texts.{Text}

pub none_put : (e : SinkState) → ArePut [] (change e e)
unfolding ArePut
none_put e = refl

pub one_put : (text : Text) (a b : SinkState) → IsPut text (change a b) → ArePut (text ∷ []) (change a b)
unfolding ArePut
one_put text a b put = (b, put, refl)

pub two_put : (first second : Text) (a b c : SinkState) → IsPut first (change a b) → IsPut second (change b c)
    → ArePut (first ∷ second ∷ []) (change a c)
unfolding ArePut
two_put first second a b c one two = (b, one, (c, two, refl))

-- texts were put, and then others
pub put_then : (texts more : List Text) (a b c : SinkState) → ArePut texts (change a b) → ArePut more (change b c)
    → ArePut (texts ++ more) (change a c)
unfolding ArePut
put_then [] more a b c none are = rw (sym none) are
put_then (text ∷ texts) more a b c before are = (before.0, before.1, put_then texts more before.0 b c before.2 are)
