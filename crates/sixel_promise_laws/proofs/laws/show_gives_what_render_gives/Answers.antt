use Rattle.sixel_promise_laws.proofs.BoxLemmas.{show_box_gives_what_render_gives}
use Rattle.sixel_promise_laws.proofs.ShowLemmas.{show_gives_what_render_gives}
use Rattle.sixel_promise_laws.proofs.laws.show_gives_what_render_gives.Goals as goal

pub returns : goal.returns
returns c = record { named = show_gives_what_render_gives; class = show_box_gives_what_render_gives }
