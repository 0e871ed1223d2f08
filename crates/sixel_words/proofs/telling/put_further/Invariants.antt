use Rattle.std.proofs.Common.{◌≡◌, take}
use Rattle.std.specs.Io.KnownBytes.{Appends}
use Rattle.sixel_explain.specs.Explanations.{AreFurther}
use Rattle.sixel_report.specs.Texts.{Text}
use Rattle.sixel_words.proofs.telling.put_further.Given as goal

abbrev pub invariant-loop-topic : goal.invariant-loop-topic
invariant-loop-topic g l = record {
  put : (text : Text) × AreFurther (take l.topic-index l.topics) text
      × Appends (g.K.Sink.state l.fn.out).taken (g.K.Sink.state l.out).taken text;
  failures : (g.K.Sink.state l.out).failures ≡ (g.K.Sink.state l.fn.out).failures;
}
