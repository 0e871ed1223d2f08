use Rattle.std.proofs.Common.{rules}
use Rattle.sixel_model.specs.Profiles.{count_of}
use Rattle.sixel_ppm.specs.PpmReading.{NoPpmFaultBefore, ppm_read}
use Rattle.sixel_sheet.specs.Outputs.{DifferGives, sheet_output}
use Rattle.sixel_run.specs.Outputs.{EncodeGives, MendGives, RenderGives, mending}
use Rattle.sixel_show.specs.Outputs.{ShowBoxGives, ShowGives, ShowOnGives}
use Rattle.sixel_show.specs.Screens.{screen_terminal, show_choices, show_terminal}
use Rattle.sixel_run.proofs.LineTaskLemmas.{lines_wrote, plain_wrote}
use Rattle.sixel_run.proofs.RunLemmas.{unread, unread_as, unread_by}
use Rattle.sixel_run.proofs.running.perform.Goals as goal

pub returns-in-Check-clause-wrote : goal.returns-in-Check-clause-wrote
returns-in-Check-clause-wrote g c =
    lines_wrote c.args.task _ _ _ _ _ (search rules) (plain_wrote _ _ _ _ c.write_lines.ensures)

pub returns-in-Encode-clause-wrote : goal.returns-in-Encode-clause-wrote
returns-in-Encode-clause-wrote g c =
    rw c.in-Encode.is
    (unread_by
    (NoPpmFaultBefore (ppm_read (count_of c.in-Encode.profile)) (g.S.Source.state c.encode.new.input).remaining)
    (λ bytes. EncodeGives (count_of c.in-Encode.profile) c.in-Encode.fitting bytes) (g.S.Source.state c.args.input.now).remaining
    (g.K.Sink.state c.args.output.now).taken (g.K.Sink.state c.encode.new.output).taken c.encode.result
    c.encode.ensures.wrote c.encode.ensures.unread)

pub returns-in-Render-clause-memory : goal.returns-in-Render-clause-memory
returns-in-Render-clause-memory g c = rw c.in-Render.is c.render.ensures.memory

pub returns-in-Encode-clause-memory : goal.returns-in-Encode-clause-memory
returns-in-Encode-clause-memory g c = rw c.in-Encode.is c.encode.ensures.memory

pub returns-in-Render-clause-wrote : goal.returns-in-Render-clause-wrote
returns-in-Render-clause-wrote g c =
    rw c.in-Render.is
    (unread_as c.in-Render.format (λ bytes. RenderGives (count_of c.in-Render.profile) bytes)
    (g.S.Source.state c.args.input.now).remaining (g.S.Source.state c.render.new.input).remaining
    (g.K.Sink.state c.args.output.now).taken (g.K.Sink.state c.render.new.output).taken c.render.result
    c.render.ensures.wrote c.render.ensures.unread)

pub returns-in-Mend-clause-wrote : goal.returns-in-Mend-clause-wrote
returns-in-Mend-clause-wrote g c =
    rw c.in-Mend.is
    (unread
    (λ bytes. MendGives (count_of c.in-Mend.profile)
    (mending c.in-Mend.background c.in-Mend.showing c.in-Mend.selects) c.in-Mend.fitting bytes)
    (g.S.Source.state c.args.input.now).remaining (g.S.Source.state c.mend.new.input).remaining
    (g.K.Sink.state c.args.output.now).taken (g.K.Sink.state c.mend.new.output).taken c.mend.result
    c.mend.ensures.wrote c.mend.ensures.unread)

pub returns-in-Show-clause-wrote : goal.returns-in-Show-clause-wrote
returns-in-Show-clause-wrote g c =
    rw c.in-Show.is
    (unread_as c.in-Show.format
    (λ bytes. ShowGives c.in-Show.profile (show_terminal c.in-Show.profile
    (show_choices c.in-Show.showing c.in-Show.fill c.in-Show.selects c.in-Show.width c.in-Show.height)) bytes)
    (g.S.Source.state c.args.input.now).remaining (g.S.Source.state c.show.new.input).remaining
    (g.K.Sink.state c.args.output.now).taken (g.K.Sink.state c.show.new.output).taken c.show.result
    (rw c.show_choices-choices.ensures at c.show.ensures.wrote) c.show.ensures.unread)

pub returns-in-ShowBox-clause-wrote : goal.returns-in-ShowBox-clause-wrote
returns-in-ShowBox-clause-wrote g c =
    rw c.in-ShowBox.is
    (unread_as c.in-ShowBox.format
    (λ bytes. ShowBoxGives c.in-ShowBox.profile
    (screen_terminal c.in-ShowBox.profile c.in-ShowBox.showing c.in-ShowBox.fill c.in-ShowBox.selects) bytes)
    (g.S.Source.state c.args.input.now).remaining (g.S.Source.state c.show_box.new.input).remaining
    (g.K.Sink.state c.args.output.now).taken (g.K.Sink.state c.show_box.new.output).taken c.show_box.result
    c.show_box.ensures.wrote c.show_box.ensures.unread)

pub returns-in-Mend-clause-memory : goal.returns-in-Mend-clause-memory
returns-in-Mend-clause-memory g c = rw c.in-Mend.is c.mend.ensures.memory

pub returns-in-Show-clause-memory : goal.returns-in-Show-clause-memory
returns-in-Show-clause-memory g c = rw c.in-Show.is c.show.ensures.memory

pub returns-in-ShowBox-clause-memory : goal.returns-in-ShowBox-clause-memory
returns-in-ShowBox-clause-memory g c = rw c.in-ShowBox.is c.show_box.ensures.memory

pub returns-in-DifferSheet-clause-wrote : goal.returns-in-DifferSheet-clause-wrote
returns-in-DifferSheet-clause-wrote g c =
    rw c.in-DifferSheet.is
    (unread (λ bytes. DifferGives sheet_output c.in-DifferSheet.background bytes)
    (g.S.Source.state c.args.input.now).remaining (g.S.Source.state c.differ_sheet.new.input).remaining
    (g.K.Sink.state c.args.output.now).taken (g.K.Sink.state c.differ_sheet.new.output).taken c.differ_sheet.result
    c.differ_sheet.ensures.wrote c.differ_sheet.ensures.unread)

pub returns-in-ShowOn-clause-wrote : goal.returns-in-ShowOn-clause-wrote
returns-in-ShowOn-clause-wrote g c =
    rw c.in-ShowOn.is
    (unread_as c.in-ShowOn.format (λ bytes. ShowOnGives c.in-ShowOn.named c.in-ShowOn.background c.in-ShowOn.area bytes)
    (g.S.Source.state c.args.input.now).remaining (g.S.Source.state c.show_on.new.input).remaining
    (g.K.Sink.state c.args.output.now).taken (g.K.Sink.state c.show_on.new.output).taken c.show_on.result
    c.show_on.ensures.wrote c.show_on.ensures.unread)
