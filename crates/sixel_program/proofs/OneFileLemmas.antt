-- On a task over one file.
use Rattle.std.proofs.Common.{◌≡◌, ◌∙◌, Some, None, false, inl, inr, refl, sym, true}
use Rattle.sixel_io.specs.Devices.{Change, SinkState, SourceState, change}
use Rattle.sixel_report.specs.declared.exit.Exit.{Exit}
use Rattle.sixel_report.specs.declared.exit.Exit.TheVariants as exit
use Rattle.sixel_report.specs.declared.task.Task.{Task}
use Rattle.sixel_report.specs.Exits.{IsPut}
use Rattle.sixel_program.specs.Exits.{RunEnds}
use Rattle.sixel_program.specs.Files.{FileEnds, is_dash}
use Rattle.sixel_messages.specs.Names.{unopened_line}
use Rattle.sixel_program.specs.Openings.{CountsOf, FolderView, IsOpening, bytes_of}
use Rattle.sixel_messages.specs.declared.unopened.Unopened.{Unopened}
use Rattle.sixel_report.specs.declared.wanted_lines.Lines.{Lines}
use Rattle.sixel_report.specs.Texts.{Text}

module _ (t : Task) (q : Lines) {O : Type 0} (folder : FolderView O) (name : Text) (o e : Change SinkState) where
  pub dash_ends : (x : Exit) (i : Change SourceState) → is_dash name ≡ true → RunEnds t q (Some name) x i o e
      → FileEnds t q folder name x i o e
  dash_ends x i dash ended = record {
    file = i;
    told = rw dash refl;
    is_input = λ is. refl;
    stays = λ is. let no : true ≡ false = sym dash ∙ is in cc;
    ended = inl (
      ended,
      record {
        opening = λ is. let no : true ≡ false = sym dash ∙ is in cc;
        counted = λ is. let no : true ≡ false = sym dash ∙ is in cc;
      },
    );
  }

  pub file_ends : (x : Exit) (i : SourceState) (file : Change SourceState) → is_dash name ≡ false
      → file.old.remaining ≡ bytes_of folder.opening name → IsOpening (folder.opening name) name None
      → CountsOf folder name file → RunEnds t q (Some name) x file o e → FileEnds t q folder name x (change i i) o e
  file_ends x i file other told opens counts ended = record {
    file = file;
    told = rw other told;
    is_input = λ is. let no : true ≡ false = sym is ∙ other in cc;
    stays = λ is. refl;
    ended = inl (ended, record { opening = λ is. opens; counted = λ is. counts });
  }

pub unopened_ends : (t : Task) (q : Lines) {O : Type 0} (folder : FolderView O) (name : Text) (i : SourceState)
    (o : SinkState) (e : Change SinkState) (reason : Unopened) → is_dash name ≡ false
    → IsOpening (folder.opening name) name (Some reason) → IsPut (unopened_line name reason) e
    → FileEnds t q folder name exit.Refused (change i i) (change o o) e
unopened_ends t q folder name i o e reason file opens put =
    let unread : SourceState = record { remaining = bytes_of folder.opening name; failures = 0 } in
    record {
      file = change unread unread;
      told = rw file refl;
      is_input = λ is. let no : true ≡ false = sym is ∙ file in cc;
      stays = λ is. refl;
      ended = inr (record {
        reason = reason;
        file = file;
        opening = opens;
        ends = refl;
        silent = refl;
        said = put;
      });
    }
