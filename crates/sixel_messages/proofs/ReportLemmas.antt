-- What is written and said of an input that is refused, in JSON or not.
use Rattle.std.proofs.Common.{◌≡◌, true, false, [], Option, None, refl}
use Rattle.std.specs.Prelude.{Result, Ok, Err}
use Rattle.sixel_report.specs.declared.fault.RunFault.{RunFault}
use Rattle.sixel_report.specs.declared.fault.RunFault.TheVariants as run
use Rattle.sixel_report.specs.declared.task.Status.{Status}
use Rattle.sixel_report.specs.Texts.{Text}
use Rattle.sixel_report.specs.Lines.{is_json, is_quiet}
use Rattle.sixel_messages.specs.declared.unopened.Unopened.{Unopened}
use Rattle.sixel_messages.specs.declared.formats.Format.{Format}
use Rattle.sixel_report.specs.declared.wanted_lines.Lines.{Lines}
use Rattle.sixel_report.specs.declared.wanted_lines.Lines.TheVariants.{Json, Nothing, Plain}
use Rattle.sixel_messages.specs.Reports.{message_about, refusal_object, refusal_text, said_of_file}

-- an input that isn't refused has no refusal, nor a message
pub no_refusal : (lines : Lines) (label : Option Text) (status : Status)
    → refusal_text lines label None (Ok status) ≡ []
no_refusal (Nothing json) label status = refl
no_refusal (Plain only_failed) label status = refl
no_refusal (Json only_failed) label status = refl

pub no_message : (lines : Lines) (label : Option Text) (format : Option Format) (status : Status)
    → said_of_file lines label None format (Ok status) ≡ []
no_message (Nothing json) label format status = refl
no_message (Plain only_failed) label format status = refl
no_message (Json only_failed) label format status = refl

-- nor has a failed write a refusal
pub unwritten_refusal : (lines : Lines) (label : Option Text) → refusal_text lines label None (Err run.Write) ≡ []
unwritten_refusal (Nothing json) label = refl
unwritten_refusal (Plain only_failed) label = refl
unwritten_refusal (Json only_failed) label = refl

module _ (lines : Lines) (label : Option Text) (unopened : Option Unopened) (format : Option Format)
    (answer : Result Status RunFault) where
  -- in JSON a refusal is written, and nothing is said
  pub record InJson : Type 0 where
    pub refusal : refusal_text lines label unopened answer ≡ refusal_object label unopened answer
    pub message : said_of_file lines label unopened format answer ≡ []
    pub loud : is_quiet lines ≡ false

  -- and otherwise it is said
  pub record InLines : Type 0 where
    pub refusal : refusal_text lines label unopened answer ≡ []
    pub message : said_of_file lines label unopened format answer ≡ message_about label unopened format answer

pub in_json : (lines : Lines) (label : Option Text) (unopened : Option Unopened) (format : Option Format)
    (answer : Result Status RunFault) → is_json lines ≡ true → InJson lines label unopened format answer
in_json (Nothing json) label unopened format answer is = let no : false ≡ true = is in cc
in_json (Plain only_failed) label unopened format answer is = let no : false ≡ true = is in cc
in_json (Json only_failed) label unopened format answer is = record { refusal = refl; message = refl; loud = refl }

pub in_lines : (lines : Lines) (label : Option Text) (unopened : Option Unopened) (format : Option Format)
    (answer : Result Status RunFault) → is_json lines ≡ false → InLines lines label unopened format answer
in_lines (Nothing json) label unopened format answer is = record { refusal = refl; message = refl }
in_lines (Plain only_failed) label unopened format answer is = record { refusal = refl; message = refl }
in_lines (Json only_failed) label unopened format answer is = let no : true ≡ false = is in cc
