use Rattle.std.proofs.Common.{◌≡◌, ◌∙◌, ◌∷◌, ◌++◌, [], List, None, Option, Some, ap, append_assoc, codes, refl, sym}
use Rattle.std.proofs.lemmas.List.{map-append}
use Rattle.std.specs.Char.{to_ascii_lowercase}
use Rattle.sixel_grammar.specs.declared.fault.Fault.{Fault}
use Rattle.sixel_grammar.specs.declared.fault.Reason.TheVariants.{Truncated}
use Rattle.sixel_judge.specs.declared.verdict.Finding.{Finding}
use Rattle.sixel_report.specs.declared.fault.RunFault.{RunFault}
use Rattle.sixel_report.specs.declared.fault.RunFault.TheVariants as fault
use Rattle.sixel_emulator_rules.specs.Names.{name_of}
use Rattle.sixel_emulator_rules.specs.declared.asking.AskedFinding.{AskedFinding}
use Rattle.sixel_emulator_rules.specs.declared.tally.AskedEntry.{AskedEntry}
use Rattle.sixel_survey.specs.declared.entry.Entry.{Entry}
use Rattle.sixel_scan.specs.declared.answer.Scanned.{Scanned}
use Rattle.sixel_scan.specs.declared.answer.Answer.TheVariants.{Broken, Refused}
use Rattle.sixel_report.specs.Texts.{Text, asked_entry_line, asked_line, entry_line, finding_line, line, reason_name}
use Rattle.sixel_report.specs.Texts.{rule_name, string_line}
use Rattle.sixel_explain.specs.declared.explanations.Topic.TheVariants.{Grammar, Read}
use Rattle.sixel_explain.specs.Explanations.{line_of, names_in, topic_name, topic_of, topic_of_end}
use Rattle.sixel_explain_laws.specs.Laws.{ArePasted}
use Rattle.sixel_explain_laws.proofs.PastedLemmas.{EndsInColon, asked_pasted, ending_pasted, fault_pasted}
use Rattle.sixel_explain_laws.proofs.PastedLemmas.{finding_pasted, is_a_folder, low, no_such_file, not_utf8}
use Rattle.sixel_explain_laws.proofs.PastedLemmas.{permission_denied, read_failed, the_input_is_empty}
use Rattle.sixel_explain_laws.proofs.EntryLemmas.{asked_entry_pasted, asked_entry_pasted_after, entry_pasted}
use Rattle.sixel_explain_laws.proofs.EntryLemmas.{entry_pasted_after}
use Rattle.sixel_explain_laws.proofs.StringLineLemmas.{string_finding_pasted, string_refusal_pasted}
use Rattle.sixel_messages.specs.declared.unopened.Unopened.{Unopened}
use Rattle.sixel_messages.specs.declared.unopened.Unopened.TheVariants.{Failed, IsFolder, NotFound, NotText, Links}
use Rattle.sixel_messages.specs.declared.unopened.Unopened.TheVariants.{LongName, NotFolder, PermissionDenied}
use Rattle.sixel_messages.specs.Messages.{fault_said, labelled}
use Rattle.sixel_printing.specs.Printing.{printed}
use Rattle.sixel_messages.specs.Names.{unopened_line}
use Rattle.sixel_messages.specs.Unopened.{reason_text}
use Rattle.sixel_explain_laws.proofs.laws.each_line_can_be_explained.Goals as goal

-- what is before the line of a file
abbrev begun : Text → Text
begun name = codes "sixel: " ++ printed name ++ codes ":"

bare_colon : EndsInColon (codes "sixel:")
bare_colon = record { front = codes " sixel"; is = refl }

named_colon : (name : Text) → EndsInColon (begun name)
named_colon name = record {
  front = codes " sixel: " ++ low (printed name);
  is = ap (λ (t : Text). codes " sixel: " ++ t) (map-append to_ascii_lowercase (printed name) (codes ":"));
}

-- in small letters, too, it ends in the words for a failed read
after_words : (words x : Text) → topic_of_end (x ++ 32 ∷ low (words ++ codes " read failed")) ≡ Some Read
after_words words x =
    let split : low (words ++ codes " read failed") ≡ low words ++ codes " read failed" =
    map-append to_ascii_lowercase words (codes " read failed") in
    ap (λ (t : Text). topic_of_end (x ++ 32 ∷ t)) split
    ∙ ap topic_of_end (sym (append_assoc x (32 ∷ low words) (codes " read failed")))
    ∙ read_failed (x ++ 32 ∷ low words)

broken : (name : Option Text) (finding : Finding) (said : List Text)
    → ArePasted said (labelled name (finding_line finding))
    → names_in (line_of said) ≡ Some (rule_name finding.rule ∷ [])
broken None finding said are = finding_pasted [] finding said are
broken (Some name) finding said are = finding_pasted (printed name ++ codes ": ") finding said are

asked : (name : Option Text) (finding : AskedFinding) (said : List Text)
    → ArePasted said (labelled name (asked_line finding))
    → names_in (line_of said) ≡ Some (name_of finding.rule ∷ [])
asked None finding said are = asked_pasted [] finding said are
asked (Some name) finding said are = asked_pasted (printed name ++ codes ": ") finding said are

-- a name, a colon, a space and a line
after_colon : (name text : Text) → (printed name ++ codes ": ") ++ text ≡ (printed name ++ codes ":") ++ 32 ∷ text
after_colon name text =
    append_assoc (printed name) (codes ": ") text ∙ sym (append_assoc (printed name) (codes ":") (32 ∷ text))

surveyed : (name : Option Text) (entry : Entry) (said : List Text)
    → ArePasted said (labelled name (entry_line entry))
    → names_in (line_of said) ≡ Some (rule_name entry.rule ∷ [])
surveyed None entry said are = entry_pasted entry said are
surveyed (Some name) entry said are =
    entry_pasted_after (printed name ++ codes ":") entry said
    (are ∙ ap (λ (t : Text). 32 ∷ t) (after_colon name (entry_line entry)))

asked_surveyed : (name : Option Text) (entry : AskedEntry) (said : List Text)
    → ArePasted said (labelled name (asked_entry_line entry))
    → names_in (line_of said) ≡ Some (name_of entry.rule ∷ [])
asked_surveyed None entry said are = asked_entry_pasted entry said are
asked_surveyed (Some name) entry said are =
    asked_entry_pasted_after (printed name ++ codes ":") entry said
    (are ∙ ap (λ (t : Text). 32 ∷ t) (after_colon name (asked_entry_line entry)))

scanned : (name : Option Text) (string : Scanned) (finding : Finding) (said : List Text)
    → ArePasted said (labelled name (string_line (record string { answer = Broken finding })))
    → names_in (line_of said) ≡ Some (rule_name finding.rule ∷ [])
scanned None string finding said are = string_finding_pasted [] string finding said are
scanned (Some name) string finding said are =
    string_finding_pasted (printed name ++ codes ": ") string finding said are

scan_refused : (name : Option Text) (string : Scanned) (f : Fault) (said : List Text)
    → ArePasted said (labelled name (string_line (record string { answer = Refused f })))
    → names_in (line_of said) ≡ Some (reason_name f.reason ∷ [])
scan_refused None string f said are = string_refusal_pasted [] string f said are
scan_refused (Some name) string f said are = string_refusal_pasted (printed name ++ codes ": ") string f said are

refused : (name : Option Text) (f : RunFault) (said : List Text) → ArePasted said (fault_said name f)
    → names_in (line_of said) ≡ Some (topic_name (topic_of f) ∷ [])
refused None f said are = fault_pasted (codes "sixel:") f said bare_colon are
refused (Some name) fault.Write said are = fault_pasted (codes "sixel:") fault.Write said bare_colon are
refused (Some name) (fault.Grammar f) said are = fault_pasted (begun name) (fault.Grammar f) said (named_colon name) are
refused (Some name) (fault.Ppm reason place) said are = fault_pasted (begun name) (fault.Ppm reason place) said (named_colon name) are
refused (Some name) fault.NotRgb said are = fault_pasted (begun name) fault.NotRgb said (named_colon name) are
refused (Some name) fault.NoBox said are = fault_pasted (begun name) fault.NoBox said (named_colon name) are
refused (Some name) (fault.Unmodelled place) said are = fault_pasted (begun name) (fault.Unmodelled place) said (named_colon name) are
refused (Some name) fault.NoString said are = fault_pasted (begun name) fault.NoString said (named_colon name) are
refused (Some name) (fault.Large width height) said are =
    fault_pasted (begun name) (fault.Large width height) said (named_colon name) are
refused (Some name) fault.Hue said are = fault_pasted (begun name) fault.Hue said (named_colon name) are
refused (Some name) fault.Empty said are = fault_pasted (begun name) fault.Empty said (named_colon name) are
refused (Some name) fault.TooLarge said are = fault_pasted (begun name) fault.TooLarge said (named_colon name) are
refused (Some name) fault.TooManyColours said are = fault_pasted (begun name) fault.TooManyColours said (named_colon name) are
refused (Some name) fault.OutOfMemory said are = fault_pasted (begun name) fault.OutOfMemory said (named_colon name) are
refused (Some name) fault.Read said are = fault_pasted (begun name) fault.Read said (named_colon name) are

-- a line that ends in the words for a failed read, after the words of the system
failed_after : (name words : Text) (said : List Text)
    → ArePasted said (line (begun name) ((words ++ codes " read failed") ∷ []))
    → names_in (line_of said) ≡ Some (topic_name Read ∷ [])
failed_after name words said are =
    ending_pasted (begun name) (words ++ codes " read failed") Read said (after_words words) are

unopened : (name : Text) (reason : Unopened) (said : List Text) → ArePasted said (unopened_line name reason)
    → names_in (line_of said) ≡ Some (topic_name Read ∷ [])
unopened name NotFound said are = ending_pasted (begun name) (reason_text NotFound) Read said no_such_file are
unopened name PermissionDenied said are =
    ending_pasted (begun name) (reason_text PermissionDenied) Read said permission_denied are
unopened name IsFolder said are = ending_pasted (begun name) (reason_text IsFolder) Read said is_a_folder are
unopened name NotFolder said are = failed_after name (codes "not a directory:") said are
unopened name Links said are = failed_after name (codes "too many levels of symbolic links:") said are
unopened name LongName said are = failed_after name (codes "file name too long:") said are
unopened name NotText said are = ending_pasted (begun name) (reason_text NotText) Read said not_utf8 are
unopened name Failed said are = ending_pasted (begun name) (reason_text Failed) Read said read_failed are

pub returns : goal.returns
returns c = record {
  broken = broken;
  asked = asked;
  surveyed = surveyed;
  asked_surveyed = asked_surveyed;
  scanned = scanned;
  scan_refused = scan_refused;
  refused = refused;
  unopened = unopened;
  empty = λ said are.
      ending_pasted (codes "sixel:") (codes "the input is empty") (Grammar Truncated) said the_input_is_empty are;
}
