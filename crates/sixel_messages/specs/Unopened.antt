-- Why a file can't be opened.
use Rattle.std.specs.Prelude.{codes}
use Rattle.std.specs.declared.io.ErrorKind.{ErrorKind}
use Rattle.std.specs.declared.io.ErrorKind.TheVariants as kind
use Rattle.sixel_messages.specs.declared.unopened.Unopened.{Unopened}
use Rattle.sixel_messages.specs.declared.unopened.Unopened.TheVariants.{NotFound, PermissionDenied, IsFolder, NotText}
use Rattle.sixel_messages.specs.declared.unopened.Unopened.TheVariants.{NotFolder, Links, LongName, Failed}
use Rattle.sixel_report.specs.Texts.{Text}

-- the reason for an error of the system
abbrev pub reason_of : ErrorKind → Unopened
reason_of kind.NotFound = NotFound
reason_of kind.PermissionDenied = PermissionDenied
reason_of kind.IsADirectory = IsFolder
reason_of kind.NotADirectory = NotFolder
reason_of kind.FilesystemLoop = Links
reason_of kind.InvalidFilename = LongName
reason_of _ = Failed

-- how a reason is printed: for three with the words of the system, and then an end that `explain` knows
abbrev pub reason_text : Unopened → Text
reason_text NotFound = codes "no such file"
reason_text PermissionDenied = codes "permission denied"
reason_text IsFolder = codes "is a folder"
reason_text NotFolder = codes "not a directory: read failed"
reason_text Links = codes "too many levels of symbolic links: read failed"
reason_text LongName = codes "file name too long: read failed"
reason_text NotText = codes "name is not valid UTF-8"
reason_text Failed = codes "read failed"
