-- The formats of files, and the advice on them.
use Rattle.std.specs.Prelude.{◌≡◌, ◌⊎◌, ◌==◌, ◌&&◌, ◌||◌, ◌∷◌, ◌++◌, ℕ, Bool, false, List, [], Option, Some, None, IfSome, map}
use Rattle.std.specs.Prelude.{Result, Err, codes, is_none, nat_le, option_map, replicate, take, true, if◌then◌else◌}
use Rattle.std.specs.List.{find, list_any}
use Rattle.std.specs.Option.{option_map_or, option_or}
use Rattle.sixel_grammar.specs.declared.fault.Reason.{Reason}
use Rattle.sixel_grammar.specs.declared.fault.Reason.TheVariants.{NotSixel, Truncated}
use Rattle.sixel_ppm.specs.declared.ppm.PpmReason.TheVariants.{Header, Short}
use Rattle.sixel_report.specs.declared.fault.RunFault.{RunFault}
use Rattle.sixel_report.specs.declared.fault.RunFault.TheVariants.{Grammar, NoString, Ppm as PpmFault}
use Rattle.sixel_messages.specs.declared.formats.Format.{Format}
use Rattle.sixel_messages.specs.declared.formats.Format.TheVariants.{Png, Jpeg, Gif, WebP, Bmp, Tiff, Ppm, Netpbm}
use Rattle.sixel_messages.specs.declared.formats.Format.TheVariants.{Gzip, Pdf, PostScript, Xml, Marked, Careted}
use Rattle.sixel_messages.specs.declared.formats.Format.TheVariants.{Escaped, Sixel, Empty}
use Rattle.sixel_report.specs.declared.task.Status.{Status}
use Rattle.sixel_report.specs.Texts.{BeginsWith, Text}

-- ---- the magic numbers

-- the bytes begin with these, where there are any
abbrev pub begins_with : List (Option ℕ) → List ℕ → Bool
begins_with [] bytes = true
begins_with (wanted ∷ more) [] = false
begins_with (None ∷ more) (byte ∷ bytes) = begins_with more bytes
begins_with (Some wanted ∷ more) (byte ∷ bytes) = (byte == wanted) && begins_with more bytes

-- what the pictures of each format of pixels begin with; where there is None, with any byte
abbrev pub picture_numbers : List (List (Option ℕ) × Format)
picture_numbers =
    (map Some (137 ∷ codes "PNG"), Png)
    ∷ (map Some (255 ∷ 216 ∷ 255 ∷ []), Jpeg)
    ∷ (map Some (codes "GIF8"), Gif)
    -- four bytes of a length stand between
    ∷ (map Some (codes "RIFF") ++ replicate 4 None ++ map Some (codes "WEBP"), WebP)
    ∷ (map Some (codes "BM"), Bmp)
    ∷ (map Some (codes "II*" ++ 0 ∷ []), Tiff)
    ∷ (map Some (codes "MM" ++ 0 ∷ codes "*"), Tiff)
    ∷ (map Some (codes "P6"), Ppm)
    ∷ (map Some (codes "P1"), Netpbm)
    ∷ (map Some (codes "P2"), Netpbm)
    ∷ (map Some (codes "P3"), Netpbm)
    ∷ (map Some (codes "P4"), Netpbm)
    ∷ (map Some (codes "P5"), Netpbm)
    ∷ (map Some (codes "P7"), Netpbm)
    ∷ []

-- what the files of each other format begin with
abbrev pub other_numbers : List (List (Option ℕ) × Format)
other_numbers =
    (map Some (31 ∷ 139 ∷ []), Gzip)
    ∷ (map Some (codes "%PDF"), Pdf)
    ∷ (map Some (codes "%!"), PostScript)
    ∷ (map Some (codes "<?xml"), Xml)
    ∷ (map Some (codes "<svg"), Xml)
    -- U+FEFF in UTF-8
    ∷ (map Some (239 ∷ 187 ∷ 191 ∷ []), Marked)
    -- an ESC that is spelled out: as `cat -v` shows it, or as in the strings of programming languages
    ∷ (map Some (codes "^[P"), Careted)
    ∷ (map Some (codes "\\033P"), Escaped)
    ∷ (map Some (codes "\\x1bP"), Escaped)
    ∷ (map Some (codes "\\eP"), Escaped)
    -- an introducer: ESC P, or 90 in hexadecimal
    ∷ (map Some (27 ∷ codes "P"), Sixel)
    ∷ (map Some (144 ∷ []), Sixel)
    ∷ []

-- the format that one of these tells
abbrev pub format_among : List (List (Option ℕ) × Format) → List ℕ → Option Format
format_among numbers prefix =
    option_map (λ magic. magic.1) (find (λ magic. begins_with magic.0 prefix) numbers)

abbrev pub format_of : List ℕ → Option Format
format_of prefix = option_or (format_among picture_numbers prefix) (format_among other_numbers prefix)

-- whether a magic number of these begins with the byte
abbrev pub begins_one_of : List (List (Option ℕ) × Format) → ℕ → Bool
begins_one_of numbers byte = list_any (λ magic. begins_with (take 1 magic.0) (byte ∷ [])) numbers

-- whether the first byte is that of a magic number, or isn't there yet
abbrev pub may_begin : List ℕ → Bool
may_begin [] = true
may_begin (byte ∷ more) = begins_one_of picture_numbers byte || begins_one_of other_numbers byte

-- whether more bytes may tell the format of a file that begins with these
unfoldable pub is_undecided : List ℕ → Bool
is_undecided prefix = may_begin prefix && is_none (format_of prefix)

-- the format of an input, if its bytes are known: that of some prefix of them, or Empty if there are none
abbrev pub IsFormat : Option (List ℕ) → Option Format → Type 0
IsFormat told format = IfSome told (λ bytes.
    ((prefix : List ℕ) × BeginsWith bytes prefix × (format ≡ format_of prefix))
    ⊎ ((bytes ≡ []) × (format ≡ Some Empty)))

-- ---- the advice

-- the advice on a format that is the same for all tasks
abbrev pub plain_advice : Format → Text
plain_advice Gzip = codes "sixel: this is a gzip file; `gzip -dc` unpacks it" ++ 10 ∷ []
plain_advice Marked = codes "sixel: this begins with a byte order mark; `tail -c +4` leaves it out" ++ 10 ∷ []
plain_advice Careted =
    codes "sixel: this is sixel text with ^[ in place of ESC; `sed 's/\\^\\[/\\x1b/g'` makes ESC of it" ++ 10 ∷ []
plain_advice Escaped =
    codes "sixel: this is sixel text with ESC spelled out; `bash -c 'printf %b \"$(cat)\"'` makes ESC of it" ++ 10 ∷ []
plain_advice _ = []

-- the programs that make a PPM of what they read, and what they make
abbrev pub makes_ppm : Text → Text
makes_ppm programs = codes "`" ++ programs ++ codes "pnmquant 16` makes a PPM (P6) of it" ++ 10 ∷ []

-- how to make a PPM of a file of this format
abbrev pub ppm_advice : Format → Text
ppm_advice Png = codes "sixel: this is a PNG; " ++ makes_ppm (codes "pngtopnm -mix | pnmdepth 255 | ppmtoppm | ")
ppm_advice Jpeg = codes "sixel: this is a JPEG; " ++ makes_ppm (codes "jpegtopnm | ppmtoppm | ")
ppm_advice Gif = codes "sixel: this is a GIF; " ++ makes_ppm (codes "giftopnm | ppmtoppm | ")
ppm_advice WebP = codes "sixel: this is a WebP; " ++ makes_ppm (codes "dwebp -ppm - -o - | ")
ppm_advice Bmp = codes "sixel: this is a BMP; " ++ makes_ppm (codes "bmptopnm | ppmtoppm | ")
ppm_advice Tiff = codes "sixel: this is a TIFF; " ++ makes_ppm (codes "tifftopnm | ppmtoppm | ")
ppm_advice Ppm = []
ppm_advice Netpbm = codes "sixel: this is a Netpbm file; " ++ makes_ppm (codes "ppmtoppm | ")
ppm_advice Pdf = codes "sixel: this is a PDF; " ++ makes_ppm (codes "pdftoppm -singlefile | ")
ppm_advice PostScript = codes "sixel: this is PostScript; " ++ makes_ppm (codes "gs -q -sDEVICE=ppmraw -o - - | ")
ppm_advice Xml =
    codes "sixel: this is XML; of an SVG, " ++ makes_ppm (codes "rsvg-convert | pngtopnm -mix | ppmtoppm | ")
ppm_advice Sixel = codes "sixel: this is sixel text; `sixel check` reads it" ++ 10 ∷ []
ppm_advice format = plain_advice format

-- the programs that make sixel text of what they read, and what they make
abbrev pub makes_sixel : Text → Text
makes_sixel programs = codes "`" ++ programs ++ codes "pnmquant 16 | sixel encode` makes sixel text of it" ++ 10 ∷ []

-- how to make sixel text of a file of this format
abbrev pub sixel_advice : Format → Text
sixel_advice Png = codes "sixel: this is a PNG; " ++ makes_sixel (codes "pngtopnm -mix | pnmdepth 255 | ppmtoppm | ")
sixel_advice Jpeg = codes "sixel: this is a JPEG; " ++ makes_sixel (codes "jpegtopnm | ppmtoppm | ")
sixel_advice Gif = codes "sixel: this is a GIF; " ++ makes_sixel (codes "giftopnm | ppmtoppm | ")
sixel_advice WebP = codes "sixel: this is a WebP; " ++ makes_sixel (codes "dwebp -ppm - -o - | ")
sixel_advice Bmp = codes "sixel: this is a BMP; " ++ makes_sixel (codes "bmptopnm | ppmtoppm | ")
sixel_advice Tiff = codes "sixel: this is a TIFF; " ++ makes_sixel (codes "tifftopnm | ppmtoppm | ")
sixel_advice Ppm = codes "sixel: this is a PPM; " ++ makes_sixel []
sixel_advice Netpbm = codes "sixel: this is a Netpbm file; " ++ makes_sixel (codes "ppmtoppm | ")
sixel_advice Pdf = codes "sixel: this is a PDF; " ++ makes_sixel (codes "pdftoppm -singlefile | ")
sixel_advice PostScript = codes "sixel: this is PostScript; " ++ makes_sixel (codes "gs -q -sDEVICE=ppmraw -o - - | ")
sixel_advice Xml =
    codes "sixel: this is XML; of an SVG, " ++ makes_sixel (codes "rsvg-convert | pngtopnm -mix | ppmtoppm | ")
sixel_advice Sixel = []
sixel_advice format = plain_advice format

-- the line on an input without bytes
abbrev pub empty_line : Text
empty_line = codes "sixel: the input is empty" ++ 10 ∷ []

-- whether the fault is that the input ends too early
abbrev pub is_early_end : Reason → Bool
is_early_end Truncated = true
is_early_end _ = false

-- whether the input has no bytes: it ends too early at offset 0
abbrev pub is_of_empty : RunFault → Bool
is_of_empty (Grammar fault) = is_early_end fault.reason && (fault.place == 0)
is_of_empty (PpmFault Short place) = place == 0
is_of_empty _ = false

-- the text, if this is the reason and the offset of a fault which says that the first or the second byte isn't that of
-- sixel text
abbrev pub if_not_sixel : Reason → ℕ → Text → Text
if_not_sixel NotSixel place text = if nat_le place 1 then text else []
if_not_sixel _ place text = []

-- whether an input of this format has no bytes
abbrev pub is_empty_format : Format → Bool
is_empty_format Empty = true
is_empty_format _ = false

-- the advice on an input of this format that is refused at its first or its second byte: by `encode`, as no header of a
-- PPM, or by any other task, as no sixel text; and on a stream without a string, that it is empty if it is
abbrev pub format_advice : Option Format → RunFault → Text
format_advice format (Grammar fault) =
    if_not_sixel fault.reason fault.place (option_map_or sixel_advice format [])
format_advice format (PpmFault Header place) = if nat_le place 1 then option_map_or ppm_advice format [] else []
format_advice format NoString = if option_map_or is_empty_format format false then empty_line else []
format_advice format _ = []

-- the line after that of the fault: that the input is empty, or the advice on its format
abbrev pub advice_on : Option Format → RunFault → Text
advice_on format fault = if is_of_empty fault then empty_line else format_advice format fault

abbrev pub advice_for : Option Format → Result Status RunFault → Text
advice_for format (Err fault) = advice_on format fault
advice_for format _ = []
