-- Reading a picture file in the pieces that a source gives. Only contracts of private functions cite these.
use Rattle.std.specs.Prelude.{◌≡◌, ◌≤◌, ℕ, ◌+◌, List, ◌++◌, Option, length, drop, take, Result, Ok, Err}
use Rattle.std.specs.Io.KnownBytes.{Consumes}
use Rattle.sixel_model.specs.Pictures.{PictureValue}
use Rattle.sixel_ppm.specs.PpmHeader.{header_on}
use Rattle.sixel_ppm.specs.PpmReading.{Head, at_fault, head_of}
use Rattle.sixel_ppm.specs.PpmSamples.{LeadsOn}
use Rattle.sixel_ppm.specs.declared.ppm.PpmFault.{PpmFault}
use Rattle.sixel_ppm.specs.declared.ppm.PpmFault.TheVariants.{Format, Read}
use Rattle.sixel_ppm.specs.declared.ppm.header.Header.{Header}
use Rattle.sixel_ppm.specs.declared.ppm.header.Progress.{Progress}
use Rattle.sixel_ppm.specs.declared.ppm.read.Fed.{Fed}
use Rattle.sixel_ppm.specs.declared.ppm.read.Fed.TheVariants.{More, Whole, Refused}
use Rattle.sixel_ppm.specs.declared.ppm.read.Started.{Started}
use Rattle.sixel_ppm.specs.declared.ppm.samples.Samples.{Samples}

-- what the header says, and the samples after it
abbrev pub head_with : Header → List ℕ → Head
head_with f samples =
    record { width = f.width; height = f.height; maxval = f.maxval; place = f.place; samples = samples }

-- the header isn't complete after the piece
pub record MovesOn (old new : Progress) (piece : List ℕ) : Type 0 where
  pub reads : (rest : List ℕ) → header_on old (piece ++ rest) ≡ header_on new rest
  pub place : new.place ≡ old.place + length piece
  pub within : old.place ≤ 65536 → new.place ≤ 65536

-- the header is complete within the piece
pub record Completes (old : Progress) (piece : List ℕ) (header : Header) (start : ℕ) : Type 0 where
  pub reads : (rest : List ℕ) → header_on old (piece ++ rest) ≡ Ok (head_with header (drop start piece ++ rest))
  pub inside : start ≤ length piece

-- a fault of reading the header is that of the bytes; `Read` says nothing about them
abbrev pub ReadsHeader : PpmFault → List ℕ → Type 0
ReadsHeader (Format reason place) bytes = head_of bytes ≡ at_fault reason place
ReadsHeader Read bytes = Unit {0}
ReadsHeader fault bytes = ⊥

abbrev pub RefusesHeader : PpmFault → Result Head PpmFault → Type 0
RefusesHeader (Format reason place) result = result ≡ at_fault reason place
RefusesHeader fault result = ⊥

abbrev pub FeedsHeader : Progress → List ℕ → Fed → Type 0
FeedsHeader old piece (More new) = MovesOn old new piece
FeedsHeader old piece (Whole header start) = Completes old piece header start
FeedsHeader old piece (Refused fault) = (rest : List ℕ) → RefusesHeader fault (header_on old (piece ++ rest))

-- the bytes up to the end of the header were read, and the samples in the same piece
pub record HasStarted (old new : Option (List ℕ)) (piece : List ℕ) (s : Started) : Type 0 where
  pub prefix : List ℕ
  pub consumed : Consumes old new prefix
  pub whole : (rest : List ℕ) → head_of (prefix ++ rest)
      ≡ Ok (head_with s.header (drop s.start (take s.end piece) ++ rest))
  pub ordered : s.start ≤ s.end
  pub inside : s.end ≤ length piece

-- what a call may return, if `result` is what the bytes say
abbrev pub ReadsRest : Result PictureValue PpmFault → Result PictureValue PpmFault → Type 0
ReadsRest (Ok picture) result = result ≡ Ok picture
ReadsRest (Err (Format reason place)) result = result ≡ at_fault reason place
ReadsRest (Err Read) result = Unit {0}
ReadsRest (Err fault) result = ⊥

-- the bytes so far were read, and the header isn't complete
pub record IsInHeader (old new : Option (List ℕ)) (progress : Progress) : Type 0 where
  pub prefix : List ℕ
  pub consumed : Consumes old new prefix
  pub reads : (rest : List ℕ) → head_of (prefix ++ rest) ≡ header_on progress rest
  pub within : progress.place ≤ 65536

-- the bytes so far were read, and the samples may go on
pub record IsInSamples (old new : Option (List ℕ)) (begun now : Samples) : Type 0 where
  pub prefix : List ℕ
  pub consumed : Consumes old new prefix
  pub leads : LeadsOn begun now prefix
