-- What the end of a run says of its bytes.
use Rattle.std.proofs.Common.{◌≡◌, ℕ, List, Option, Some, None, refl, subst}
use Rattle.std.specs.Prelude.{Result, Ok, Err, IfSome}
use Rattle.std.specs.Io.KnownBytes.{Keeps}
use Rattle.sixel_report.specs.declared.exit.Exit.TheVariants as exit
use Rattle.sixel_report.specs.declared.fault.RunFault.{RunFault}
use Rattle.sixel_report.specs.declared.task.Status.{Status}
use Rattle.sixel_report.specs.declared.task.Status.TheVariants as status
use Rattle.sixel_report.specs.declared.task.Task.{Task}
use Rattle.sixel_report.specs.Exits.{exit_for_answer}
use Rattle.sixel_program.specs.Files.{IsBrokenOver, IsDoneOver}
use Rattle.sixel_run.specs.Outputs.{Wrote}

pub done_gives : (t : Task) (told left : Option (List ℕ)) (a : Result Status RunFault) (had has : Option (List ℕ))
    → IfSome told (λ bytes. Wrote t bytes left a had has) → exit_for_answer a ≡ exit.Done
    → IsDoneOver t told
done_gives t None left a had has wrote is = tt
done_gives t (Some bytes) left (Ok status.Done) had has wrote is = (wrote.0, status.Done, refl, wrote.1)
done_gives t (Some bytes) left (Ok (status.Noted note)) had has wrote is = (wrote.0, status.Noted note, refl, wrote.1)
done_gives t (Some bytes) left (Ok (status.Broken finding)) had has wrote is =
    let no : exit.Broken ≡ exit.Done = is in cc
done_gives t (Some bytes) left (Ok (status.Asked finding)) had has wrote is =
    let no : exit.Broken ≡ exit.Done = is in cc
done_gives t (Some bytes) left (Ok (status.Surveyed first rules)) had has wrote is =
    let no : exit.Broken ≡ exit.Done = is in cc
done_gives t (Some bytes) left (Ok (status.Unfit wrapped)) had has wrote is =
    let no : exit.Broken ≡ exit.Done = is in cc
done_gives t (Some bytes) left (Ok status.Differing) had has wrote is = let no : exit.Broken ≡ exit.Done = is in cc
done_gives t (Some bytes) left (Err fault) had has wrote is = let no : exit.Refused ≡ exit.Done = is in cc

pub broken_gives : (t : Task) (told left : Option (List ℕ)) (a : Result Status RunFault) (had has : Option (List ℕ))
    → IfSome told (λ bytes. Wrote t bytes left a had has) → exit_for_answer a ≡ exit.Broken
    → IsBrokenOver t told
broken_gives t None left a had has wrote is = tt
broken_gives t (Some bytes) left (Ok status.Done) had has wrote is = λ all. let no : exit.Done ≡ exit.Broken = is in cc
broken_gives t (Some bytes) left (Ok (status.Noted note)) had has wrote is = λ all.
    let no : exit.Done ≡ exit.Broken = is in cc
broken_gives t (Some bytes) left (Ok (status.Broken finding)) had has wrote is = λ all.
    (wrote.0, status.Broken finding, refl, wrote.1)
broken_gives t (Some bytes) left (Ok (status.Asked finding)) had has wrote is = λ all.
    (wrote.0, status.Asked finding, refl, wrote.1)
broken_gives t (Some bytes) left (Ok (status.Surveyed first rules)) had has wrote is = λ all.
    (wrote.0, status.Surveyed first rules, refl, wrote.1)
broken_gives t (Some bytes) left (Ok (status.Unfit wrapped)) had has wrote is = λ all.
    (wrote.0, status.Unfit wrapped, refl, wrote.1)
broken_gives t (Some bytes) left (Ok status.Differing) had has wrote is = λ all.
    (wrote.0, status.Differing, refl, wrote.1)
broken_gives t (Some bytes) left (Err fault) had has wrote is = λ all. let no : exit.Refused ≡ exit.Broken = is in cc

-- what holds of a source's bytes holds of the bytes that it was made from
pub kept : (P : List ℕ → Type 0) (told has : Option (List ℕ)) → Keeps told has → IfSome has P → IfSome told P
kept P None has same h = tt
kept P (Some bytes) None same h = absurd same
kept P (Some bytes) (Some more) same h = subst P same h
