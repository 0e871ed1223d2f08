-- The faults of the crates below, as faults of a run.
use Rattle.sixel_grammar.specs.declared.fault.InputFault.{InputFault}
use Rattle.sixel_grammar.specs.declared.fault.InputFault.TheVariants as input
use Rattle.sixel_ppm.specs.declared.ppm.PpmFault.{PpmFault}
use Rattle.sixel_ppm.specs.declared.ppm.PpmFault.TheVariants as ppm
use Rattle.sixel_png.specs.declared.png.PngFault.{PngFault}
use Rattle.sixel_png.specs.declared.png.PngFault.TheVariants as png
use Rattle.sixel_mend.specs.declared.mending.MendFault.{MendFault}
use Rattle.sixel_mend.specs.declared.mending.MendFault.TheVariants as mend
use Rattle.sixel_differ.specs.declared.fault.DifferFault.{DifferFault}
use Rattle.sixel_differ.specs.declared.fault.DifferFault.TheVariants as differ
use Rattle.sixel_fit.specs.declared.making.FitFault.{FitFault}
use Rattle.sixel_fit.specs.declared.making.FitFault.TheVariants as fit
use Rattle.sixel_named_terminals.specs.declared.showing.ShowFault.{ShowFault}
use Rattle.sixel_named_terminals.specs.declared.showing.ShowFault.TheVariants as show
use Rattle.sixel_scan.specs.declared.fault.ScanFault.{ScanFault}
use Rattle.sixel_scan.specs.declared.fault.ScanFault.TheVariants as scan
use Rattle.sixel_report.specs.declared.fault.RunFault.{RunFault}
use Rattle.sixel_report.specs.declared.fault.RunFault.TheVariants.{Grammar, Hue, Large, Ppm, NotRgb, Empty, TooLarge}
use Rattle.sixel_report.specs.declared.fault.RunFault.TheVariants.{TooManyColours, OutOfMemory, Read, Unmodelled, Write}
use Rattle.sixel_grammar.specs.declared.halt.Halt.{Halt}
use Rattle.sixel_grammar.specs.declared.halt.Halt.TheVariants.{Refused, Stopped}

abbrev pub of_input : InputFault → RunFault
of_input (input.Grammar fault) = Grammar fault
of_input input.OutOfMemory = OutOfMemory
of_input input.Read = Read

abbrev pub of_ppm : PpmFault → RunFault
of_ppm (ppm.Format reason place) = Ppm reason place
of_ppm ppm.NotRgb = NotRgb
of_ppm ppm.OutOfMemory = OutOfMemory
of_ppm ppm.Read = Read
of_ppm ppm.Write = Write

abbrev pub of_png : PngFault → RunFault
of_png png.NotRgb = NotRgb
of_png png.Write = Write

abbrev pub of_mend : MendFault → RunFault
of_mend (mend.Grammar fault) = Grammar fault
of_mend mend.Empty = Empty
of_mend mend.TooLarge = TooLarge
of_mend mend.TooManyColours = TooManyColours
of_mend mend.OutOfMemory = OutOfMemory

abbrev pub of_fit : FitFault → RunFault
of_fit (fit.Large width height) = Large width height
of_fit fit.Hue = Hue
of_fit fit.TooHigh = TooLarge
of_fit fit.NoRegister = TooManyColours
of_fit fit.OutOfMemory = OutOfMemory

abbrev pub of_differ : DifferFault → RunFault
of_differ (differ.Grammar fault) = Grammar fault
of_differ differ.Empty = Empty
of_differ differ.TooLarge = TooLarge
of_differ differ.OutOfMemory = OutOfMemory

abbrev pub of_show : ShowFault → RunFault
of_show (show.Grammar fault) = Grammar fault
of_show (show.Unmodelled place) = Unmodelled place
of_show show.OutOfMemory = OutOfMemory

abbrev pub of_scan : ScanFault → RunFault
of_scan scan.OutOfMemory = OutOfMemory
of_scan scan.Read = Read

-- why a list ends early
abbrev pub fault_of_halt : {S : Type 0} → Halt S → RunFault
fault_of_halt (Refused fault) = Grammar fault
fault_of_halt (Stopped stop) = Write
