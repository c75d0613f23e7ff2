-- What is asked of a lent table before anything is done with it.
use Rattle.std.specs.Prelude.{List}
use Rattle.chip.specs.declared.Device.{Device}
use Rattle.wire.specs.Wire.{any_busy}
use Rattle.table.specs.declared.Verdict.{Verdict}
use Rattle.table.specs.WellFormed.{well_formed}

abbrev pub verdict_of : List Device → Verdict
verdict_of ds = record { good = well_formed ds; busy = any_busy ds }
