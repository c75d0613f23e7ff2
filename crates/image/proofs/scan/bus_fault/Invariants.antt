use Rattle.std.proofs.Common.{◌≡◌, ◌*◌}
use Rattle.image.specs.Layout.{record_size}
use Rattle.image.proofs.Records.{faults_of}
use Rattle.image.proofs.scan.bus_fault.Given as goal

abbrev pub invariant-loop-k : goal.invariant-loop-k
invariant-loop-k l = (l.k-iterator.iter.size ≡ record_size) × (faults_of (l.k-iterator.count * record_size) l.least l.k-iterator.iter.rest.now ≡ faults_of 0 0 l.bus)
