use Rattle.std.proofs.Common.{◌≡◌, ◌+◌, ◌*◌, length}
use lib.Seq.{sets}
use Rattle.image.specs.Layout.{record_size}
use Rattle.image.specs.Image.{devices_of, table_of}
use Rattle.image.proofs.loading.load.Given as goal

abbrev pub invariant-loop-k : goal.invariant-loop-k
invariant-loop-k l =
    let rest = l.k-iterator.iter.rest.now in
    let k = l.k-iterator.count in
    (l.k-iterator.iter.size ≡ record_size) × (length l.bus ≡ record_size * k + length rest) × (sets l.devices k (devices_of rest) ≡ table_of (devices_of l.bus))
