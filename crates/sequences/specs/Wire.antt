-- The master's end of the wire with one device on it: "Bits come most significant first; the ninth frame is the answer."
use Rattle.std.specs.Prelude.{ℕ, zero, suc}
use Rattle.bits.specs.Bytes.{bit_at, more_of}
use Rattle.chip.specs.declared.Device.{Device}
use Rattle.chip.specs.declared.Taken.{Taken}
use Rattle.chip.specs.declared.Event.TheVariants.{Bit}
use Rattle.chip.specs.Take.{take_of}
use Rattle.sequences.specs.declared.wire.Got.{Got}

-- the device after the first n frames of a byte
unfoldable pub sent_to : ℕ → Device → ℕ → Device
sent_to zero d x = d
sent_to (suc n) d x = (take_of (sent_to n d x) (Bit (bit_at x n))).device

-- the byte so far with the level that came as one bit more
abbrev pub got_with : ℕ → Taken → Got
got_with x t = record { device = t.device; byte = more_of x t.level }

-- the device and the byte after n read frames: "A read frame is the master's 1"
unfoldable pub got_to : ℕ → Device → Got
got_to zero d = record { device = d; byte = 0 }
got_to (suc n) d = got_with (got_to n d).byte (take_of (got_to n d).device (Bit 1))
