-- The frames of the device that talks, or of the byte that all hear.
use Rattle.std.proofs.Common.{◌≤◌, arith}
use Rattle.bus.specs.Held.{number, own, apart}
use Rattle.bus.proofs.glide.glide.Goals as goal
use Rattle.bus.proofs.glide.glide.Goals.{in_default-via-in-Some+else-k-count, in_default-via-in_default}

pub returns-in-Some-clause-glides : goal.returns-in-Some-clause-glides
returns-in-Some-clause-glides c =
    rw (c.glided.ensures, c.in-Some.is)
    (own c.if-k-count.true (rw (c.shown-shown.ensures, c.driven.ensures, c.byte_of.ensures) at c.frames_of.ensures))

pub returns-in_default-clause-glides : goal.returns-in_default-clause-glides
returns-in_default-clause-glides c =
    let nobody : c.args.count ≤ number c.args.talk.now.talker = elim c.in_default.branch [
      | in_default-via-in-Some+else-k-count w ↦ grind arith
      | in_default-via-in_default w ↦ grind arith
    ] in
    rw c.resumed-talk.ensures (apart nobody (rw c.byte_of-in_default.ensures at c.frames.ensures))
