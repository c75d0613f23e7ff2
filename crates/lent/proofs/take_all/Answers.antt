-- A turn lets the device at its index take the event, and the level goes on with it.
use Rattle.std.proofs.Common.{◌≡◌, ◌<◌, length, sym, arith}
use Rattle.lent.proofs.Passes.{upto_none, level_none, get_or_upto, upto_more, level_more, upto_all, level_all}
use Rattle.lent.proofs.take_all.Goals as goal

pub loop-device-init : goal.loop-device-init
loop-device-init c = record { devices = sym (upto_none _ _); level = rw level_none c.masters_level-level.ensures }

pub loop-device-preserved : goal.loop-device-preserved
loop-device-preserved c =
    let v = c.loop-device.invariant in
    let l : c.loop-device.device-index < length c.args.table.now = omega arith in
    record {
      devices = simp (c.takes.ensures.device, v.devices, get_or_upto) (upto_more _ _ _ _ l);
      level = simp (c.pulled-level.ensures, c.takes.ensures.level, v.devices, v.level, get_or_upto) (level_more _ _ _ _ _ l);
    }

pub returns-clause-devices : goal.returns-clause-devices
returns-clause-devices c =
    let n : c.loop-device.device-index ≡ length c.args.table.now = omega arith in rw (n, upto_all) at c.loop-device.invariant.devices

pub returns-clause-level : goal.returns-clause-level
returns-clause-level c =
    let n : c.loop-device.device-index ≡ length c.args.table.now = omega arith in rw (n, level_all) at c.loop-device.invariant.level
