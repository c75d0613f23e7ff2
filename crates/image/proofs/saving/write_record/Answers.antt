use Rattle.std.proofs.Common.{◌≡◌, [], rules}
use Rattle.image.specs.Layout.{reserved}
use Rattle.image.specs.Promises.{Sized}
use Rattle.image.proofs.Forth.{length_record}
use Rattle.image.proofs.Records.{written}
use Rattle.image.proofs.saving.write_record.Goals as goal

pub returns-clause-written : goal.returns-clause-written
returns-clause-written c =
    let s : Sized c.args.device.now = record { id = search rules; main = search rules; serial = search rules; user = search rules } in
    let ff : c.fill.new.self ≡ reserved = search rules in
    written c.args.room.now _ _ _ _ _ _ c.args.device.now c.requires s
    c.copy_from_slice.ensures.after c.copy_from_slice-2.ensures.after c.copy_from_slice-3.ensures.after c.copy_from_slice-4.ensures.after ff c.copy_from_slice-5.ensures.after

pub returns-clause-whole : goal.returns-clause-whole
returns-clause-whole c =
    let s : Sized c.args.device.now = record { id = search rules; main = search rules; serial = search rules; user = search rules } in
    length_record c.args.device.now [] s
