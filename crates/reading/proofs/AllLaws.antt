-- The laws of the reading, gathered.
use Rattle.reading.specs.Laws.{Laws}
use Rattle.reading.proofs.ByteLaws.{nine_frames, torn}
use Rattle.reading.proofs.CellLaws.{last_byte, last_mixed, other_cells}
use Rattle.reading.proofs.EventLaws.{one_slave, one_begins, next_event}

pub laws : Laws
laws =
    record {
      nine_frames = nine_frames;
      torn = torn;
      last_byte = last_byte;
      last_mixed = last_mixed;
      other_cells = other_cells;
      one_slave = one_slave;
      one_begins = one_begins;
      next_event = next_event;
    }
