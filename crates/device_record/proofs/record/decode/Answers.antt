use Rattle.serial.specs.Cycle.{device_of}
use Rattle.device_record.specs.Record.{decode}
use Rattle.device_record.proofs.record.decode.Goals as goal

pub returns : goal.returns
unfolding device_of decode
returns c = rw (c.from-registers.ensures, c.fields_at-fields.ensures, c.engine_at-engine.ensures, c.history_at-pins.ensures, c.from-lines.ensures, c.byte_at.ensures)
