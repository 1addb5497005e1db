use Rattle.device_record.specs.Record.{history_at}
use Rattle.device_record.proofs.record.history_at.Goals as goal

pub returns : goal.returns
unfolding history_at
returns c = rw (c.from.ensures, c.from-2.ensures, c.from-3.ensures, c.byte_at.ensures, c.byte_at-2.ensures, c.byte_at-3.ensures)
