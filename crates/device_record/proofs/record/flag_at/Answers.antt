use Rattle.device_record.specs.Record.{flag_at}
use Rattle.device_record.proofs.record.flag_at.Goals as goal

pub returns : goal.returns
unfolding flag_at
returns c = rw c.byte_at.ensures
