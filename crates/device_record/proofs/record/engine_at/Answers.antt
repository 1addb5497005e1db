use Rattle.device_record.specs.Record.{engine_at}
use Rattle.device_record.proofs.record.engine_at.Goals as goal

pub returns : goal.returns
unfolding engine_at
returns c = rw (c.byte_at.ensures, c.byte_at-2.ensures, c.flag_at.ensures, c.flag_at-2.ensures, c.flag_at-3.ensures, c.flag_at-4.ensures, c.word_at.ensures, c.word_at-2.ensures, c.word_at-3.ensures)
