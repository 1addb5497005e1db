use Rattle.device_record.specs.Record.{word_at}
use Rattle.device_record.proofs.record.word_at.Goals as goal

pub returns : goal.returns
unfolding word_at
returns c = rw (c.word_of.ensures.joined, c.byte_at.ensures, c.byte_at-2.ensures, c.from-i.ensures)
