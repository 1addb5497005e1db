use Rattle.device_record.specs.Record.{fields_at}
use Rattle.device_record.proofs.record.fields_at.Goals as goal

pub returns : goal.returns
unfolding fields_at
returns c = rw (c.word_at.ensures, c.byte_at.ensures, c.byte_at-2.ensures, c.flag_at.ensures, c.byte_at-3.ensures, c.byte_at-4.ensures, c.flag_at-2.ensures, c.long_at.ensures, c.flag_at-3.ensures, c.words_at.ensures, c.byte_at-5.ensures, c.words_at-2.ensures, c.byte_at-6.ensures)
