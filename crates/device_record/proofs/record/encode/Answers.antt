use Rattle.registers.specs.Model.{model_of}
use Rattle.device_record.proofs.Bytes.{put_record}
use Rattle.serial.specs.Cycle.{device_of}
use Rattle.device_record.specs.Record.{encoded, encode}
use borrow.Author.Tests.{eq-eqb, ne_eqb}
use borrow.Author.Rules.{rules}
use Rattle.device_record.proofs.record.encode.Goals as goal

pub returns-then-bytes-eq-RECORD_LENGTH : goal.returns-then-bytes-eq-RECORD_LENGTH
unfolding encode encoded device_of
returns-then-bytes-eq-RECORD_LENGTH c = rw (eq-eqb _ _ c.if-bytes-eq-RECORD_LENGTH.true) (put_record _ (model_of c.args.d.registers) c.args.d.engine c.args.d.pins c.args.d.lines c.state_words-state.ensures c.from-fields.ensures c.put_words.ensures c.put_words-then-bytes-eq-RECORD_LENGTH.ensures c.put_words-then-bytes-eq-RECORD_LENGTH-2.ensures c.put_words-then-bytes-eq-RECORD_LENGTH-3.ensures c.if-bytes-eq-RECORD_LENGTH.true (search rules) (search rules))

pub returns-else-bytes-eq-RECORD_LENGTH : goal.returns-else-bytes-eq-RECORD_LENGTH
unfolding encode
returns-else-bytes-eq-RECORD_LENGTH c = rw (ne_eqb _ _ c.if-bytes-eq-RECORD_LENGTH.false)
