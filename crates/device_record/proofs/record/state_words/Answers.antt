use Rattle.device_record.proofs.Bytes.{state_law}
use Rattle.device_record.proofs.record.state_words.Goals as goal

pub returns : goal.returns
returns c = state_law c.args.f c.args.d.engine c.args.d.pins c.args.d.lines _ _ _ _ _ _ _ _ _ _ _ _ _ _ c.from.ensures c.from-2.ensures c.from-3.ensures c.from-4.ensures c.word_of.ensures c.word_of-2.ensures c.word_of-3.ensures c.word_of-4.ensures c.word_of-5.ensures c.word_of-6.ensures c.word_of-7.ensures c.word_of-8.ensures c.word_of-9.ensures c.word_of-10.ensures
