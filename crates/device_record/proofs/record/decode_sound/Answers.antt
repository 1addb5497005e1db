use Rattle.device_record.specs.Record.{encode, sound_bytes}
use Rattle.device_record.proofs.Bytes.{eq_list_lem, is_some_lem}
use Rattle.device_record.proofs.record.decode_sound.Goals as goal

pub returns-clause-sound : goal.returns-clause-sound
unfolding sound_bytes encode
returns-clause-sound c = rw (c.then_some.ensures, is_some_lem, c.eq-kept.ensures, eq_list_lem, c.as_slice.ensures, c.sound-good.ensures, c.encode.ensures, c.decode-d.ensures)
