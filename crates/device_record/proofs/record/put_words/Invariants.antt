use Prim.Native.Nat.{◌*◌}
use Rattle.device_record.specs.Record.{word_bytes}
use Rattle.device_record.proofs.Bytes.{Putting}
use Rattle.device_record.proofs.record.put_words.Given as goal

abbrev pub invariant-loop-i : goal.invariant-loop-i
invariant-loop-i l = Putting l.initial.bytes l.at (word_bytes l.words) l.bytes (2 * l.i)
