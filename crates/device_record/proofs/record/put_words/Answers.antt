use native.Mathlib.Omega.{arith}
use Rattle.device_record.proofs.Bytes.{put_start, put_end, length-words, words_turn}
use Rattle.device_record.proofs.record.put_words.Goals as goal

pub loop-i-init : goal.loop-i-init
loop-i-init c = put_start _ _ _ (let l = length-words c.args.words.now in let p = c.requires in omega arith)

pub loop-i-preserved : goal.loop-i-preserved
loop-i-preserved c = rw c.to_le_bytes.ensures (words_turn _ _ _ _ _ c.loop-i.invariant c.loop-i-test.true)

pub returns : goal.returns
returns c = put_end _ _ _ _ _ c.loop-i.invariant (let l = length-words c.args.words.now in let h = c.loop-i-test.false in omega arith)
