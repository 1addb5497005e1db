use Rattle.text.proofs.Buffers.{mapping_begin, mapping_turn, mapping_end}
use Rattle.std.proofs.Common.{arith}
use Rattle.text.proofs.put.put_mapped.Goals as goal

pub loop-i-init : goal.loop-i-init
loop-i-init g c = λ f h. mapping_begin f _ _ _ c.requires.room

pub loop-i-preserved : goal.loop-i-preserved
loop-i-preserved g c = λ f h. mapping_turn f _ _ _ _ _ (c.loop-i.invariant f h) _ c.loop-i-test.true (h _ _ (omega (arith, c.type_inv.bytes c.loop-i.i)) c.of.ensures)

pub returns : goal.returns
returns g c = λ f h. mapping_end f _ _ _ _ _ (c.loop-i.invariant f h) c.loop-i-test.false
