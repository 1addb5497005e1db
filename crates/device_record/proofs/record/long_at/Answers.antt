use native.Mathlib.Omega.{arith}
use mathlib.Core.Path.{◌≡◌}
use Prim.Native.Nat.{◌+◌}
use Rattle.device_record.specs.Record.{word_at, long_at}
use Rattle.device_record.proofs.record.long_at.Goals as goal

pub returns : goal.returns
unfolding word_at long_at
returns c =
    let i = c.args.place in
    let third : i + 2 + 1 ≡ i + 3 = omega arith in
    rw (c.from_le_bytes.ensures, c.byte_at.ensures, c.byte_at-2.ensures, c.byte_at-3.ensures, c.byte_at-4.ensures, c.from-i.ensures, third) (omega arith)
