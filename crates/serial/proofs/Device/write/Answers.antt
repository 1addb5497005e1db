use Rattle.std.proofs.Common.{rules, ◌≡◌}
use Rattle.std.specs.Prelude.{Err}
use Rattle.serial.specs.Cycle.{device_of}
use Rattle.serial.proofs.Accesses.{write_refused}
use Rattle.serial.proofs.Device.write.Goals as goal

pub returns-in_err-write : goal.returns-in_err-write
unfolding device_of
returns-in_err-write c =
    let e : c.from_residual.result ≡ Err c.in_err-write.field-0.0 = search rules in
    rw e (write_refused (device_of c.args.self.now) _ _ _ _ (rw (c.active-active.ensures, c.settings.ensures) at c.in_err-write.ensures))
