-- The law that opens model_of, for the proofs of this crate only.
use Rattle.std.specs.Prelude.{◌≡◌, refl}
use Rattle.queue.specs.Fifo.{contents}
use Rattle.registers.specs.declared.Registers.{Registers}
use Rattle.registers.specs.Model.{model_of}

pub model_of_lem : (r : Registers) → model_of r ≡ record { control = r.control; masks = r.masks; timeout = r.timeout; ror = r.ror; tx = contents r.tx; rx = contents r.rx }
unfolding model_of
model_of_lem r = refl
