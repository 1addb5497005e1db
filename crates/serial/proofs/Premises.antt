-- The premises of demand 3 can be met: prepared devices meet them, proved by computing.
use Prim.{tt}
use Prim.Native.Nat.{ℕ, ◌≤◌}
use mathlib.Core.Path.{◌≡◌, refl}
use mathlib.Core.Bool.{Bool}
use mathlib.Core.Logic.{inl, inr}
use native.Mathlib.Omega.{arith}
use Rattle.registers.specs.Time.{cycles_of}
use Rattle.registers.specs.Offsets.{register_of}
use Rattle.registers.specs.Settings.{format_of, permitted_of, bits_of, divisor_of, enabled_of, settings_of}
use Rattle.registers.specs.Access.{read_model, cr0_rule, cr1_rule, cpsr_rule, dr_rule, write_refusal, cr0_written, cr1_written, cpsr_written, dr_written, write_model}
use Rattle.registers.specs.Transfer.{added, end_cycle}
use Rattle.registers.specs.Sound.{control_sound, masks_sound, queues_sound, count_sound, sound_registers}
use Rattle.frames.specs.Master.{resting, master_end}
use Rattle.serial.specs.Slave.{motorola_select, capture_edge, drive_edge, motorola_clock, motorola_edges, motorola_slave, microwire_edges, microwire_slave, slave_step, slave_end}
use Rattle.frames.specs.Lines.{master_lines, lines_of, master_txd}
use Rattle.serial.specs.Cycle.{step_of, tick_of, end_of, take_if, receive_if, device_step, cycle_of}
use Rattle.serial.specs.Access.{read_device, engine_after, write_device}
use Rattle.serial.specs.Sound.{stopped_sound, engine_sound, sound_device}
use Rattle.serial.specs.Pair.{wire, pair_cycle}
use Rattle.serial.specs.Drawing.{slot_total}
use Rattle.serial.specs.Premises.{motorola, microwire, microwire_unlike, PairPremises, LastPremises}

-- Those of the first part, for a Motorola pair.
pub motorola_premises : (m n : Bool) → PairPremises m n motorola motorola
unfolding sound_device sound_registers control_sound masks_sound queues_sound count_sound engine_sound stopped_sound settings_of format_of permitted_of bits_of divisor_of enabled_of register_of read_device read_model write_device write_model write_refusal cr0_rule cr1_rule cpsr_rule dr_rule cr0_written cr1_written cpsr_written dr_written added engine_after pair_cycle wire cycle_of device_step step_of slave_end resting master_end tick_of end_of take_if receive_if end_cycle lines_of master_lines master_txd slave_step motorola_slave motorola_select motorola_edges motorola_clock capture_edge drive_edge
motorola_premises m n =
    record {
      start =
          record {
            sound_master = refl;
            sound_slave = refl;
            permitted_master = refl;
            permitted_slave = refl;
            divided_master = λ e. let z : ◌≡◌ {A = ℕ} 12 0 = e in omega arith;
            divided_slave = λ e. let z : ◌≡◌ {A = ℕ} 2 0 = e in omega arith;
            serial = inl refl;
            format = refl;
            size = refl;
            polarity = refl;
            phase = refl;
            divisor = let z : 6 ≤ 6 = omega arith in z;
            is_master = refl;
            is_slave = refl;
            straight_master = refl;
            straight_slave = refl;
            output = refl;
            off_master = refl;
            off_slave = refl;
            idle_master = refl;
            idle_slave = refl;
            clear_master = refl;
            clear_slave = refl;
          };
      four = let z : 4 ≤ 4 = omega arith in z;
      stays_before = (refl, refl, (refl, refl, (refl, refl, (refl, refl, tt))));
      stays_between = (refl, refl, (refl, refl, tt));
      load_master = refl;
      load_slave = refl;
    }

-- For a Microwire pair with unlike SPO and SPH.
pub microwire_premises : (m n : Bool) → PairPremises m n microwire microwire_unlike
unfolding sound_device sound_registers control_sound masks_sound queues_sound count_sound engine_sound stopped_sound settings_of format_of permitted_of bits_of divisor_of enabled_of register_of read_device read_model write_device write_model write_refusal cr0_rule cr1_rule cpsr_rule dr_rule cr0_written cr1_written cpsr_written dr_written added engine_after pair_cycle wire cycle_of device_step step_of slave_end resting master_end tick_of end_of take_if receive_if end_cycle lines_of master_lines master_txd slave_step microwire_slave microwire_edges
microwire_premises m n =
    record {
      start =
          record {
            sound_master = refl;
            sound_slave = refl;
            permitted_master = refl;
            permitted_slave = refl;
            divided_master = λ e. let z : ◌≡◌ {A = ℕ} 12 0 = e in omega arith;
            divided_slave = λ e. let z : ◌≡◌ {A = ℕ} 2 0 = e in omega arith;
            serial = inr (inr refl);
            format = refl;
            size = refl;
            polarity = tt;
            phase = tt;
            divisor = let z : 6 ≤ 6 = omega arith in z;
            is_master = refl;
            is_slave = refl;
            straight_master = refl;
            straight_slave = refl;
            output = refl;
            off_master = refl;
            off_slave = refl;
            idle_master = refl;
            idle_slave = refl;
            clear_master = refl;
            clear_slave = refl;
          };
      four = let z : 4 ≤ 4 = omega arith in z;
      stays_before = (refl, refl, (refl, refl, (refl, refl, (refl, refl, tt))));
      stays_between = (refl, refl, (refl, refl, tt));
      load_master = refl;
      load_slave = refl;
    }

-- Those of the last sentence.
pub last_premises : (m n : Bool) → LastPremises m n
unfolding sound_device sound_registers control_sound masks_sound queues_sound count_sound engine_sound stopped_sound settings_of format_of permitted_of bits_of divisor_of enabled_of register_of write_device write_model write_refusal cr0_rule cr1_rule cpsr_rule dr_rule cr0_written cr1_written cpsr_written dr_written added engine_after slot_total cycles_of
last_premises m n =
    record {
      one = record { sound = refl; clear = refl; idle = refl; set = refl; enabled = refl; master = refl };
      other = record { sound = refl; clear = refl; idle = refl; set = refl; enabled = refl; master = refl };
      whole_one = let z : 144 ≤ 144 = omega arith in z;
      whole_other = let z : 144 ≤ 144 = omega arith in z;
    }
