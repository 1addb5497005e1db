-- P1 to P10 hold for the definitions: proved by computing.
use Prim.{tt}
use mathlib.Core.Path.{refl}
use Rattle.registers.specs.Time.{cycles_of}
use Rattle.registers.specs.Offsets.{register_of}
use Rattle.registers.specs.Settings.{format_of, permitted_of, bits_of, divisor_of, enabled_of, settings_of}
use Rattle.registers.specs.Flags.{busy_of, status_of, raw_of, interrupt_word}
use Rattle.registers.specs.Access.{data_taken, read_answer, read_model, cr0_rule, cr1_rule, cpsr_rule, dr_rule, write_refusal, cr0_written, cr1_written, cpsr_written, dr_written, dmacr_written, write_model}
use Rattle.registers.specs.Transfer.{added, waiting_of, next_word, take_word, receive_word, idles_of, limit_of, timeout_of, end_cycle}
use Rattle.frames.specs.Bits.{bit_of, shifted_in}
use Rattle.frames.specs.Engine.{started, driven, captured_of, completes, capture_step}
use Rattle.frames.specs.Slots.{motorola_event, ti_event, microwire_event, event_of, last_slot, width_of, motorola_levels, ti_levels, microwire_levels, levels_of}
use Rattle.frames.specs.Lines.{pins_of, byte_of, frame_lines, master_lines, lines_of, master_txd}
use Rattle.frames.specs.Master.{joined_shift, resting, acting, data_bit, master_step, ticked, master_end}
use Rattle.serial.specs.Cycle.{step_of, tick_of, end_of, take_if, receive_if, device_step, cycle_of}
use Rattle.serial.specs.Access.{read_answer_of, read_device, write_refusal_of, engine_after, write_device}
use Rattle.serial.specs.Recordings.{AllHold, table, set_up, words, held, digits, after_step, given, expected, given_all, expected_all}

-- P1 to P10 hold.
pub recordings : AllHold table
unfolding table set_up words held digits after_step given expected given_all expected_all added cycles_of register_of format_of permitted_of bits_of divisor_of enabled_of settings_of busy_of status_of raw_of interrupt_word data_taken read_answer read_model cr0_rule cr1_rule cpsr_rule dr_rule write_refusal cr0_written cr1_written cpsr_written dr_written dmacr_written write_model waiting_of next_word take_word receive_word idles_of limit_of timeout_of end_cycle bit_of shifted_in started driven captured_of completes capture_step motorola_event ti_event microwire_event event_of last_slot width_of motorola_levels ti_levels microwire_levels levels_of pins_of byte_of frame_lines master_lines master_txd lines_of joined_shift resting acting data_bit master_step ticked master_end step_of tick_of end_of take_if receive_if device_step cycle_of read_answer_of read_device write_refusal_of engine_after write_device
recordings =
    (λ _. refl, (λ _. refl, (λ _. refl, (λ _. refl, (λ _. refl, (λ _. refl, (λ _. refl, (λ _. refl, (λ _. refl, (λ _. refl, (λ _. refl, (λ _. refl, (λ _. refl, (λ _. refl, (λ _. refl, (λ _. refl, (λ _. refl, (λ _. refl, tt))))))))))))))))))
