use mathlib.Core.Path.{ap₂}
use Rattle.serial.specs.Pair.{pair_of}
use Rattle.device_record.proofs.Answers.{handed_on, short_first, short_second, first_unsound, second_unsound, both_sound, pair_unserved, pair_done}
use Rattle.device_record.proofs.calls.pair_call.Goals as goal

pub returns-in_err-check_length : goal.returns-in_err-check_length
returns-in_err-check_length c = rw (handed_on _ _ c.from_residual.ensures.1, c.in_err-check_length.ensures.0) (pair_unserved _ _ _ _ (short_first _ c.in_err-check_length.ensures.1 _))

pub returns-in_err-check_length-2 : goal.returns-in_err-check_length-2
returns-in_err-check_length-2 c = rw (handed_on _ _ c.from_residual-in_err-check_length-2.ensures.1, c.in_err-check_length-2.ensures.0) (pair_unserved _ _ _ _ (short_second _ c.in_err-check_length-2.ensures.1 _))

pub returns-in_err-device_in : goal.returns-in_err-device_in
returns-in_err-device_in c = rw (handed_on _ _ c.from_residual-in_err-device_in.ensures.1) (pair_unserved _ _ _ _ (first_unsound _ _ c.in_ok-check_length.ensures c.in_ok-check_length-2.ensures _ c.in_err-device_in.ensures))

pub returns-in_err-device_in-2 : goal.returns-in_err-device_in-2
returns-in_err-device_in-2 c = rw (handed_on _ _ c.from_residual-in_err-device_in-2.ensures.1) (pair_unserved _ _ _ _ (second_unsound _ _ c.in_ok-check_length.ensures c.in_ok-check_length-2.ensures c.in_ok-device_in.ensures.0 _ c.in_err-device_in-2.ensures))

pub returns : goal.returns
unfolding pair_of
returns c =
    let one = c.in_ok-device_in.ensures in
    let two = c.in_ok-device_in-2.ensures in
    pair_done _ _ (both_sound _ _ c.in_ok-check_length.ensures c.in_ok-check_length-2.ensures one.0 two.0) _ _ _ _ _ _ c.run-lost.ensures (ap₂ (λ x y. record { first = x; second = y }) one.1 two.1) c.encode.ensures c.encode-2.ensures
