use mathlib.Core.Path.{sym, ap, ◌∙◌}
use native.Mathlib.Omega.{arith}
use Rattle.serial.specs.Cycle.{device_of, cycle_of, lost_of}
use Rattle.device_record.proofs.Runs.{run_refused, run_begin, run_turn, run-held, run_ended}
use Rattle.device_record.proofs.run.run_until.Goals as goal

pub returns-then-input-output : goal.returns-then-input-output
returns-then-input-output c = run_refused _ _ _ _ _ c.none-lost.ensures c.if-input-output.true

pub loop-i-init : goal.loop-i-init
loop-i-init c = run_begin _ _ _ _ _ c.none-lost.ensures c.if-input-output.false

pub returns-then-stops_on : goal.returns-then-stops_on
returns-then-stops_on c = run-held _ _ _ _ _ _ _ _ c.loop-i.invariant (sym c.if-stops_on.ensures)

pub loop-i-preserved : goal.loop-i-preserved
unfolding device_of
loop-i-preserved c =
    let h = c.loop-i-test.true in
    let g = c.well_formed in
    let pins = c.from.ensures in
    let r = c.cycle.ensures in
    run_turn _ _ _ _ _ _ _ _ c.loop-i.invariant _ _ c.cycle.result _ h (omega arith) (sym c.if-stops_on.ensures) (r.device ∙ ap (cycle_of _) pins) c.from-in-loop-i.ensures (r.lost ∙ ap (lost_of _) pins) c.note.ensures

pub returns : goal.returns
returns c = run_ended _ _ _ _ _ _ _ _ c.loop-i.invariant c.loop-i-test.false
