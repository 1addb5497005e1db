use mathlib.Core.Path.{◌≡◌, refl, sym, subst}
use mathlib.Core.List.{[]}
use Rattle.std.proofs.Common.{rules, Err}
use Rattle.judge.specs.Judge.{verdict_of, Judged}
use Rattle.judge.proofs.Judging.{can_as, settings_as, permitted_as, judged_barred, judged_long, judged_words, judged_rejected}
use Rattle.judge.proofs.judge.judge.Goals as goal

pub returns-then-not-enabled : goal.returns-then-not-enabled
returns-then-not-enabled c = judged_barred _ _ _ _ (can_as _ _ _ c.enabled_with-device.ensures _ c.if-not-enabled.ensures)

pub returns-then-recording-gt-MOST_CYCLES : goal.returns-then-recording-gt-MOST_CYCLES
returns-then-recording-gt-MOST_CYCLES c = judged_long _ _ _ _ (can_as _ _ _ c.enabled_with-device.ensures _ c.if-not-enabled.ensures) c.if-recording-gt-MOST_CYCLES.true

pub follow-requires : goal.follow-requires
follow-requires c = record {
  permitted = permitted_as _ _ _ (can_as _ _ _ c.enabled_with-device.ensures _ c.if-not-enabled.ensures) (settings_as _ _ _ c.enabled_with-device.ensures _ c.settings-s.ensures);
  empty = refl;
}

pub returns-in_err-count : goal.returns-in_err-count
returns-in_err-count c =
    let e : c.from_residual.result ≡ Err c.in_err-count.field-0.0 = search rules in
    subst (λ r. Judged c.args.cr0 c.args.cpsr c.args.recording.now c.args.words.now (verdict_of r) c.args.words.now) (sym e)
    (judged_rejected _ _ _ _ (can_as _ _ _ c.enabled_with-device.ensures _ c.if-not-enabled.ensures) c.if-recording-gt-MOST_CYCLES.false _
    (settings_as _ _ _ c.enabled_with-device.ensures _ c.settings-s.ensures) _ _ c.in_err-count.ensures)

pub returns : goal.returns
returns c =
    judged_words _ _ _ [] (can_as _ _ _ c.enabled_with-device.ensures _ c.if-not-enabled.ensures) c.if-recording-gt-MOST_CYCLES.false _
    (settings_as _ _ _ c.enabled_with-device.ensures _ c.settings-s.ensures) _ _ c.in_ok-count.ensures
