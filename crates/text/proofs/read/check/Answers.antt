use Rattle.std.proofs.Common.{◌≡◌, ◌<◌, ◌≤◌, length, get_or, ap, ◌∙◌, rules}
use Rattle.text.specs.Text.{character_of}
use Rattle.text.proofs.Reading.{check_unended, check_refused, check_turn, check_end}
use Rattle.text.proofs.Numbers.{refused_number, handed_on}
use Rattle.text.proofs.read.check.Goals as goal

pub returns-in_default : goal.returns-in_default
returns-in_default c =
    let some : 0 < length c.loop-rest.rest.now = search rules in
    let ended : length c.loop-rest.rest.now ≤ c.digit_run-run.result = search rules in
    check_unended _ _ _ _ c.loop-rest.invariant _ c.min-most.ensures _ c.digit_run-run.ensures some ended

pub returns-in_err-refusal_at : goal.returns-in_err-refusal_at
returns-in_err-refusal_at c =
    let within : c.digit_run-run.result < length c.loop-rest.rest.now = search rules in
    let byte : c.in-Some.byte.now ≡ get_or c.loop-rest.rest.now c.digit_run-run.result 0 = search rules in
    rw (handed_on _ _ c.from_residual.ensures.1) (check_refused _ _ _ _ c.loop-rest.invariant _ c.min-most.ensures _ c.digit_run-run.ensures within _ (c.from.ensures ∙ ap character_of byte) _ c.in_err-refusal_at.ensures (refused_number _))

pub loop-rest-preserved : goal.loop-rest-preserved
loop-rest-preserved c =
    let within : c.digit_run-run.result < length c.loop-rest.rest.now = search rules in
    let byte : c.in-Some.byte.now ≡ get_or c.loop-rest.rest.now c.digit_run-run.result 0 = search rules in
    check_turn _ _ _ _ c.loop-rest.invariant _ c.min-most.ensures _ c.digit_run-run.ensures within _ (c.from.ensures ∙ ap character_of byte) c.in_ok-refusal_at.ensures

pub returns : goal.returns
returns c = let ended : length c.loop-rest.rest.now ≡ 0 = search rules in check_end _ _ _ _ c.loop-rest.invariant ended
