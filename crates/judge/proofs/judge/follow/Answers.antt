use mathlib.Core.Path.{refl, sym}
use Rattle.std.proofs.Common.{rules}
use Rattle.judge.proofs.Verdicts.{good_settings}
use Rattle.judge.proofs.Following.{slots_begin, following_stop, following_part, slots_turn, following_early, following_over, words_count, words-places, told_leading, told_words}
use Rattle.judge.proofs.judge.follow.Goals as goal

pub loop-slot-init : goal.loop-slot-init
loop-slot-init c = record {
  can = search rules;
  finite = search rules;
  slots = slots_begin _ _ _ _ _ _ _ (good_settings _ _ c.of-t.ensures c.requires.permitted) c.requires.permitted.divisor c.requires.empty c.word_start-p.ensures (search rules) (search rules);
}

pub returns-in_default : goal.returns-in_default
returns-in_default c =
    told_leading _ _ _ _ c.of-t.ensures refl _
    (following_stop _ _ _ _ _ _ _ _ c.loop-slot.invariant.slots _ _ _ c.in-Some.ensures.steps (sym c.in_default.ensures))

pub returns-then-run-h : goal.returns-then-run-h
returns-then-run-h c =
    told_leading _ _ _ _ c.of-t.ensures refl _
    (following_part _ _ _ _ _ _ _ _ c.loop-slot.invariant.slots _ _ _ c.in-Some.ensures.steps _ (sym c.in-Some-step.ensures) _ c.same_run-run.ensures c.if-run-h.true)

pub loop-slot-preserved : goal.loop-slot-preserved
loop-slot-preserved c = record {
  can = search rules;
  finite = search rules;
  slots = slots_turn _ _ _ _ _ _ _ _ c.loop-slot.invariant.slots _ _ _ c.in-Some.ensures.steps _ (sym c.in-Some-step.ensures) _ c.same_run-run.ensures c.if-run-h.false;
}

pub returns-then-over : goal.returns-then-over
returns-then-over c =
    let s = c.loop-slot.invariant.slots in
    told_words _ _ _ _ c.of-t.ensures refl _ _ _ (following_over _ _ _ _ _ _ _ _ s c.in-None.ensures.steps.1.0 (sym c.if-over.ensures)) (words_count _ _ _ _ _ _ _ _ s) (words-places _ _ _ _ _ _ _ _ s)

pub returns : goal.returns
returns c =
    told_leading _ _ _ _ c.of-t.ensures refl _
    (following_early _ _ _ _ _ _ _ _ c.loop-slot.invariant.slots c.in-None.ensures.steps.1.0 (sym c.if-over.ensures))
