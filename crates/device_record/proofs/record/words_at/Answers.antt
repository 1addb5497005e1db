use Rattle.std.proofs.Common.{rules, tests, ◌+◌, ◌*◌}
use mathlib.Core.Path.{sym, ◌∙◌}
use Rattle.device_record.specs.Record.{word_at}
use Rattle.device_record.proofs.Bytes.{words_read, made}
use Rattle.device_record.proofs.record.words_at.Goals as goal

pub returns : goal.returns
unfolding word_at
returns c =
    made (λ k. word_at c.args.bytes.now (c.args.place + 2 * k)) c.from_fn.ensures.items (λ k word q called. search (rules, tests))
    ∙ sym (words_read c.args.bytes.now c.args.place)
