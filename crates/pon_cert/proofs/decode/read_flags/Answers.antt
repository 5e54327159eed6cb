use Rattle.pon_cert.proofs.Flags.{reads_whole, reads_no_flag, reads_short}
use Rattle.std.proofs.Common.{sym, ◌∙◌}
use Rattle.pon_cert.proofs.decode.read_flags.Goals as goal

pub returns-then-not-are_flags-clause-value : goal.returns-then-not-are_flags-clause-value
returns-then-not-are_flags-clause-value c = reads_no_flag c.min.result c.args.count c.args.bytes.now c.split_at.result.0.now c.min.ensures c.split_at.ensures.front (sym c.are_flags.ensures ∙ c.if-not-are_flags.true)

pub returns-then-flags-count-clause-value : goal.returns-then-flags-count-clause-value
returns-then-flags-count-clause-value c = reads_short c.min.result c.args.count c.args.bytes.now c.split_at.result.0.now c.min.ensures c.split_at.ensures.front c.if-flags-count.true (sym c.are_flags.ensures ∙ c.if-not-are_flags.false)

pub returns-clause-value : goal.returns-clause-value
returns-clause-value c = reads_whole c.min.result c.args.count c.args.bytes.now c.split_at.result.0.now c.split_at.result.1.now c.min.ensures c.split_at.ensures.front c.split_at.ensures.back c.if-flags-count.false (sym c.are_flags.ensures ∙ c.if-not-are_flags.false)
