use Rattle.std.proofs.Common.{arith, rules}
use Rattle.pon_link.proofs.Sizes.{none_begun}
use Rattle.pon_link.proofs.form.form_fault.Goals as goal

pub returns-then-is_none-clause-closed : goal.returns-then-is_none-clause-closed
returns-then-is_none-clause-closed c begun =
    none_begun c.announced_size.result c.args.direction c.args.bytes.now (omega (arith, c.header_len.ensures.value, c.if-bytes-header_len.true)) (search rules) c.announced_size.ensures begun
