use Rattle.std.proofs.Common.{rules, Some, sym, ap, ◌∙◌, subst}
use Rattle.pon_check_file.specs.Parts.{left_of, parts_of}
use Rattle.pon_check_file.specs.CheckLines.{flags_from}
use Rattle.pon_check_file.proofs.Naming.{Given, none_given, one_given, all_given, one_over}
use Rattle.pon_check_file.proofs.set.flags_from.Goals as goal

pub loop-item-init : goal.loop-item-init
loop-item-init c =
    subst (λ done. Given 0 c.args.count (flags_from 0 c.args.count (parts_of c.args.set.now)) done (left_of c.of-indexes.result.left)) (sym c.new-flags.ensures.items)
    (none_given c.args.count (parts_of c.args.set.now) (left_of c.of-indexes.result.left) c.of-indexes.ensures)

pub loop-item-preserved : goal.loop-item-preserved
loop-item-preserved c =
    one_given c.loop-item.item c.args.count (flags_from 0 c.args.count (parts_of c.args.set.now)) c.loop-item.flags.items c.push.new.self.items
    (left_of c.loop-item.indexes.left) (left_of c.take-saturated.new.self.left) c.take-saturated.result c.loop-item.invariant (search rules)
    c.take-saturated.ensures.named c.take-saturated.ensures.left (search rules)

pub returns-then-is_some : goal.returns-then-is_some
returns-then-is_some c =
    sym (one_over c.loop-item.item c.args.count (flags_from 0 c.args.count (parts_of c.args.set.now)) c.loop-item.flags.items c.loop-item.indexes.left c.loop-item.invariant c.loop-item-test.false (sym c.is_some.ensures ∙ c.if-is_some.true))

pub returns : goal.returns
returns c =
    ap Some c.new.ensures
    ∙ sym (all_given c.loop-item.item c.args.count (flags_from 0 c.args.count (parts_of c.args.set.now)) c.loop-item.flags.items c.loop-item.indexes.left c.loop-item.invariant c.loop-item-test.false (sym c.is_some.ensures ∙ c.if-is_some.false))
