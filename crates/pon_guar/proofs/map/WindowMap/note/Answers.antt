use Rattle.std.proofs.Common.{◌∙◌, ap, subst, sym}
use Rattle.pon_lists.specs.Order.{AreRising}
use Rattle.pon_guar.proofs.Polls.{noting, noting_is, reporters_rise}
use Rattle.pon_guar.proofs.map.WindowMap.note.Goals as goal

pub add_onu-requires : goal.add_onu-requires
add_onu-requires c = subst (λ m. AreRising m.reported) (sym c.self.view_is) (reporters_rise c.args.self.now c.requires.lawful)

pub returns-clause-ok : goal.returns-clause-ok
returns-clause-ok c =
    (λ j. record { frame = c.self.inside.frame; grants = c.self.inside.grants.items; reported = c.in_ok-add_onu.ensures.ok j })
    ∙ ap (noting c.args.onu) c.self.view_is
    ∙ noting_is c.args.self.now c.args.onu c.requires.lawful c.requires.polled c.requires.first
