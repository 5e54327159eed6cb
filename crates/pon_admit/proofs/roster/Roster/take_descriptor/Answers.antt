use Rattle.std.proofs.Common.{ap, ◌∙◌, ◌+◌, ◌-◌}
use Rattle.pon_admit.specs.Roster.{with_descriptor}
use Rattle.pon_admit.proofs.Refusals.{finds, kept_changed, refused_not, refuses_change-absent, replaced, sums_changed}
use Rattle.pon_admit.proofs.roster.Roster.take_descriptor.Goals as goal

pub unreachable-requires : goal.unreachable-requires
unreachable-requires c = refused_not (refuses_change-absent c.args.alloc_id c.args.descriptor c.self.view_is c.deref.ensures.value c.in_default.ensures) c.requires.accepted

pub invariant_of-self : goal.invariant_of-self
invariant_of-self c =
    kept_changed c.args.alloc_id c.args.descriptor c.self.invariant c.self.view_is c.requires.accepted c.promised.ensures.lawful
    (sums_changed (finds c.args.alloc_id c.self.invariant c.self.view_is c.deref.ensures.value c.in-Some.ensures c.index.ensures) c.args.descriptor c.rate-promised.result
    (c.rate-promised.ensures ∙ (λ j. c.get.ensures.value j - (c.get-2.ensures.value ∙ c.promised-former.ensures.sum) j + (c.get-3.ensures.value ∙ c.promised.ensures.sum) j)))
    (replaced (finds c.args.alloc_id c.self.invariant c.self.view_is c.deref.ensures.value c.in-Some.ensures c.index_mut.ensures.value) c.args.descriptor)

pub returns : goal.returns
returns c =
    let rows = replaced (finds c.args.alloc_id c.self.invariant c.self.view_is c.deref.ensures.value c.in-Some.ensures c.index_mut.ensures.value) c.args.descriptor
    ∙ ap (λ t. with_descriptor c.args.alloc_id c.args.descriptor t.rows) c.self.view_is in
    (λ j. record { rule = (c.self.view_is j).rule; gap = (c.self.view_is j).gap; rows = rows j })
