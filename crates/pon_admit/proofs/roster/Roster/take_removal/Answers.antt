use Rattle.std.proofs.Common.{◌-◌, ap, ◌∙◌}
use Rattle.std.specs.List.{remove}
use Rattle.pon_admit.specs.Roster.{owned}
use Rattle.pon_admit.proofs.Refusals.{finds, kept_without, refused_not, refuses_remove-absent, remove_seen, sums_without}
use Rattle.pon_admit.proofs.roster.Roster.take_removal.Goals as goal

pub unreachable-requires : goal.unreachable-requires
unreachable-requires c = refused_not (refuses_remove-absent c.args.alloc_id c.self.view_is c.deref.ensures.value c.in_default.ensures) c.requires.admitted

pub invariant_of-self : goal.invariant_of-self
invariant_of-self c =
    let found = finds c.args.alloc_id c.self.invariant c.self.view_is c.deref.ensures.value c.in-Some.ensures c.index.ensures in
    kept_without c.in-Some.place c.args.alloc_id c.self.invariant c.self.view_is (remove_seen found)
    (sums_without found c.count_owned-alone.result c.from.result c.rate-promised.result (c.count_owned-alone.ensures ∙ ap (λ u. owned c.index.result.now.onu u) c.deref-2.ensures.value) c.from.ensures
    (c.rate-promised.ensures ∙ (λ j. c.get.ensures.value j - (c.get-2.ensures.value ∙ c.promised.ensures.sum) j)))
    c.remove.ensures.items

pub returns : goal.returns
returns c =
    let found = finds c.args.alloc_id c.self.invariant c.self.view_is c.deref.ensures.value c.in-Some.ensures c.index.ensures in
    let rows = c.remove.ensures.items ∙ ap (λ t. remove t.rows c.in-Some.place) c.self.view_is ∙ remove_seen found in
    (λ j. record { rule = (c.self.view_is j).rule; gap = (c.self.view_is j).gap; rows = rows j })
