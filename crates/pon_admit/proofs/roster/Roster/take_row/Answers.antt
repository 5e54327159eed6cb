use Rattle.std.proofs.Common.{ap, sym, ◌∙◌, ◌+◌}
use Rattle.std.specs.List.{insert}
use Rattle.pon_admit.proofs.Refusals.{insert_seen, kept_with_row, sees, sums_seen}
use Rattle.pon_admit.proofs.roster.Roster.take_row.Goals as goal

pub invariant_of-self-2 : goal.invariant_of-self-2
invariant_of-self-2 c =
    let seen = sees c.args.row c.self.invariant c.self.view_is c.deref.ensures.value c.look_through-seen.ensures.taken (sym c.deref.ensures.len) c.look_through-seen.ensures.owned in
    kept_with_row c.look_through-seen.result.place c.args.row c.self.invariant c.self.view_is c.requires.accepted c.prove_in_range.ensures
    (insert_seen seen c.look_through-seen.result.place c.look_through-seen.ensures.place)
    (sums_seen seen c.from.result c.rate-promised.result c.from.ensures (c.rate-promised.ensures ∙ (λ j. c.get.ensures.value j + (c.get-2.ensures.value ∙ c.promised.ensures.sum) j)))
    c.in_ok-insert.ensures.items

pub returns-clause-ok : goal.returns-clause-ok
returns-clause-ok c =
    let seen = sees c.args.row c.self.invariant c.self.view_is c.deref.ensures.value c.look_through-seen.ensures.taken (sym c.deref.ensures.len) c.look_through-seen.ensures.owned in
    let rows = c.in_ok-insert.ensures.items ∙ ap (λ t. insert t.rows c.look_through-seen.result.place c.args.row) c.self.view_is
    ∙ insert_seen seen c.look_through-seen.result.place c.look_through-seen.ensures.place in
    (λ j. record { rule = (c.self.view_is j).rule; gap = (c.self.view_is j).gap; rows = rows j })
