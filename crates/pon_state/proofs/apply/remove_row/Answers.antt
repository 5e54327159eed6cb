use Rattle.std.proofs.Common.{◌≡◌, ◌∙◌, ◌+◌, ap, subst, sym}
use Rattle.std.specs.Prelude.{None}
use Rattle.pon_admit.specs.Roster.{IsAdmitted, Roster, refuses_remove, without}
use Rattle.pon_guar.specs.Loads.{after_removed}
use Rattle.pon_demand.specs.Carries.{AreCarries}
use Rattle.pon_state.specs.After.{after_remove}
use Rattle.pon_state.proofs.CarryPlaces.{found_within, not_absent, removed_at}
use Rattle.pon_state.proofs.apply.remove_row.Goals as goal

pub unreachable-requires : goal.unreachable-requires
unreachable-requires c =
    let st = c.state.inside in
    not_absent c.args.alloc_id st.roster.rows (sym c.in-None.ensures) (subst (λ s. refuses_remove s.roster c.args.alloc_id ≡ None) (sym c.state.view_is) c.requires.accepted)

pub remove_carry-requires : goal.remove_carry-requires
remove_carry-requires c =
    let st = c.state.inside in
    let carries : AreCarries st.roster.rule st.roster.rows st.carries.items = subst (λ s. AreCarries s.rule s.roster s.carries) (sym c.state.view_is) c.requires.carries in
    found_within c.args.alloc_id c.in-Some.place st.roster.rows st.carries.items carries.count (sym c.in-Some.ensures)

pub returns : goal.returns
returns c =
    let st = c.state.inside in
    let i = c.args.alloc_id in
    let admitted : IsAdmitted st.roster.rule st.roster.gap st.roster.rows = subst (λ s. IsAdmitted s.rule s.gap s.roster) (sym c.state.view_is) c.requires.admitted in
    let carries : AreCarries st.roster.rule st.roster.rows st.carries.items = subst (λ s. AreCarries s.rule s.roster s.carries) (sym c.state.view_is) c.requires.carries in
    let rows : Roster = record { rule = st.roster.rule; gap = st.roster.gap; rows = without i st.roster.rows } in
    let roster : c.take_removal.new.self ≡ rows = c.take_removal.ensures in
    let loads : c.removed.new.self ≡ after_removed st.loads i = c.removed.ensures in
    let placed = c.remove_carry.ensures ∙ removed_at i c.in-Some.place st.roster.rows st.carries.items admitted.apart carries.count (sym c.in-Some.ensures) in
    (λ j. record {
      rule = (roster j).rule;
      gap = (roster j).gap;
      profile = st.profile;
      next = st.next;
      cause = st.cause;
      taken_before = st.taken_before + 1;
      roster = (roster j).rows;
      book = (loads j).accounts;
      carries = placed j;
      window = (loads j).window;
    })
    ∙ ap (λ s. after_remove s i) c.state.view_is
