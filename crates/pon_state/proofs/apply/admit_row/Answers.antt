use Rattle.std.proofs.Common.{◌≡◌, ◌∙◌, ◌+◌, ap, false, rules, subst, sym, List, ℕ}
use Rattle.std.specs.Prelude.{◌==◌, None}
use Rattle.std.specs.List.{insert, list_any}
use Rattle.pon_admit.specs.Roster.{IsAdmitted, Roster, refuses_admit, with_row}
use Rattle.pon_admit.proofs.AdmittedSets.{passes}
use Rattle.pon_guar.specs.Book.{AreRising, alloc_ids}
use Rattle.pon_guar.specs.Loads.{after_admitted, after_removed}
use Rattle.pon_demand.specs.Carries.{AreCarries}
use Rattle.pon_demand.proofs.Carries.{carries_admitted}
use Rattle.pon_state.specs.After.{after_admit}
use Rattle.pon_state.proofs.CarryPlaces.{place_within}
use Rattle.pon_state.proofs.Undone.{undone}
use Rattle.pon_state.proofs.apply.admit_row.Goals as goal

pub insert_carry-requires-clause-within : goal.insert_carry-requires-clause-within
insert_carry-requires-clause-within c =
    let st = c.state.inside in
    let carries : AreCarries st.roster.rule st.roster.rows st.carries.items = subst (λ s. AreCarries s.rule s.roster s.carries) (sym c.state.view_is) c.requires.carries in
    rw c.reserve.ensures.items (place_within c.args.row.now st.roster.rows st.carries.items c.place_for-place.result carries.count c.place_for-place.ensures)

pub returns-then-is_err-2-clause-err : goal.returns-then-is_err-2-clause-err
returns-then-is_err-2-clause-err c =
    let state = c.state.inside in
    let alloc_id = c.args.row.now.alloc_id in
    let roster : c.take_row.new.self ≡ state.roster = search rules in
    let added : c.admitted.new.self ≡ after_admitted state.loads alloc_id state.next = search rules in
    let rising : AreRising (alloc_ids state.loads.accounts) = search rules in
    let free : list_any (λ j. j == alloc_id) (alloc_ids state.loads.accounts) ≡ false = subst (λ s. list_any (λ j. j == alloc_id) (alloc_ids s.book) ≡ false) (sym c.state.view_is) c.requires.free in
    let loads = c.removed.ensures ∙ ap (λ l. after_removed l alloc_id) added ∙ undone state.loads alloc_id state.next rising free in
    (λ j. record {
      rule = (roster j).rule;
      gap = (roster j).gap;
      profile = state.profile;
      next = state.next;
      cause = state.cause;
      taken_before = state.taken_before;
      roster = (roster j).rows;
      book = (loads j).accounts;
      carries = c.reserve.ensures.items j;
      window = (loads j).window;
    })
    ∙ c.state.view_is

pub returns-clause-ok : goal.returns-clause-ok
returns-clause-ok c =
    let st = c.state.inside in
    let row = c.args.row.now in
    let admitted : IsAdmitted st.roster.rule st.roster.gap st.roster.rows = subst (λ s. IsAdmitted s.rule s.gap s.roster) (sym c.state.view_is) c.requires.admitted in
    let own : refuses_admit st.roster.rule st.roster.gap st.roster.rows row ≡ None = subst (λ s. refuses_admit s.rule s.gap s.roster row ≡ None) (sym c.state.view_is) c.requires.accepted in
    let carries : AreCarries st.roster.rule st.roster.rows st.carries.items = subst (λ s. AreCarries s.rule s.roster s.carries) (sym c.state.view_is) c.requires.carries in
    let rows : Roster = record { rule = st.roster.rule; gap = st.roster.gap; rows = with_row row st.roster.rows } in
    let roster : c.take_row.new.self ≡ rows = search rules in
    let added : c.admitted.new.self ≡ after_admitted st.loads row.alloc_id st.next = search rules in
    let placed = c.insert_carry.ensures
    ∙ ap (λ (l : List ℕ). insert l c.place_for-place.result 0) c.reserve.ensures.items
    ∙ carries_admitted row st.roster.rows st.carries.items c.place_for-place.result admitted.in_map_order admitted.apart carries.count (passes st.roster.rule st.roster.gap st.roster.rows row own).free c.place_for-place.ensures in
    (λ j. record {
      rule = (roster j).rule;
      gap = (roster j).gap;
      profile = st.profile;
      next = st.next;
      cause = st.cause;
      taken_before = st.taken_before + 1;
      roster = (roster j).rows;
      book = (added j).accounts;
      carries = placed j;
      window = (added j).window;
    })
    ∙ ap (λ s. after_admit s row) c.state.view_is
