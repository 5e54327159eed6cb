-- Each entry that may follow leaves a lawful state, and one that is in range.
use Rattle.std.proofs.Common.{map, ◌≡◌, ℕ, ◌-◌, ◌≤◌, false, List, [], ◌∷◌, ◌++◌, length, refl, ap, sym, subst, ◌∙◌, arith, ◌+◌, true, ◌<◌, not, get_or, ◌^◌, rules}
use Rattle.std.proofs.lemmas.List.{length-map}
use Rattle.pon_demand.proofs.Carries.{carry_within, carries_at}
use Rattle.pon_demand.specs.Carries.{number_of, AreCarries, carries_of}
use Rattle.std.specs.Prelude.{if◌then◌else◌, All, Option, Some, None, ◌==◌, nat_lt, IfSome}
use Rattle.std.proofs.lemmas.Bool.{leb-false}
use Rattle.std.proofs.lemmas.List.Elements.{All-map, All-nil, All-weaker, All-filter}
use Rattle.pon_lists.proofs.Lists.{length-map, map-map, sum_by-map, list_any-map, none_any}
use Rattle.pon_guar.specs.declared.account.Account.{Account}
use Rattle.pon_guar.specs.declared.account.Counted.{Counted}
use Rattle.pon_guar.specs.Loads.{afresh, fresh_account, lessened, with_account, without_account}
use Rattle.pon_guar.specs.Window.{grants_at, IsLawfulMap, WindowMap, words_among, words_to_from, IsWindow, with_map}
use Rattle.pon_state.specs.State.{State, carry_at, input_of}
use Rattle.pon_admit.specs.declared.event.Event.{Event}
use Rattle.pon_admit.specs.declared.event.Event.TheVariants.{Report, MakeMap, Fail, Restore, Admit, Change, Remove}
use Rattle.pon_state.specs.Entry.{Entry}
use Rattle.pon_admit.specs.declared.row.Row.{Row}
use Rattle.pon_guar.specs.ReportChecks.{with_report, refuses_report}
use Rattle.pon_state.specs.After.{after_reply, after_entry, admitted_carry, after_admit, after_change, after_cut, after_map, after_remove, after_report}
use Rattle.pon_state.specs.Maps.{grants_in_map}
use Rattle.pon_state.specs.declared.reply.Reply.{Reply}
use Rattle.pon_guar.proofs.Frames.{leads_mapped, leads_push, frame_there, leads_drop, leads_after, frame_within}
use Rattle.pon_units.specs.declared.granted.Granted.{Granted}
use Rattle.std.proofs.lemmas.List.Sums.{get_or-le-sum_by}
use Rattle.pon_units.specs.Granted.{AreInMapOrder}
use Rattle.pon_descr.proofs.Checks.{or_else_none, when_none}
use Rattle.pon_admit.specs.Roster.{has_alloc, max_allocs, max_carry, IsAdmitted, left_over, with_descriptor, with_row, without}
use Rattle.pon_admit.proofs.AdmittedSets.{passes, admit_keeps, change_keeps, has_alloc-changed, remove_keeps}
use Rattle.pon_guar.proofs.LessByGrants.{lessened_ids, if_less}
use Rattle.pon_state.specs.Checks.{at_limit, refuses, when_down}
use Rattle.pon_state.specs.Legal.{MayFollow, IsMade, IsReply}
use Rattle.pon_units.specs.declared.limits.TheConstants.{MAX_OCCUPANCY, FRAME_WORDS}
use Rattle.pon_lists.specs.Distinct.{distinct}
use Rattle.pon_burst.specs.Maps.{grant}
use Rattle.pon_demand.specs.Sharing.{surplus_rate}
use Rattle.pon_demand.proofs.RosterMaps.{granted_to_row, one_map, in_order}
use Rattle.pon_state.specs.declared.reply.Reply.TheVariants.{Taken, Map}
use Rattle.pon_state.specs.declared.reply.MadeMap.{MadeMap}
use Rattle.pon_state.specs.Ranges.{AreGrantsInRange, IsGrantInRange, IsStateInRange}
use Rattle.std.proofs.lemmas.Option.{IfSome_then}
use Rattle.pon_descr.specs.Descriptor.{Descriptor}
use Rattle.pon_descr.specs.declared.refusal.Refusal.TheVariants.{FrameLimit}
use Rattle.pon_admit.proofs.Rules.{left_over_range}
use Rattle.pon_guar.proofs.Books.{occupancies_ids}
use Rattle.pon_guar.proofs.Windows.{one_more, one_reported, All-with_map}
use Rattle.pon_demand.specs.Rates.{owed}
use Rattle.pon_state.specs.Accounts.{AccountsFor}
use Rattle.pon_state.specs.Carries.{carries_left}
use Rattle.pon_state.specs.Events.{IsEvent}
use Rattle.pon_state.proofs.LawfulAccounts.{accounts_reported, fresh_lawful, admission_keeps_owner, change_keeps_owner, with_rows, account_with_rows, distinct_own, account_mapped}
use Rattle.pon_lists.proofs.Inserted.{All-inserted}
use Rattle.pon_guar.proofs.AccountReports.{IsOccupancy, book_all, counted_all}
use Rattle.pon_state.proofs.BookIds.{ids_admitted, ids_removed, ids_same}
use Rattle.pon_state.proofs.KeptMaps.{planned}
use Rattle.pon_state.proofs.Replays.{checks_passed, if_failed}
use Rattle.pon_state.specs.LawfulStates.{AccountIsLawful, IsLawfulState, IsSilent, Owns}

-- One more entry.
module _ (s : State) (l : IsLawfulState s) (room : s.taken_before < 2 ^ 64 - 1) where
  -- an event that changes the roster leaves the window
  rows_lawful : (rows : List Row) (carries : List ℕ) (book : List Account) → IsAdmitted s.rule s.gap rows → AccountsFor rows book → AreCarries s.rule rows carries →
      All (AccountIsLawful (with_rows s rows carries book)) book → (All (λ a. a.counted ≡ None) s.book → All (λ a. a.counted ≡ None) book) → IsLawfulState (with_rows s rows carries book)
  rows_lawful rows carries book admitted ids range accounts silent =
      let failed : IfSome s.cause (λ cause. IsSilent (with_rows s rows carries book)) = IfSome_then s.cause l.failed (λ cause k. (k.0, silent k.1)) in
      search rules

  admit_lawful : (r : Row) → IsAdmitted s.rule s.gap (with_row r s.roster) → has_alloc r.alloc_id s.roster ≡ false → IsLawfulState (after_admit s r)
  admit_lawful r admitted free =
      let carries : List ℕ = carries_of (admitted_carry s r.alloc_id) (with_row r s.roster) in
      let book : List Account = with_account (fresh_account r.alloc_id s.next) s.book in
      rows_lawful (with_row r s.roster) carries book admitted (ids_admitted r s.roster s.next s.book free l.book)
      (carries_at s.rule (with_row r s.roster) (λ q. admitted_carry s r.alloc_id q.alloc_id) (λ q. small q.alloc_id))
      (All-inserted (AccountIsLawful (after_admit s r)) (λ b. nat_lt b.alloc_id r.alloc_id) (fresh_account r.alloc_id s.next) s.book (fresh_lawful (after_admit s r) r.alloc_id l.frames)
      (λ n d lt. account_with_rows s (with_row r s.roster) carries book (get_or s.book n d) (admission_keeps_owner r s.roster (get_or s.book n d).alloc_id (other n d lt)) (l.accounts n d lt)))
      (All-inserted (λ a. a.counted ≡ None) (λ b. nat_lt b.alloc_id r.alloc_id) (fresh_account r.alloc_id s.next) s.book refl)
    where
      small : (j : ℕ) → admitted_carry s r.alloc_id j ≤ max_carry s.rule
      small j = elim (r.alloc_id == j) as (λ b. (if b then 0 else number_of s.roster s.carries j) ≤ max_carry s.rule) [ true ↦ omega arith | false ↦ carry_within (max_carry s.rule) s.roster s.carries j l.carries.range ]

      other : All (λ a. (a.alloc_id == r.alloc_id) ≡ false) s.book
      other = none_any (λ a. a.alloc_id == r.alloc_id) s.book (sym (list_any-map (λ j. j == r.alloc_id) (λ a. a.alloc_id) s.book) ∙ l.book.1 r.alloc_id ∙ free)

  change_lawful : (i : ℕ) (d : Descriptor) → IsAdmitted s.rule s.gap (with_descriptor i d s.roster) → IsLawfulState (after_change s i d)
  change_lawful i d admitted =
      rows_lawful (with_descriptor i d s.roster) s.carries s.book admitted (l.book.0, λ j. l.book.1 j ∙ sym (has_alloc-changed i d j s.roster))
      (record { count = l.carries.count ∙ sym (length-map s.roster _); range = l.carries.range })
      (λ n e lt. account_with_rows s (with_descriptor i d s.roster) s.carries s.book (get_or s.book n e) (change_keeps_owner i d s.roster (get_or s.book n e).alloc_id) (l.accounts n e lt))
      (λ h. h)

  remove_lawful : (i : ℕ) → IsLawfulState (after_remove s i)
  remove_lawful i =
      let carries : List ℕ = carries_of (number_of s.roster s.carries) (without i s.roster) in
      let keeps = λ (j : ℕ) (Q : ℕ → Type 0). All-filter (λ r. not (r.alloc_id == i)) (λ r. r.alloc_id ≡ j → Q r.onu) s.roster in
      rows_lawful (without i s.roster) carries (without_account i s.book) (remove_keeps s.rule s.gap s.roster i l.admitted) (ids_removed i s.roster s.book l.book)
      (carries_at s.rule (without i s.roster) (carry_at s) (λ r. carry_within (max_carry s.rule) s.roster s.carries r.alloc_id l.carries.range))
      (All-filter (λ a. not (a.alloc_id == i)) (AccountIsLawful (after_remove s i)) s.book
      (λ n d lt. account_with_rows s (without i s.roster) carries (without_account i s.book) (get_or s.book n d) (keeps (get_or s.book n d).alloc_id) (l.accounts n d lt)))
      (All-filter (λ a. not (a.alloc_id == i)) (λ a. a.counted ≡ None) s.book)

  window_lawful : IsWindow s.window
  window_lawful = record { few_maps = l.few_maps; frames = leads_after s.next s.window l.frames; maps = l.maps }

  report_lawful : (f u : ℕ) (ns : List (Option ℕ)) → All IsOccupancy ns → when_down s.cause ≡ None → refuses_report s.window f u (length ns) ≡ None → IsLawfulState (after_report s f u ns)
  report_lawful f u ns range up accepted =
      let ids : AccountsFor s.roster (after_report s f u ns).book = ids_same s.roster s.book _ (occupancies_ids _ f (grants_at f u s.window) ns s.book) l.book in
      search (
        rules,
        accounts_reported s l f u ns (frame_within s.next f s.window l.frames (frame_there f u (length ns) s.window accepted)).0 range,
        leads_mapped (with_report f u) (λ m. refl) s.next s.window l.frames,
        one_reported s.window window_lawful f u,
        if_failed (IsSilent (after_report s f u ns)) s.cause up,
      )

  map_lawful : (made : MadeMap) → IsMade s made → when_down s.cause ≡ None → s.next < 2 ^ 64 - 1 → IsLawfulState (after_map s (grants_in_map s.roster made.map) (carries_left s (Map made)))
  map_lawful made m up last =
      let i = input_of s in
      let surplus = surplus_rate i made.cert in
      let gs : List Granted = grants_in_map s.roster made.map in
      let new : WindowMap = record { frame = s.next; grants = gs; reported = [] } in
      let own : All (λ g. Owns s.roster g.alloc_id g.onu) gs
      = subst (All (λ g. Owns s.roster g.alloc_id g.onu)) (planned s made m) (All-map (λ g. Owns s.roster g.alloc_id g.onu) (granted_to_row i surplus (carry_at s)) s.roster (distinct_own s.roster l.admitted.apart)) in
      let kept : IsWindow (with_map s.next gs s.window) = one_more s.window window_lawful s.next gs l.frames (subst AreInMapOrder (planned s made m) (in_order i surplus (carry_at s) s.roster l.admitted.in_map_order)) in
      let t : State = after_map s gs (carries_left s (Map made)) in
      search (
        rules,
        kept,
        ids_same s.roster s.book t.book (lessened_ids gs s.book) l.book,
        carries_at s.rule s.roster (λ r. left_over s.rule (owed i surplus (carry_at s) r)) (λ r. left_over_range s.rule (owed i surplus (carry_at s) r)),
        All-map (AccountIsLawful t) (lessened gs) s.book (λ n d lt. account_mapped s gs t.carries (get_or s.book n d) own (l.accounts n d lt)),
        leads_drop (s.next + 1) (length (s.window ++ new ∷ []) - 64) (s.window ++ new ∷ []) (leads_push s.next s.window new l.frames refl),
        if_failed (IsSilent t) s.cause up,
      )

  -- a line failure and a restoration leave no window and no reports
  cut_lawful : (cause : Option ℕ) → IsLawfulState (after_cut s cause)
  cut_lawful cause =
      let silent : IsSilent (after_cut s cause) = (refl, All-map (λ a. a.counted ≡ None) (afresh s.next) s.book (λ n d lt. refl)) in
      let failed : IfSome cause (λ _. IsSilent (after_cut s cause)) = elim cause as (λ c. IfSome c (λ _. IsSilent (after_cut s cause))) [ None ↦ tt | Some _ ↦ silent ] in
      search (
        rules,
        ids_same s.roster s.book (map (afresh s.next) s.book) (map-map (λ a. a.alloc_id) (afresh s.next) s.book) l.book,
        All-map (AccountIsLawful (after_cut s cause)) (afresh s.next) s.book (λ n d lt. fresh_lawful (after_cut s cause) (get_or s.book n d).alloc_id tt),
        All-nil IsLawfulMap,
      )

pub lawful_step : (kept : ℕ) (s : State) (e : Entry) → MayFollow kept s e → IsLawfulState s → IsLawfulState (after_entry s e)
lawful_step kept s e f l = one e.event e.reply f.event f.reply (checks_passed kept s e.event f.accepted).0
  where
    room : s.taken_before < 2 ^ 64 - 1
    room = (checks_passed kept s e.event f.accepted).2

    one : (v : Event) (r : Reply) → IsEvent v → IsReply s v r → refuses s v ≡ None → IsLawfulState (after_reply s v r)
    one (Admit row) r range reply h = admit_lawful s l room row (admit_keeps s.rule s.gap s.roster row h range l.admitted) (passes s.rule s.gap s.roster row h).free
    one (Change i d) r range reply h = change_lawful s l room i d (change_keeps s.rule s.gap s.roster i d h range.1 l.admitted)
    one (Remove i) r range reply h = remove_lawful s l room i
    one (Report frame u ns) r range reply h =
        let both : (when_down s.cause ≡ None) × (refuses_report s.window frame u (length ns) ≡ None) = or_else_none (when_down s.cause) (refuses_report s.window frame u (length ns)) h in
        report_lawful s l room frame u ns range.occupancies.range both.0 both.1
    one MakeMap Taken range reply h = absurd reply
    one MakeMap (Map made) range reply h =
        let both : (when_down s.cause ≡ None) × (at_limit s.next ≡ None) = or_else_none (when_down s.cause) (at_limit s.next) h in
        map_lawful s l room made reply both.0 (leb-false (2 ^ 64 - 1) s.next (when_none _ FrameLimit both.1))
    one (Fail cause) r range reply h = cut_lawful s l room (Some cause)
    one Restore r range reply h = cut_lawful s l room None

-- One more entry keeps the ranges.
abbrev IsSmall : Counted → Type 0
IsSmall c = c.words ≤ MAX_OCCUPANCY

abbrev IsSmallAccount : Account → Type 0
IsSmallAccount a = IfSome a.counted IsSmall

module _ (s : State) (k : IsLawfulState s) (h : IsStateInRange s) where
  made_in_range : (made : MadeMap) → IsMade s made → AreGrantsInRange (grants_in_map s.roster made.map)
  made_in_range made m =
      let i = input_of s in
      let grant_to = granted_to_row i (surplus_rate i made.cert) (carry_at s) in
      let one = one_map i made.cert (carry_at s) k.admitted m.certified (λ r. carry_within (max_carry s.rule) s.roster s.carries r.alloc_id k.carries.range) in
      subst AreGrantsInRange (planned s made m) (record {
        few = omega (arith, length-map s.roster grant_to, k.admitted.few_allocs, ap max_allocs h.rule);
        few_onus = omega (arith, ap (λ us. length (distinct us)) (map-map (λ g. g.onu) grant_to s.roster), k.admitted.few_onus);
        each = All-map IsGrantInRange grant_to s.roster (λ n d lt.
            let words : grant (grant_to (get_or s.roster n d)) ≤ FRAME_WORDS = omega (arith, get_or-le-sum_by (λ r. grant (grant_to r)) s.roster n d lt, sum_by-map grant grant_to s.roster, one.fitting) in
            search (rules, words, k.admitted.in_range n d lt));
      })

  pub range_step : (kept : ℕ) (v : Event) (r : Reply) → MayFollow kept s (record { event = v; reply = r }) → IsStateInRange (after_reply s v r)
  range_step kept (Admit row) r f = search (rules, All-inserted IsSmallAccount (λ b. nat_lt b.alloc_id row.alloc_id) (fresh_account row.alloc_id s.next) s.book tt h.reports)
  range_step kept (Change i d) r f = search rules
  range_step kept (Remove i) r f = search (rules, All-filter (λ a. not (a.alloc_id == i)) IsSmallAccount s.book h.reports)
  range_step kept (Report frame u ns) r f =
      let gs : List Granted = grants_at frame u s.window in
      let granted : ℕ → ℕ = λ i. words_to_from u i frame s.window in
      let reports : All IsSmallAccount (after_report s frame u ns).book
      = book_all IsSmallAccount granted frame gs ns s.book (λ a early known. counted_all IsSmall granted frame gs ns a known (λ k d l is n small. omega (arith, small)) f.event.occupancies.range) h.reports in
      search (rules, All-map (λ m. AreGrantsInRange m.grants) (with_report frame u) s.window h.maps)
  range_step kept MakeMap Taken f = absurd f.reply
  range_step kept MakeMap (Map made) f =
      let gs : List Granted = grants_in_map s.roster made.map in
      let fewer : All (λ a. IsSmallAccount (lessened gs a)) s.book
      = All-weaker IsSmallAccount (λ a. IsSmallAccount (lessened gs a)) (λ a. if_less IsSmall IsSmall (words_among a.alloc_id gs) a.counted (λ c small. omega (arith, small))) s.book h.reports in
      search (rules, All-map IsSmallAccount (lessened gs) s.book fewer, All-with_map (λ m. AreGrantsInRange m.grants) s.next gs s.window h.maps (made_in_range made f.reply))
  range_step kept (Fail cause) r f = record { rule = h.rule; cause = f.event; reports = All-map IsSmallAccount (afresh s.next) s.book (λ n d lt. tt); maps = All-nil _ }
  range_step kept Restore r f = record { rule = h.rule; cause = tt; reports = All-map IsSmallAccount (afresh s.next) s.book (λ n d lt. tt); maps = All-nil _ }
