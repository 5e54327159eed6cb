-- Lawful accounts: reports, rows and maps, one after another.
use Rattle.std.proofs.Common.{map, ◌≡◌, ℕ, ◌≤◌, false, List, ◌++◌, ap, sym, subst, ◌∙◌, arith, true, ◌<◌, get_or, rules}
use Rattle.pon_demand.proofs.Carries.{number_at}
use Rattle.pon_demand.specs.Carries.{number_of}
use Rattle.std.specs.Prelude.{All, Contains, Option, option_to_list, ◌==◌, filter, IfSome}
use Rattle.std.proofs.lemmas.Bool.{eq-eqb}
use Rattle.std.proofs.lemmas.List.Elements.{All-map, All-weaker, Contains-get_or}
use Rattle.pon_lists.proofs.Lists.{All-unmap}
use Rattle.pon_guar.specs.declared.account.Account.{Account}
use Rattle.pon_guar.specs.Loads.{fresh_account, lessened}
use Rattle.pon_guar.specs.Reports.{later, latest}
use Rattle.pon_guar.specs.Window.{grants_at, AreConsecutive, WindowMap, words_among, words_to_from}
use Rattle.pon_state.specs.State.{State}
use Rattle.pon_admit.specs.declared.row.Row.{Row}
use Rattle.pon_guar.specs.ReportChecks.{with_report}
use Rattle.pon_state.specs.After.{after_map, after_report, with_parts}
use Rattle.pon_state.specs.LawfulStates.{IsLawfulState, AccountIsLawful, Owns, CountedIsLawful}
use Rattle.pon_guar.proofs.Frames.{leads_below, grants_of_one, one_of_frame, grants_at_all}
use Rattle.pon_units.specs.declared.granted.Granted.{Granted}
use Rattle.pon_guar.specs.AccountReports.{reports_of}
use Rattle.pon_admit.specs.Roster.{comes_before, with_descriptor, with_row, IsDistinct}
use Rattle.pon_admit.proofs.AdmittedSets.{changed, changed_alloc, changed_onu}
use Rattle.std.proofs.lemmas.Option.{IfSome_then}
use Rattle.pon_descr.specs.Descriptor.{Descriptor}
use Rattle.pon_lists.proofs.Inserted.{All-inserted}
use Rattle.pon_guar.proofs.Polls.{reported_now, reported_stays}
use Rattle.pon_guar.proofs.AccountReports.{IsOccupancy, book_all, counted_all}
use Rattle.pon_guar.proofs.Windows.{All-with_map}
use Rattle.pon_guar.proofs.LessByGrants.{if_less}

-- Accounts.

-- an account with no report, whose reports count from the next frame on
pub fresh_lawful : (s : State) (i : ℕ) → AreConsecutive s.next s.window → AccountIsLawful s (fresh_account i s.next)
fresh_lawful s i h = record {
  since = omega arith;
  counted = tt;
  owner = λ n d lt early. absurd (omega (arith, early, leads_below s.next s.window h n d lt));
}

-- if a map is of a frame, the owner of an Alloc-ID reported for it
abbrev HasReported : List Row → ℕ → ℕ → WindowMap → Type 0
HasReported rows i frame m = m.frame ≡ frame → All (λ r. r.alloc_id ≡ i → Contains m.reported r.onu) rows

-- if a map is of a frame from `since` on, it grants to an Alloc-ID under its own ONU
abbrev IsOwned : List Row → ℕ → ℕ → WindowMap → Type 0
IsOwned rows i since m = since ≤ m.frame → All (λ g. g.alloc_id ≡ i → Owns rows g.alloc_id g.onu) m.grants

-- an account stays lawful where its reports and its grants in the window do
account_stays : (s t : State) (a : Account) → s.next ≤ t.next → ((frame : ℕ) → frame < s.next → All (HasReported s.roster a.alloc_id frame) s.window → All (HasReported t.roster a.alloc_id frame) t.window) →
    (All (IsOwned s.roster a.alloc_id a.since) s.window → All (IsOwned t.roster a.alloc_id a.since) t.window) → AccountIsLawful s a → AccountIsLawful t a
account_stays s t a later reported owned l =
    let counted : IfSome a.counted (CountedIsLawful t a) = IfSome_then a.counted l.counted (λ c k. search (rules, reported c.frame k.not_late k.reported)) in
    search (rules, owned l.owner)

-- Other rows.

-- the owner of an Alloc-ID in some rows is its owner in others
abbrev pub KeepsOwner : List Row → List Row → ℕ → Type 1
KeepsOwner rows more i = (Q : ℕ → Type 0) → All (λ r. r.alloc_id ≡ i → Q r.onu) rows → All (λ r. r.alloc_id ≡ i → Q r.onu) more

pub admission_keeps_owner : (r : Row) (rows : List Row) (i : ℕ) → (i == r.alloc_id) ≡ false → KeepsOwner rows (with_row r rows) i
admission_keeps_owner r rows i other Q h =
    All-inserted (λ r. r.alloc_id ≡ i → Q r.onu) (λ q. comes_before q r) r rows (λ is. absurd (let t : true ≡ false = sym (eq-eqb i r.alloc_id (sym is)) ∙ other in cc)) h

pub change_keeps_owner : (j : ℕ) (d : Descriptor) (rows : List Row) (i : ℕ) → KeepsOwner rows (with_descriptor j d rows) i
change_keeps_owner j d rows i Q h = All-map (λ r. r.alloc_id ≡ i → Q r.onu) (changed j d) rows
    (All-weaker (λ r. r.alloc_id ≡ i → Q r.onu) (λ r. (changed j d r).alloc_id ≡ i → Q (changed j d r).onu) (λ r k is. subst Q (sym (changed_onu j d r)) (k (sym (changed_alloc j d r) ∙ is))) rows h)

-- with other rows, carries and accounts
abbrev pub with_rows : State → List Row → List ℕ → List Account → State
with_rows s rows carries book = with_parts s s.next s.cause rows carries (record { accounts = book; window = s.window })

-- an account is lawful with other rows in which its Alloc-ID has the same owner
pub account_with_rows : (s : State) (rows : List Row) (carries : List ℕ) (book : List Account) (a : Account) → KeepsOwner s.roster rows a.alloc_id → AccountIsLawful s a → AccountIsLawful (with_rows s rows carries book) a
account_with_rows s rows carries book a keeps =
    account_stays s (with_rows s rows carries book) a (omega arith) (λ frame early h n d lt is. keeps (Contains (get_or s.window n d).reported) (h n d lt is))
    (λ h n d lt early m e at of_it.
    let g : Granted = get_or (get_or s.window n d).grants m e in
    subst (λ i. Owns rows i g.onu) (sym of_it) (keeps (λ u. u ≡ g.onu) (subst (λ i. Owns s.roster i g.onu) of_it (h n d lt early m e at of_it))))

-- Reports.

-- The accounts after a report of an ONU for the map of a frame.
module _ (s : State) (l : IsLawfulState s) (f u : ℕ) (ns : List (Option ℕ)) where
  -- each account as it was is lawful
  account_noted : (a : Account) → AccountIsLawful s a → AccountIsLawful (after_report s f u ns) a
  account_noted a =
      account_stays s (after_report s f u ns) a (omega arith)
      (λ frame early h. All-map (HasReported s.roster a.alloc_id frame) (with_report f u) s.window (λ n d lt is m e at of_it. reported_stays f u (get_or s.window n d) (get_or s.roster m e).onu (l.maps n d lt) (h n d lt is m e at of_it)))
      (All-map (IsOwned s.roster a.alloc_id a.since) (with_report f u) s.window)

  -- and with its occupancies
  pub accounts_reported : f < s.next → All IsOccupancy ns → All (AccountIsLawful (after_report s f u ns)) (after_report s f u ns).book
  accounts_reported below range =
      book_all (AccountIsLawful t) (λ i. words_to_from u i f s.window) f gs ns s.book one (All-weaker (AccountIsLawful s) (AccountIsLawful t) account_noted s.book l.accounts)
    where
      t : State
      t = after_report s f u ns

      gs : List Granted
      gs = grants_at f u s.window

      after : Account → Account
      after a = record a { counted = latest (option_to_list a.counted ++ reports_of (λ i. words_to_from u i f s.window) f gs ns a.alloc_id) }

      one : (a : Account) → a.since ≤ f → AccountIsLawful t a → AccountIsLawful t (after a)
      one a early h =
          let owner : All (IsOwned s.roster a.alloc_id a.since) s.window = All-unmap (IsOwned s.roster a.alloc_id a.since) (with_report f u) s.window h.owner in
          let told : All (λ g. (g.alloc_id ≡ a.alloc_id → Owns s.roster g.alloc_id g.onu) × (g.onu ≡ u)) gs
          = grants_at_all (λ g. g.alloc_id ≡ a.alloc_id → Owns s.roster g.alloc_id g.onu) f u s.window (λ n d lt is. owner n d lt (omega (arith, early, is))) in
          let was : IfSome a.counted (CountedIsLawful t (after a)) = IfSome_then a.counted h.counted (λ c k. search rules) in
          let counted : IfSome (after a).counted (CountedIsLawful t (after a))
          = counted_all (CountedIsLawful t (after a)) (λ i. words_to_from u i f s.window) f gs ns a was (λ k d lt of_it n small. record {
            not_early = early;
            not_late = below;
            reported = All-map (HasReported s.roster a.alloc_id f) (with_report f u) s.window (λ m e within at r q there is.
                let own : Contains (filter (λ g. g.onu == u) (get_or s.window m e).grants) (get_or gs k d)
                = subst (λ own. Contains own (get_or gs k d)) (grants_of_one f u s.window (get_or s.window m e) (one_of_frame s.next f s.window l.frames m e within at)) (Contains-get_or gs k d lt) in
                subst (Contains (with_report f u (get_or s.window m e)).reported) (sym ((told k d lt).0 of_it r q there (is ∙ sym of_it) ∙ (told k d lt).1)) (reported_now f u (get_or s.window m e) (get_or gs k d) at own));
          }) range in
          search (rules, h)

-- each row's ONU owns its Alloc-ID
pub distinct_own : (rows : List Row) → IsDistinct rows → All (λ r. Owns rows r.alloc_id r.onu) rows
distinct_own rows apart n d lt m e within is =
    sym (number_at (λ r. r.onu) rows apart m e within) ∙ ap (number_of rows (map (λ r. r.onu) rows)) is ∙ number_at (λ r. r.onu) rows apart n d lt

-- an account is lawful after a map that grants to each Alloc-ID under its own ONU
pub account_mapped : (s : State) (gs : List Granted) (carries : List ℕ) (a : Account) → All (λ g. Owns s.roster g.alloc_id g.onu) gs → AccountIsLawful s a → AccountIsLawful (after_map s gs carries) (lessened gs a)
account_mapped s gs carries a own h =
    let t : State = after_map s gs carries in
    let k : AccountIsLawful t a
    = account_stays s t a (omega arith) (λ frame early h. All-with_map (HasReported s.roster a.alloc_id frame) s.next gs s.window h (λ is. absurd (omega (arith, is, early))))
    (λ h. All-with_map (IsOwned s.roster a.alloc_id a.since) s.next gs s.window h (λ late n d lt of_it. own n d lt)) h in
    let fewer : IfSome (lessened gs a).counted (CountedIsLawful t (lessened gs a)) = if_less (CountedIsLawful t a) (CountedIsLawful t (lessened gs a)) (words_among a.alloc_id gs) a.counted (λ c q. search rules) k.counted in
    search (rules, k)
