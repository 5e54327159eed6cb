-- The report book of the closed form, with one more entry.
use Rattle.std.proofs.Common.{zero-add, ◌≡◌, ℕ, ◌-◌, ◌≤◌, Bool, false, List, [], ◌∷◌, ◌++◌, map, length, refl, ap, sym, subst, ◌∙◌, arith, inl, inr, ◌+◌, true, ◌||◌, drop, append_assoc, ◌<◌, not, get_or}
use Rattle.std.specs.Prelude.{if◌then◌else◌, All, Contains, Option, Some, None, flat_map, option_to_list, ◌==◌, nat_le, filter, nat_lt, option_map, Any}
use Rattle.std.specs.List.{list_any}
use Rattle.std.proofs.lemmas.Bool.{le-leb, eq-eqb, ne_eqb, both_ways, cases_Bool, eqb-true, lt-leb, or_left, or_right}
use Rattle.std.proofs.lemmas.Bool.Decides.{leb_tells}
use Rattle.std.proofs.lemmas.List.{map-id}
use Rattle.std.proofs.lemmas.List.Elements.{All-append, All-cons, All-contains, All-contains_itself, All-head, All-map, All-nil, All-tail, All-weaker, All-filter, All-push}
use Rattle.pon_lists.proofs.Lists.{All-front, All-unmap, append-nil, map-append, map-map, map_same, filter-append, flat_map-append, flat_map-map, map_filter, sum_by-map, All-back, All-flat_map, All-from_flat_map, map_agree}
use Rattle.pon_guar.specs.declared.account.Account.{Account}
use Rattle.pon_guar.specs.declared.account.Counted.{Counted}
use Rattle.pon_guar.specs.Book.{account_of, counted_of_account, known_report, alloc_ids, since_of_account}
use Rattle.pon_guar.specs.Loads.{less, afresh, fresh_account, lessened}
use Rattle.pon_guar.specs.Reports.{latest, occupancies}
use Rattle.pon_guar.specs.Window.{grants_at, words_from, WindowMap, is_of, words_among, words_in, words_to_from}
use Rattle.pon_state.specs.State.{State}
use Rattle.pon_history.specs.Windows.{all_maps, maps_of, map_made, window_of, with_reports}
use Rattle.pon_history.specs.Parts.{begins, next_of, roster_of, allocs_after, allocs_of, frame_at_last}
use Rattle.pon_history.specs.Reports.{candidates, candidates_in, counted_of, opening_candidates, since_of, account_after, book_of}
use Rattle.pon_admit.specs.declared.event.Event.{Event}
use Rattle.pon_admit.specs.declared.event.Event.TheVariants.{Report, MakeMap, Fail, Restore, Admit, Change, Remove}
use Rattle.pon_state.specs.Entry.{Entry}
use Rattle.pon_history.specs.CountedReports.{Counts, IsReport}
use Rattle.std.proofs.lemmas.List.Folds.{list_any-append, list_any_at, Any-from_list_any}
use Rattle.pon_admit.specs.declared.row.Row.{Row}
use Rattle.pon_state.specs.After.{after_reply, after_entry}
use Rattle.pon_state.specs.Maps.{makes_map, grants_in_map, structures}
use Rattle.pon_state.specs.declared.reply.Reply.{Reply}
use Rattle.pon_state.specs.LawfulStates.{IsLawfulState, AccountIsLawful, Owns}
use Rattle.pon_history.specs.ClosedForm.{closed_form}
use Rattle.pon_guar.proofs.Frames.{frame_there, leads_drop, GrantSame, frame_within, grants_at_all, last_grant_same}
use Rattle.pon_history.specs.LastEntries.{before_last}
use Rattle.pon_guar.specs.AccountReports.{account_reported, reports_of}
use Rattle.std.proofs.lemmas.List.Sums.{sum_by-append}
use Rattle.pon_descr.proofs.Checks.{or_else_none}
use Rattle.pon_admit.specs.Roster.{has_alloc}
use Rattle.pon_admit.proofs.AdmittedSets.{passes}
use Rattle.pon_guar.proofs.Accounts.{accounts_all, found_each, listed}
use Rattle.pon_guar.proofs.LessByGrants.{less_none, less_twice}
use Rattle.pon_state.specs.Checks.{first_refusal, when_full}
use Rattle.pon_state.specs.Legal.{MayFollow}
use Rattle.pon_history.proofs.Windows.{next_of-append, next_of-cons, frame_at_last-append, allocs_of-append, all_maps_push, AllLead, before_window, window_is_end}
use Rattle.pon_guar.proofs.LatestReports.{IsLatest, latest-append, latest_is, latest_less, latest_lone}
use Rattle.pon_guar.proofs.AccountReports.{IsOccupancy, account_by_account, occupancies_all}
use Rattle.pon_guar.proofs.OwnWords.{words_agree}

-- The frame at the last entry of a kind.
pub at_the_last : (test : Entry → Bool) (start first : ℕ) (es : List Entry) →
    frame_at_last test start first es ≡ (if list_any test es then next_of first (before_last test es) else start)
at_the_last test start first [] = refl
at_the_last test start first (e ∷ es) = at_the_last test (if test e then first else start) (next_of first (e ∷ [])) es ∙ rest (test e) (list_any test es)
  where
    rest : (a b : Bool) → (if b then next_of (next_of first (e ∷ [])) (before_last test es) else (if a then first else start)) ≡ (if (a || b) then next_of first (if b then e ∷ before_last test es else []) else start)
    rest a b = grind (arith, next_of-cons first e (before_last test es))

-- The words that an entry's map grants to an Alloc-ID
abbrev granted_now : State → List Entry → Entry → ℕ → ℕ
granted_now o es e i = words_from i 0 (map_made (roster_of o.roster es) (next_of o.next es) e)

module _ (o : State) (es : List Entry) (e : Entry) (f : ℕ) where
  -- the words granted from a frame on, and the grants of an earlier frame
  words_push : (i : ℕ) → f ≤ next_of o.next es → words_from i f (all_maps o (es ++ e ∷ [])) ≡ words_from i f (all_maps o es) + granted_now o es e i
  words_push i l =
      let from : WindowMap → ℕ = λ m. if nat_le f m.frame then words_in i m else 0 in
      rw (all_maps_push o es e, sum_by-append from, sum_by-map from (with_reports (e ∷ []))) (ap (λ n. words_from i f (all_maps o es) + n)
      (elim (cases_Bool (makes_map e.event)) [ inl t ↦ rw (t, le-leb f (next_of o.next es) l, le-leb 0 (next_of o.next es) (omega arith)) refl | inr t ↦ rw t refl ]))

  grants_push : (u : ℕ) → f < next_of o.next es → grants_at f u (all_maps o (es ++ e ∷ [])) ≡ grants_at f u (all_maps o es)
  grants_push u l =
      let none : filter (λ m. m.frame == f) (map_made (roster_of o.roster es) (next_of o.next es) e) ≡ []
      = elim (cases_Bool (makes_map e.event)) [ inl t ↦ rw (t, ne_eqb (next_of o.next es) f (λ q. omega (arith, q, l))) refl | inr t ↦ rw t refl ] in
      rw (all_maps_push o es e, filter-append, none, append-nil, map_filter, flat_map-map) refl

-- Each report is of a frame below n.
abbrev pub EventBelow : ℕ → Event → Type 0
EventBelow n (Report frame onu occ) = frame < n
EventBelow n _ = Unit {0}

abbrev pub IsBelow : ℕ → Entry → Type 0
IsBelow n e = EventBelow n e.event

below_more : (n k : ℕ) (es : List Entry) (e : Entry) → n ≤ k → All (IsBelow n) es → IsBelow k e → All (IsBelow k) (es ++ e ∷ [])
below_more n k es e l b h = All-push (IsBelow k) es e (All-weaker (IsBelow n) (IsBelow k) (λ x. one x.event) es b) h
  where
    one : (v : Event) → EventBelow n v → EventBelow k v
    one (Report frame onu occ) b = omega (arith, b, l)
    one v b = tt

-- if reports count only from later frames on, there is no candidate
candidates_late : (n : ℕ) (ms : List WindowMap) (since i : ℕ) (es : List Entry) → n ≤ since → All (IsBelow n) es → flat_map (λ e. candidates_in ms since i e.event) es ≡ []
candidates_late n ms since i [] l b = refl
candidates_late n ms since i (e ∷ es) l b = (λ j. one e.event (All-head (IsBelow n) e es b) j ++ candidates_late n ms since i es l (All-tail (IsBelow n) e es b) j)
  where
    one : (v : Event) → EventBelow n v → candidates_in ms since i v ≡ []
    one (Report frame onu occ) b = rw (lt-leb since frame (omega (arith, b, l))) refl
    one v b = refl

-- An accepted report is of a frame of the window, and from it on all maps grant what the window grants.
module _ (o : State) (es : List Entry) (leads : AllLead o es) (kept f u : ℕ) (occ : List (Option ℕ)) (accepted : first_refusal kept (closed_form o es) (Report f u occ) ≡ None) where
  within : (f < next_of o.next es) × (next_of o.next es ≤ f + length (drop (before_window o es) (all_maps o es)))
  within = frame_within (next_of o.next es) f (drop (before_window o es) (all_maps o es)) (leads_drop (next_of o.next es) (before_window o es) (all_maps o es) leads)
      (ap (list_any (is_of f)) (sym (window_is_end o es leads)) ∙ frame_there f u (length occ) (window_of o es) (or_else_none _ _ (or_else_none _ (when_full kept (closed_form o es).taken_before) accepted).0).1)

  window_same : (reply : Reply) → GrantSame f (all_maps o (es ++ record { event = Report f u occ; reply = reply } ∷ [])) (window_of o es)
  window_same reply =
      let e : Entry = record { event = Report f u occ; reply = reply } in
      let last : GrantSame f (window_of o es) (all_maps o es)
      = subst (λ ms. GrantSame f ms (all_maps o es)) (sym (window_is_end o es leads)) (last_grant_same (next_of o.next es) f (before_window o es) (all_maps o es) leads within.1) in (
        λ i. omega (arith, last.0 i, words_push o es e f i (omega (arith, within.0))),
        λ u. grants_push o es e f u within.0 ∙ sym (last.1 u),
      )

-- The account of an Alloc-ID after one more entry.

module _ (o : State) (es : List Entry) (e : Entry) (below : All (IsBelow (next_of o.next es)) es) (i : ℕ) where
  abbrev all : List Entry
  all = es ++ e ∷ []

  abbrev found : List WindowMap → ℕ → List Entry → List Counted
  found ms since xs = flat_map (λ x. candidates_in ms since i x.event) xs

  -- an entry that begins an account moves its since-frame
  since_now : (b : Bool) → begins i e ≡ b → since_of o all i ≡ (if b then next_of o.next es else since_of o es i)
  since_now b h = frame_at_last-append (begins i) (since_of_account (account_of o.book i)) o.next es (e ∷ []) ∙ ap (λ b. if b then next_of o.next es else since_of o es i) h

  -- an admission, a line failure and a restoration drop the report
  begun : begins i e ≡ true → EventBelow (next_of o.next es) e.event → account_after o all i ≡ fresh_account i (next_of o.next es)
  begun b quiet =
      let opening : opening_candidates o all i ≡ [] = rw (list_any-append (begins i) es (e ∷ []) ∙ or_right (list_any (begins i) es) (begins i e || false) (or_left (begins i e) false b)) refl in
      let later : found (all_maps o all) (since_of o all i) all ≡ []
      = candidates_late (next_of o.next es) (all_maps o all) (since_of o all i) i all (omega (arith, since_now true b)) (below_more (next_of o.next es) (next_of o.next es) es e (omega arith) below quiet) in
      (λ j. record { alloc_id = i; since = since_now true b j; counted = latest (opening j ++ later j) })

  -- the words of its map, and its candidates
  abbrev w : ℕ
  w = granted_now o es e i

  abbrev heard : List Counted
  heard = candidates_in (all_maps o all) (since_of o es i) i e.event

  -- the candidates of the entries before it are lessened by these words
  lessened_before : (xs : List Entry) → All (IsBelow (next_of o.next es)) xs → found (all_maps o all) (since_of o es i) xs ≡ map (less w) (found (all_maps o es) (since_of o es i) xs)
  lessened_before [] b = refl
  lessened_before (x ∷ xs) b = (λ j. one x.event (All-head (IsBelow (next_of o.next es)) x xs b) j ++ lessened_before xs (All-tail (IsBelow (next_of o.next es)) x xs b) j)
      ∙ sym (map-append (less w) (candidates_in (all_maps o es) (since_of o es i) i x.event) _)
    where
      one : (v : Event) → EventBelow (next_of o.next es) v → candidates_in (all_maps o all) (since_of o es i) i v ≡ map (less w) (candidates_in (all_maps o es) (since_of o es i) i v)
      one (Report f u occ) l = elim (leb_tells (since_of o es i) f) [
        | inl t ↦ rw (t.0, words_push o es e f i (omega (arith, l)), grants_push o es e f u l) (less_twice (λ n. record { frame = f; words = n }) (words_from i f (all_maps o es)) w (occupancies i (grants_at f u (all_maps o es)) occ))
        | inr t ↦ rw t.0 refl
      ]
      one v l = refl

  -- otherwise the report is lessened by what a map grants, and counts unless a later one does
  continued : begins i e ≡ false → account_after o all i ≡ record { alloc_id = i; since = since_of o es i; counted = latest (option_to_list (option_map (less w) (counted_of o es i)) ++ heard) }
  continued b =
      let before : List Counted = found (all_maps o es) (since_of o es i) es in
      let opening : opening_candidates o all i ≡ map (less w) (opening_candidates o es i)
      = elim (cases_Bool (list_any (begins i) es)) [
        | inl t ↦ rw (list_any-append (begins i) es (e ∷ []), t) refl
        | inr t ↦ rw (list_any-append (begins i) es (e ∷ []), b, t, words_push (record o { window = [] }) es e 0 i (omega arith)) (less_twice (λ c. c) (words_from i 0 (maps_of o.roster o.next es)) w (counted_of_account (account_of o.book i)))
      ] in
      let later : found (all_maps o all) (since_of o all i) all ≡ map (less w) before ++ heard = rw (since_now false b, flat_map-append, lessened_before es below, append-nil) refl in
      let counted : counted_of o all i ≡ latest (option_to_list (option_map (less w) (counted_of o es i)) ++ heard)
      = rw (opening, later, ← append_assoc, ← map-append, latest-append, latest_less) refl in
      (λ j. record { alloc_id = i; since = since_now false b j; counted = counted j })

-- The words of an Alloc-ID that has one ONU.

-- the ONU of an admitted Alloc-ID
onu_there : (rows : List Row) (i : ℕ) → has_alloc i rows ≡ true → (v : ℕ) × ((w : ℕ) → Owns rows i w → w ≡ v)
onu_there rows i h =
    let found : Any (λ r. (r.alloc_id == i) ≡ true) rows = Any-from_list_any (λ r. r.alloc_id == i) rows h in
    (found.1.onu, λ w o. sym ((rw found.3 at (o found.0 found.1 found.2)) (eqb-true found.1.alloc_id i found.4)))

-- the words that reports are lessened by are all granted under the reporting ONU
told_under : (s : State) → IsLawfulState s → (a : Account) → AccountIsLawful s a → has_alloc a.alloc_id s.roster ≡ true → (f u : ℕ) (ns : List (Option ℕ)) → All IsOccupancy ns → a.since ≤ f →
    reports_of (λ i. words_from i f s.window) f (grants_at f u s.window) ns a.alloc_id ≡ reports_of (λ i. words_to_from u i f s.window) f (grants_at f u s.window) ns a.alloc_id
told_under s l a lawful admitted f u ns range early =
    let row : (v : ℕ) × ((w : ℕ) → Owns s.roster a.alloc_id w → w ≡ v) = onu_there s.roster a.alloc_id admitted in
    let own : All (λ m. f ≤ m.frame → All (λ g. g.alloc_id ≡ a.alloc_id → g.onu ≡ row.0) m.grants) s.window
    = (λ n d k late n' d' k' is. row.1 (get_or (get_or s.window n d).grants n' d').onu (subst (λ i. Owns s.roster i (get_or (get_or s.window n d).grants n' d').onu) is (lawful.owner n d k (omega (arith, early, late)) n' d' k' is))) in
    let at : All (λ g. (g.alloc_id ≡ a.alloc_id → g.onu ≡ row.0) × (g.onu ≡ u)) (grants_at f u s.window)
    = grants_at_all (λ g. g.alloc_id ≡ a.alloc_id → g.onu ≡ row.0) f u s.window (λ n d k is. own n d k (omega (arith, is))) in
    let left : ℕ → ℕ → Counted = λ w n. record { frame = f; words = n - w } in
    let v : ℕ = words_from a.alloc_id f s.window in
    let w : ℕ = words_to_from u a.alloc_id f s.window in
    map_agree (left v) (left w) (occupancies a.alloc_id (grants_at f u s.window) ns) (occupancies_all (λ n. left v n ≡ left w n) a.alloc_id (grants_at f u s.window) ns (λ n d k is m small.
    let same : All (λ m. f ≤ m.frame → All (λ g. g.alloc_id ≡ a.alloc_id → g.onu ≡ u) m.grants) s.window = rw (sym ((at n d k).0 is) ∙ (at n d k).1) at own in
    ap (λ w. left w m) (words_agree a.alloc_id u f s.window l.maps same)) range)

-- The report book.

-- the closed form without entries
pub book_none : (s : State) → IsLawfulState s → book_of s [] ≡ s.book
book_none s l = accounts_all (account_after s []) s.book (All-weaker (λ a. account_of s.book a.alloc_id ≡ Some a) (λ a. account_after s [] a.alloc_id ≡ a)
    (λ a e. rw e (λ j. record { alloc_id = a.alloc_id; since = a.since; counted = lone a.counted j })) s.book (found_each s.book l.book.0))
  where
    lone : (c : Option Counted) → latest (map (less 0) (option_to_list c) ++ []) ≡ c
    lone None = refl
    lone (Some c) = less_none (Some c)

-- an accepted report is of a frame of the window, so below the next one
pub below_push : (o : State) (es : List Entry) (kept : ℕ) (e : Entry) → AllLead o es → All (IsBelow (next_of o.next es)) es → MayFollow kept (closed_form o es) e → All (IsBelow (next_of o.next (es ++ e ∷ []))) (es ++ e ∷ [])
below_push o es kept e leads below m = below_more (next_of o.next es) (next_of o.next (es ++ e ∷ [])) es e later below (one e.event m.accepted)
  where
    later : next_of o.next es ≤ next_of o.next (es ++ e ∷ [])
    later = omega (arith, next_of-append o.next es (e ∷ []))

    one : (v : Event) → first_refusal kept (closed_form o es) v ≡ None → EventBelow (next_of o.next (es ++ e ∷ [])) v
    one (Report f u occ) h = omega (arith, later, (within o es leads kept f u occ h).0)
    one v h = tt

module _ (o : State) (es : List Entry) (kept : ℕ) (leads : AllLead o es) (below : All (IsBelow (next_of o.next es)) es) (lawful : IsLawfulState (closed_form o es)) (reply : Reply) where
  abbrev ids : List ℕ
  ids = allocs_of (alloc_ids o.book) es

  abbrev entry : Event → Entry
  entry v = record { event = v; reply = reply }

  -- the account of an Alloc-ID before and after the event
  abbrev was : ℕ → Account
  was i = account_after o es i

  abbrev now : Event → ℕ → Account
  now v i = account_after o (es ++ entry v ∷ []) i

  -- what an account of the book is known to be
  abbrev IsKnown : ℕ → Type 0
  IsKnown i = (has_alloc i (roster_of o.roster es) ≡ true) × AccountIsLawful (closed_form o es) (was i)

  known : All IsKnown ids
  known n d l = (
    sym (lawful.book.1 (get_or ids n d)) ∙ ap (list_any (λ j. j == get_or ids n d)) (map-map (λ a. a.alloc_id) was ids ∙ map-id ids)
        ∙ list_any_at (λ j. j == get_or ids n d) ids n d l (eq-eqb (get_or ids n d) (get_or ids n d) refl),
    All-unmap (AccountIsLawful (closed_form o es)) was ids lawful.accounts n d l,
  )

  -- accounts that pass a test of their Alloc-IDs, and all accounts
  chosen : (v : Event) (p : ℕ → Bool) → ((i : ℕ) → IsKnown i → now v i ≡ was i) → map (now v) (filter p ids) ≡ filter (λ a. p a.alloc_id) (map was ids)
  chosen v p h = map_agree (now v) was (filter p ids) (All-filter p (λ i. now v i ≡ was i) ids (All-weaker IsKnown (λ i. now v i ≡ was i) h ids known)) ∙ sym (map_filter was (λ a. p a.alloc_id) ids)

  changed : (v : Event) (f : Account → Account) → ((i : ℕ) → IsKnown i → now v i ≡ f (was i)) → map (now v) ids ≡ map f (map was ids)
  changed v f h = map_agree (now v) (λ i. f (was i)) ids (All-weaker IsKnown (λ i. now v i ≡ f (was i)) h ids known) ∙ sym (map-map f was ids)

  -- an account whose report neither is lessened nor meets a later one
  unmoved : (v : Event) (i : ℕ) → now v i ≡ record { alloc_id = i; since = since_of o es i; counted = latest (option_to_list (option_map (less 0) (counted_of o es i)) ++ []) } → now v i ≡ was i
  unmoved v i h = h ∙ (λ j. record (was i) { counted = (latest_lone (option_map (less 0) (counted_of o es i)) ∙ less_none (counted_of o es i)) j })

  -- a report counts, if it is of a frame not below the since-frame
  reported : (f u : ℕ) (occ : List (Option ℕ)) → MayFollow kept (closed_form o es) (entry (Report f u occ)) → (i : ℕ) → IsKnown i →
      now (Report f u occ) i ≡ account_reported (λ i. words_to_from u i f (window_of o es)) f (grants_at f u (window_of o es)) occ (was i)
  reported f u occ m i k =
      let same : GrantSame f (all_maps o (es ++ entry (Report f u occ) ∷ [])) (window_of o es) = window_same o es leads kept f u occ m.accepted reply in
      rw (continued o es (entry (Report f u occ)) below i refl, less_none (counted_of o es i)) (elim (leb_tells (since_of o es i) f) [
        | inl e ↦
            let told : reports_of (λ i. words_from i f (all_maps o (es ++ entry (Report f u occ) ∷ []))) f (grants_at f u (all_maps o (es ++ entry (Report f u occ) ∷ []))) occ i
            ≡ reports_of (λ i. words_to_from u i f (window_of o es)) f (grants_at f u (window_of o es)) occ i
            = (λ j. reports_of (λ _. same.0 i j) f (same.1 u j) occ i) ∙ told_under (closed_form o es) lawful (was i) k.1 k.0 f u occ m.event.occupancies.range e.1 in
            rw e.0 (λ j. record (was i) { counted = latest (option_to_list (counted_of o es i) ++ told j) })
        | inr e ↦ rw e.0 (λ j. record (was i) { counted = latest_lone (counted_of o es i) j })
      ])

  -- the accounts of the Alloc-IDs after an event are those of the state after it
  pushed : (v : Event) → MayFollow kept (closed_form o es) (entry v) → map (now v) (allocs_after ids v) ≡ (after_reply (closed_form o es) v reply).book
  pushed (Admit r) m =
      let v : Event = Admit r in
      let free : has_alloc r.alloc_id (roster_of o.roster es) ≡ false
      = (passes o.rule o.gap (roster_of o.roster es) r (or_else_none _ (when_full kept (closed_form o es).taken_before) m.accepted).0).free in
      let others : (i : ℕ) → IsKnown i → now v i ≡ was i
      = (λ i k. unmoved v i (continued o es (entry v) below i (ap (λ b. b || false)
      (ne_eqb r.alloc_id i (λ e. both_ways (has_alloc i (roster_of o.roster es)) (ap (λ i. has_alloc i (roster_of o.roster es)) (sym e) ∙ free) k.0))))) in
      map-append (now v) (filter (λ j. nat_lt j r.alloc_id) ids) (r.alloc_id ∷ filter (λ j. not (nat_lt j r.alloc_id)) ids)
      ∙ (λ j. chosen v (λ j. nat_lt j r.alloc_id) others j ++ begun o es (entry v) below r.alloc_id (ap (λ b. b || false) (eq-eqb r.alloc_id r.alloc_id refl)) tt j ∷ chosen v (λ j. not (nat_lt j r.alloc_id)) others j)
  pushed (Change alloc_id descriptor) m = map_same (now (Change alloc_id descriptor)) was (λ i. unmoved (Change alloc_id descriptor) i (continued o es (entry (Change alloc_id descriptor)) below i refl)) ids
  pushed (Remove alloc_id) m = chosen (Remove alloc_id) (λ j. not (j == alloc_id)) (λ i k. unmoved (Remove alloc_id) i (continued o es (entry (Remove alloc_id)) below i refl))
  pushed (Report f u occ) m =
      changed (Report f u occ) (account_reported (λ i. words_to_from u i f (window_of o es)) f (grants_at f u (window_of o es)) occ) (reported f u occ m)
      ∙ sym (account_by_account (λ i. words_to_from u i f (window_of o es)) f (grants_at f u (window_of o es)) occ (map was ids))
  pushed MakeMap m = changed MakeMap (lessened (grants_in_map (roster_of o.roster es) (structures reply))) (λ i k. continued o es (entry MakeMap) below i refl
      ∙ rw (le-leb 0 (next_of o.next es) (omega arith), zero-add) (λ j. record (was i) { counted = latest_lone (option_map (less (words_among i (grants_in_map (roster_of o.roster es) (structures reply)))) (counted_of o es i)) j }))
  pushed (Fail cause) m = changed (Fail cause) (afresh (next_of o.next es)) (λ i k. begun o es (entry (Fail cause)) below i refl tt)
  pushed Restore m = changed Restore (afresh (next_of o.next es)) (λ i k. begun o es (entry Restore) below i refl tt)

-- the report book after one more entry is that of the state after it
pub book_push : (o : State) (es : List Entry) (kept : ℕ) (e : Entry) → AllLead o es → All (IsBelow (next_of o.next es)) es → IsLawfulState (closed_form o es) → MayFollow kept (closed_form o es) e →
    book_of o (es ++ e ∷ []) ≡ (after_entry (closed_form o es) e).book
book_push o es kept e leads below lawful m =
    ap (map (account_after o (es ++ e ∷ []))) (allocs_of-append (alloc_ids o.book) es (e ∷ []))
    ∙ pushed o es kept leads below lawful e.reply e.event m

-- The counted report is an accepted one, and no accepted one is later.

-- Candidates are the accepted reports.
module _ (o : State) (es : List Entry) (i : ℕ) where
  -- the opening's report, less what the entries granted
  abbrev left_of : Counted → Counted
  left_of c = less (words_from i 0 (maps_of o.roster o.next es)) c

  -- an occupancy, less what was granted from its frame on
  abbrev less_granted : ℕ → ℕ → Counted
  less_granted frame n = record { frame = frame; words = n - words_from i frame (all_maps o es) }

  abbrev later_candidates : List Counted
  later_candidates = flat_map (λ e. candidates_in (all_maps o es) (since_of o es i) i e.event) es

  -- the candidates of the opening, of an entry, and all
  opening_accepted : (b : Bool) (q : Option Counted) → list_any (begins i) es ≡ b → known_report (account_of o.book i) ≡ q → All (IsReport o es i) (if b then [] else map left_of (option_to_list q))
  opening_accepted false (Some c) e k = All-cons (IsReport o es i) (left_of c) [] (inr (record { counted = c; known = k; kept = e; frame = refl; left = refl })) (All-nil (IsReport o es i))
  opening_accepted b q e k = All-nil (IsReport o es i)

  entry_accepted : (e : Entry) → Contains es e → (v : Event) → e.event ≡ v → All (IsReport o es i) (candidates_in (all_maps o es) (since_of o es i) i v)
  entry_accepted e there (Report frame onu occ) is =
      let occs : List ℕ = occupancies i (grants_at frame onu (all_maps o es)) occ in
      elim (leb_tells (since_of o es i) frame) [
        | inl t ↦ rw t.0 (All-map (IsReport o es i) (less_granted frame) occs (All-weaker (Contains occs) (λ n. IsReport o es i (less_granted frame n))
            (λ n own. inl (record { entry = e; onu = onu; occ = occ; reported = n; accepted = there; report = is; own = own; not_early = t.1; left = refl })) occs (All-contains_itself occs)))
        | inr t ↦ rw t.0 (All-nil (IsReport o es i))
      ]
  entry_accepted e there v is = All-nil (IsReport o es i)

  all_accepted : All (IsReport o es i) (candidates o es i)
  all_accepted = All-append (IsReport o es i) (opening_candidates o es i) later_candidates
      (subst (λ t. All (IsReport o es i) (if list_any (begins i) es then [] else map left_of t)) (listed (account_of o.book i)) (opening_accepted (list_any (begins i) es) (known_report (account_of o.book i)) refl refl))
      (All-flat_map (IsReport o es i) (λ e. candidates_in (all_maps o es) (since_of o es i) i e.event) es
      (All-weaker (Contains es) (λ e. All (IsReport o es i) (candidates_in (all_maps o es) (since_of o es i) i e.event)) (λ e there. entry_accepted e there e.event refl) es (All-contains_itself es)))

  -- what holds of all candidates holds of each accepted report
  accepted_all : (P : Counted → Type 0) → All P (candidates o es i) → (c : Counted) → IsReport o es i c → P c
  accepted_all P h c (inl r) =
      let entry : All P (candidates_in (all_maps o es) (since_of o es i) i (Report c.frame r.onu r.occ))
      = subst (λ v. All P (candidates_in (all_maps o es) (since_of o es i) i v)) r.report
      (All-contains (λ e. All P (candidates_in (all_maps o es) (since_of o es i) i e.event)) es r.entry (All-from_flat_map P (λ e. candidates_in (all_maps o es) (since_of o es i) i e.event) es (All-back P (opening_candidates o es i) later_candidates h)) r.accepted) in
      let told : All P (map (less_granted c.frame) (occupancies i (grants_at c.frame r.onu (all_maps o es)) r.occ))
      = subst (λ b. All P (if b then map (less_granted c.frame) (occupancies i (grants_at c.frame r.onu (all_maps o es)) r.occ) else [])) (le-leb (since_of o es i) c.frame r.not_early) entry in
      subst P (λ j. record { frame = c.frame; words = sym r.left j })
      (All-contains (λ n. P (less_granted c.frame n)) (occupancies i (grants_at c.frame r.onu (all_maps o es)) r.occ) r.reported (All-unmap P (less_granted c.frame) (occupancies i (grants_at c.frame r.onu (all_maps o es)) r.occ) told) r.own)
  accepted_all P h c (inr r) =
      subst P (λ j. record { frame = sym r.frame j; words = sym r.left j })
      (All-head P (left_of r.counted) []
      (subst (λ t. All P (map left_of t)) (sym (listed (account_of o.book i)) ∙ ap option_to_list r.known)
      (subst (λ b. All P (if b then [] else map left_of (counted_of_account (account_of o.book i)))) r.kept (All-front P (opening_candidates o es i) later_candidates h))))

  pub counts : (c : Counted) → counted_of o es i ≡ Some c → Counts o es i c
  counts c e =
      let is : IsReport o es i c × All (λ d. d.frame ≤ c.frame) (candidates o es i) = subst (λ q. IsLatest (IsReport o es i) q (candidates o es i)) e (latest_is (IsReport o es i) (candidates o es i) all_accepted) in
      record { accepted = is.0; last = accepted_all (λ d. d.frame ≤ c.frame) is.1 }

  pub none_counts : counted_of o es i ≡ None → (c : Counted) → IsReport o es i c → ⊥
  none_counts e = accepted_all (λ d. ⊥) (subst (λ q. IsLatest (IsReport o es i) q (candidates o es i)) e (latest_is (IsReport o es i) (candidates o es i) all_accepted))
