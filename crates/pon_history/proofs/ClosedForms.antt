-- The replay of a legal history is its closed form.
use Rattle.pon_lists.proofs.Lists.{map-map, list_any-map, map_same, map_agree}
use Rattle.std.specs.Prelude.{Any, ◌==◌, Some, All, if◌then◌else◌}
use Rattle.std.proofs.lemmas.Bool.{eqb-true, and_parts, cases_Bool, eq-eqb}
use Rattle.std.proofs.lemmas.List.Elements.{All-map, All-nil}
use Rattle.std.proofs.lemmas.List.Folds.{Any-from_list_any, list_any-append, list_any_at}
use Rattle.pon_guar.proofs.Accounts.{found_each, no_account}
use Rattle.std.proofs.Common.{◌≡◌, ℕ, true, false, ◌||◌, List, [], ◌∷◌, map, refl, ap, sym, subst, ◌∙◌, inl, inr, ◌+◌, ◌<◌, not, ◌++◌, length, get_or, append_assoc, arith, add-zero, Bool}
use Rattle.std.specs.List.{list_any}
use Rattle.std.proofs.lemmas.List.{append-nil, length-append}
use Rattle.pon_admit.specs.Roster.{has_alloc, comes_before, left_over, max_carry}
use Rattle.pon_guar.specs.declared.account.Account.{Account}
use Rattle.pon_guar.specs.Book.{AreRising, account_of, alloc_ids, known_report, load_of, load_of_counted}
use Rattle.pon_state.specs.Entry.{Entry}
use Rattle.pon_state.specs.State.{State, carry_at, input_of}
use Rattle.pon_history.specs.Chapters.{Chapter, IsLawfulChapter, present_state}
use Rattle.pon_state.specs.LawfulStates.{IsLawfulState}
use Rattle.pon_history.specs.Parts.{allocs_of, admits, roster_after, roster_of, cause_after, next_of}
use Rattle.pon_history.specs.Reports.{account_after, counted_of}
use Rattle.pon_history.proofs.LawfulChapters.{present_lawful}
use Rattle.pon_state.proofs.LawfulStates.{lawful_step}
use Rattle.pon_admit.specs.declared.row.Row.{Row}
use Rattle.pon_admit.proofs.AdmittedSets.{changed, changed_alloc, has_alloc-changed}
use Rattle.pon_admit.proofs.Rules.{left_over_range, left_over_same, left_over_sum}
use Rattle.pon_demand.specs.Carries.{carries_of, number_of}
use Rattle.pon_demand.specs.Rates.{whole_rate}
use Rattle.pon_demand.specs.Sharing.{surplus_rate}
use Rattle.pon_demand.proofs.Carries.{carries_each, carry_known, carry_within, number_at}
use Rattle.pon_state.specs.After.{after_reply, after_entry}
use Rattle.pon_state.specs.Carries.{carries_left}
use Rattle.pon_state.specs.History.{replay}
use Rattle.pon_state.specs.Legal.{IsReply, MayFollow}
use Rattle.pon_state.specs.declared.reply.Reply.{Reply}
use Rattle.pon_state.specs.declared.reply.Reply.TheVariants.{Taken, Map}
use Rattle.pon_state.specs.declared.reply.MadeMap.{MadeMap}
use Rattle.pon_admit.specs.declared.event.Event.{Event}
use Rattle.pon_admit.specs.declared.event.Event.TheVariants.{Admit, Change, Remove, MakeMap}
use Rattle.pon_history.specs.Carries.{admits_now, carry_after, owed_of, rate_of_reply, sum_since}
use Rattle.pon_history.specs.ClosedForm.{closed_form}
use Rattle.pon_lists.proofs.Inserted.{list_any-inserted, any_without}
use Rattle.pon_history.proofs.Reports.{IsBelow, below_push, book_none, book_push}
use Rattle.pon_history.proofs.Windows.{roster_of-append, cause_of-append, next_of-append, AllLead, leads_next, leads_none, window_none, window_push}
use Rattle.pon_history.proofs.Legality.{along, later_one}
use Rattle.pon_state.proofs.Replays.{replay_push}

-- The Alloc-IDs of a roster.

-- an Alloc-ID that an event does not admit was admitted before
had_row : (i : ℕ) (v : Event) (rows : List Row) → admits i v ≡ false → has_alloc i (roster_after rows v) ≡ true → has_alloc i rows ≡ true
had_row i (Admit r) rows a h =
    sym (ap (λ b. b || has_alloc i rows) a) ∙ sym (list_any-inserted (λ q. q.alloc_id == i) (λ q. comes_before q r) r rows) ∙ h
had_row i (Change alloc_id descriptor) rows a h = sym (has_alloc-changed alloc_id descriptor i rows) ∙ h
had_row i (Remove alloc_id) rows a h = (and_parts (not (i == alloc_id)) (has_alloc i rows) (sym (any_without (λ r. r.alloc_id) alloc_id i rows) ∙ h)).1
had_row i v rows a h = h

row_has : (rows : List Row) (n : ℕ) (d : Row) → n < length rows → has_alloc (get_or rows n d).alloc_id rows ≡ true
row_has rows n d l = list_any_at (λ r. r.alloc_id == (get_or rows n d).alloc_id) rows n d l (eq-eqb (get_or rows n d).alloc_id (get_or rows n d).alloc_id refl)

-- Sums since the last admission.

-- a sum that begins with a number, which any admission drops, with one more entry
since_push : (f : List Entry → Entry → ℕ) (i start : ℕ) (done es : List Entry) (e : Entry) →
    (if list_any (admits_now i) (es ++ e ∷ []) then 0 else start) + sum_since f i done (es ++ e ∷ [])
    ≡ (if admits_now i e then 0 else (if list_any (admits_now i) es then 0 else start) + sum_since f i done es) + f (done ++ es) e
since_push f i start done [] e = rw append-nil (elim (admits_now i e) as (λ c. (if c || false then 0 else start) + (f done e + 0) ≡ (if c then 0 else start + 0) + f done e) [ true ↦ omega arith | false ↦ omega arith ])
since_push f i start done (x ∷ es) e =
    rw (since_push f i (f done x) (done ++ x ∷ []) es e, list_any-append, append_assoc done (x ∷ []) es)
    (more (list_any (admits_now i) (x ∷ es)) (admits_now i e) start ((if list_any (admits_now i) es then 0 else f done x) + sum_since f i (done ++ x ∷ []) es) (f (done ++ x ∷ es) e))
  where
    more : (b c : Bool) (start rest last : ℕ) → (if b || (c || false) then 0 else start) + ((if c then 0 else rest) + last) ≡ (if c then 0 else (if b then 0 else start) + rest) + last
    more b c start rest last = grind arith

-- what is owed after one more entry, and what words are granted
pub owed_push : (o : State) (es : List Entry) (e : Entry) (i : ℕ) →
    owed_of o (es ++ e ∷ []) i ≡ (if admits_now i e then 0 else owed_of o es i) + rate_of_reply (input_of (replay o es)) e.reply i
owed_push o es e i = since_push (λ before e. rate_of_reply (input_of (replay o before)) e.reply i) i (number_of o.roster o.carries i) [] es e

pub sum_since_push : (f : List Entry → Entry → ℕ) (i : ℕ) (es : List Entry) (e : Entry) → sum_since f i [] (es ++ e ∷ []) ≡ (if admits_now i e then 0 else sum_since f i [] es) + f es e
sum_since_push f i es e = rw (nothing, nothing) at (since_push f i 0 [] es e)
  where
    nothing : (b : Bool) (n : ℕ) → (if b then 0 else 0) + n ≡ n
    nothing b n = grind arith

-- One more entry.
module _ (o : State) (es : List Entry) (l : IsLawfulState (closed_form o es)) where
  abbrev rows : List Row
  rows = roster_of o.roster es

  abbrev carry : ℕ → ℕ
  carry = carry_after o es

  -- a rate is added to what was left before; an admission begins with nothing
  carry_push : (e : Entry) (i : ℕ) → carry_after o (es ++ e ∷ []) i ≡ left_over o.rule ((if admits_now i e then 0 else carry i) + rate_of_reply (input_of (replay o es)) e.reply i)
  carry_push e i =
      let rate : ℕ = rate_of_reply (input_of (replay o es)) e.reply i in
      rw (owed_push o es e i) (elim (admits_now i e) as (λ b. left_over o.rule ((if b then 0 else owed_of o es i) + rate) ≡ left_over o.rule ((if b then 0 else carry i) + rate)) [
        | true ↦ refl
        | false ↦ sym (left_over_sum o.rule (owed_of o es i) rate)
      ])

  -- an event without a map leaves the carries of the Alloc-IDs that it does not admit
  carries_taken : (v : Event) → carries_of (carry_after o (es ++ record { event = v; reply = Taken } ∷ [])) (roster_after rows v)
      ≡ carries_of (λ i. if admits i v then 0 else number_of rows (carries_of carry rows) i) (roster_after rows v)
  carries_taken v = map_agree (λ r. carry_after o (es ++ record { event = v; reply = Taken } ∷ []) r.alloc_id) (λ r. if admits r.alloc_id v then 0 else number_of rows (carries_of carry rows) r.alloc_id) (roster_after rows v)
      (λ n d lt. one (get_or (roster_after rows v) n d).alloc_id (row_has (roster_after rows v) n d lt))
    where
      one : (i : ℕ) → has_alloc i (roster_after rows v) ≡ true → carry_after o (es ++ record { event = v; reply = Taken } ∷ []) i ≡ (if admits i v then 0 else number_of rows (carries_of carry rows) i)
      one i h = carry_push (record { event = v; reply = Taken }) i ∙ rw add-zero (elim (cases_Bool (admits i v)) [
        | inl a ↦ rw a (left_over_same o.rule 0 (omega arith))
        | inr a ↦ rw a (left_over_same o.rule (carry i) (left_over_range o.rule (owed_of o es i)) ∙ sym (carry_known carry i rows (had_row i v rows a h)))
      ])

  still : carries_of (λ i. number_of rows (carries_of carry rows) i) rows ≡ carries_of carry rows
  still = carries_each rows (carries_of carry rows) l.admitted.apart l.carries.count

  -- a map leaves what its words leave
  carries_mapped : (made : MadeMap) → replay o es ≡ closed_form o es →
      carries_of (carry_after o (es ++ record { event = MakeMap; reply = Map made } ∷ [])) rows ≡ carries_left (closed_form o es) (Map made)
  carries_mapped made same =
      let s : State = closed_form o es in
      let rate : Row → ℕ = whole_rate (input_of s) (surplus_rate (input_of s) made.cert) in
      map_agree (λ r. carry_after o (es ++ record { event = MakeMap; reply = Map made } ∷ []) r.alloc_id) (λ r. left_over o.rule (carry_at s r + rate r)) rows (λ n d lt.
      let r : Row = get_or rows n d in
      carry_push (record { event = MakeMap; reply = Map made }) r.alloc_id
      ∙ (λ j. left_over o.rule (sym (carry_known carry r.alloc_id rows (row_has rows n d lt)) j + rate_of_reply (input_of (same j)) (Map made) r.alloc_id))
      ∙ ap (λ n. left_over o.rule (carry_at s r + n)) (number_at rate rows l.admitted.apart n d lt))

  -- the carries of the closed form are those of the state after the entry
  carries_push : replay o es ≡ closed_form o es → (v : Event) (reply : Reply) → IsReply (closed_form o es) v reply →
      carries_of (carry_after o (es ++ record { event = v; reply = reply } ∷ [])) (roster_of o.roster (es ++ record { event = v; reply = reply } ∷ [])) ≡ (after_reply (closed_form o es) v reply).carries
  carries_push same v reply m = ap (carries_of (carry_after o (es ++ record { event = v; reply = reply } ∷ []))) (roster_of-append o.roster es (record { event = v; reply = reply } ∷ [])) ∙ one v reply m
    where
      one : (v : Event) (reply : Reply) → IsReply (closed_form o es) v reply → carries_of (carry_after o (es ++ record { event = v; reply = reply } ∷ [])) (roster_after rows v) ≡ (after_reply (closed_form o es) v reply).carries
      one MakeMap (Map made) m = carries_mapped made same
      one MakeMap Taken m = absurd m
      one v (Map made) m = absurd (let t : Map made ≡ Taken = m in cc)
      one (Admit r) Taken m = carries_taken (Admit r)
      one (Remove alloc_id) Taken m = carries_taken (Remove alloc_id)
      one (Change alloc_id descriptor) Taken m = carries_taken (Change alloc_id descriptor)
          ∙ map-map (λ r. number_of rows (carries_of carry rows) r.alloc_id) (changed alloc_id descriptor) rows ∙ map_same _ _ (λ r. ap (number_of rows (carries_of carry rows)) (changed_alloc alloc_id descriptor r)) rows ∙ still
      one v Taken m = carries_taken v ∙ still

-- no entries leave the carries
carries_none : (s : State) → IsLawfulState s → carries_of (carry_after s []) s.roster ≡ s.carries
carries_none s l =
    map_same (λ r. carry_after s [] r.alloc_id) (λ r. number_of s.roster s.carries r.alloc_id)
    (λ r. rw add-zero (left_over_same s.rule (number_of s.roster s.carries r.alloc_id) (carry_within (max_carry s.rule) s.roster s.carries r.alloc_id l.carries.range))) s.roster
    ∙ carries_each s.roster s.carries l.admitted.apart l.carries.count

-- The closed form of no entries.
closed_none : (s : State) → IsLawfulState s → closed_form s [] ≡ s
closed_none s l =
    let next : s.next + 0 ≡ s.next = omega arith in
    let count : s.taken_before + 0 ≡ s.taken_before = omega arith in
    (λ i. record s { next = next i; taken_before = count i; book = book_none s l i; carries = carries_none s l i; window = window_none s l i })

-- what an entry does to the next frame, the cause and the roster
parts_after : (s : State) (v : Event) (reply : Reply) → ((after_reply s v reply).next ≡ next_of s.next (record { event = v; reply = reply } ∷ [])) × ((after_reply s v reply).cause ≡ cause_after s.cause v)
    × ((after_reply s v reply).roster ≡ roster_after s.roster v)
parts_after s MakeMap reply = (omega arith, refl, refl)
parts_after s v reply = (omega arith, refl, refl)

-- the closed form of one more entry
module _ (o : State) (es : List Entry) (kept : ℕ) (leads : AllLead o es) (below : All (IsBelow (next_of o.next es)) es)
    (l : IsLawfulState (closed_form o es)) (same : replay o es ≡ closed_form o es) where
  closed_push : (e : Entry) → MayFollow kept (closed_form o es) e → closed_form o (es ++ e ∷ []) ≡ after_entry (closed_form o es) e
  closed_push e m =
      let count : o.taken_before + length (es ++ e ∷ []) ≡ (o.taken_before + length es) + 1 = omega (arith, length-append es (e ∷ [])) in
      let later = later_one (closed_form o es) e.event e.reply in
      let parts = parts_after (closed_form o es) e.event e.reply in
      (λ j. record {
        rule = sym later.rule j;
        gap = sym later.gap j;
        profile = sym later.profile j;
        next = (next_of-append o.next es (e ∷ []) ∙ sym parts.0) j;
        cause = (cause_of-append o.cause es (e ∷ []) ∙ sym parts.1) j;
        taken_before = (count ∙ sym later.taken_before) j;
        roster = (roster_of-append o.roster es (e ∷ []) ∙ sym parts.2) j;
        book = book_push o es kept e leads below l m j;
        carries = carries_push o es l same e.event e.reply m.reply j;
        window = window_push o es leads l e.reply e.event j;
      })

-- what holds after each entry of a legal history
pub record Holds (o : State) (es : List Entry) : Type 0 where
  pub closed : replay o es ≡ closed_form o es
  pub lawful : IsLawfulState (replay o es)
  pub leads : AllLead o es
  pub below : All (IsBelow (next_of o.next es)) es

holds_none : (o : State) → IsLawfulState o → Holds o []
holds_none o l = record { closed = sym (closed_none o l); lawful = l; leads = leads_none o l.frames; below = All-nil (IsBelow (next_of o.next [])) }

holds_push : (o : State) (es : List Entry) (e : Entry) → Holds o es → MayFollow (length es) (replay o es) e → Holds o (es ++ e ∷ [])
holds_push o es e h m =
    let pushed : replay o (es ++ e ∷ []) ≡ after_entry (replay o es) e = replay_push o es e in
    let state : IsLawfulState (closed_form o es) = subst IsLawfulState h.closed h.lawful in
    let follows : MayFollow (length es) (closed_form o es) e = subst (λ s. MayFollow (length es) s e) h.closed m in
    record {
      closed = pushed ∙ ap (λ s. after_entry s e) h.closed ∙ sym (closed_push o es (length es) h.leads h.below state h.closed e follows);
      lawful = subst IsLawfulState (sym pushed) (lawful_step (length es) (replay o es) e m h.lawful);
      leads = leads_next o es e h.leads;
      below = below_push o es (length es) e h.leads h.below follows;
    }

-- a property that each entry of a lawful chapter keeps holds after all of them
pub of_chapter : (c : Chapter) → IsLawfulChapter c → (P : List Entry → Type 0) → P [] →
    ((es : List Entry) (e : Entry) → Holds c.opening es → MayFollow (length es) (replay c.opening es) e → P es → P (es ++ e ∷ [])) → Holds c.opening c.entries × P c.entries
of_chapter c l P none step = along c.number c.opening (λ es. Holds c.opening es × P es) (λ es e m p. (holds_push c.opening es e p.0 m, step es e p.0 m p.1))
    [] c.entries l.legal (holds_none c.opening l.opening.state, none)

pub closed_at_present : (c : Chapter) → IsLawfulChapter c → present_state c ≡ closed_form c.opening c.entries
closed_at_present c l = (of_chapter c l (λ es. Unit {0}) tt (λ es e h m p. tt)).0.closed

-- The loads of the present book are those of the reports that count in the history.

module _ (c : Chapter) (l : IsLawfulChapter c) where
  abbrev ids : List ℕ
  ids = allocs_of (alloc_ids c.opening.book) c.entries

  same : (present_state c).book ≡ map (account_after c.opening c.entries) ids
  same = ap (λ s. s.book) (closed_at_present c l)

  pub admitted_load : (i : ℕ) → has_alloc i (present_state c).roster ≡ true → load_of (present_state c).book i ≡ load_of_counted (counted_of c.opening c.entries i)
  admitted_load i h =
      let book : List Account = (present_state c).book in
      let found : Any (λ a. (a.alloc_id == i) ≡ true) book = Any-from_list_any (λ a. a.alloc_id == i) book (sym (list_any-map (λ j. j == i) (λ a. a.alloc_id) book) ∙ (present_lawful c l).book.1 i ∙ h) in
      let is : found.1.alloc_id ≡ i = eqb-true found.1.alloc_id i found.4 in
      let after : All (λ a. a ≡ account_after c.opening c.entries a.alloc_id) book = rw same (All-map (λ a. a ≡ account_after c.opening c.entries a.alloc_id) (account_after c.opening c.entries) ids (λ n d l. refl)) in
      let there : account_of book i ≡ Some found.1 = rw (found.3, is) at (found_each book (present_lawful c l).book.0 found.0 found.1 found.2) in
      ap (λ a. load_of_counted (known_report a)) there ∙ ap (λ a. load_of_counted a.counted) (rw (found.3, is) at (after found.0 found.1 found.2))

  pub other_load : (i : ℕ) → has_alloc i (present_state c).roster ≡ false → load_of (present_state c).book i ≡ 0
  other_load i h = ap (λ a. load_of_counted (known_report a)) (no_account (present_state c).book i ((present_lawful c l).book.1 i ∙ h))

  pub rising_accounts : AreRising (alloc_ids (present_state c).book)
  rising_accounts = (present_lawful c l).book.0
