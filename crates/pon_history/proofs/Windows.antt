-- The window of the closed form, with one more entry.
use Rattle.std.proofs.Common.{◌≡◌, ℕ, ◌-◌, ◌≤◌, Bool, false, List, [], ◌∷◌, ◌++◌, map, length, refl, ap, sym, subst, ◌∙◌, arith, ◌+◌, true, cond, ◌||◌, ◌&&◌, drop, append_assoc, add_assoc, add-zero}
use Rattle.std.specs.Prelude.{if◌then◌else◌, All, Option, ◌==◌, filter, min}
use Rattle.std.specs.List.{list_any}
use Rattle.std.proofs.lemmas.List.{drop_all}
use Rattle.std.proofs.lemmas.List.Elements.{All-weaker}
use Rattle.pon_lists.proofs.Lists.{any_eq-filter, append-nil, drop-append-le, drop-drop, drop-map, filter_agree, filter_same_in, length-append, length-drop, length-map, map-append, map-map, map_same, or-false, or_assoc, count_by-append}
use Rattle.pon_guar.specs.Reports.{later}
use Rattle.pon_guar.specs.Window.{AreConsecutive, IsLawfulMap, WindowMap, last_64, onus_polled}
use Rattle.pon_state.specs.State.{State}
use Rattle.pon_history.specs.Windows.{all_maps, maps_of, kept_from, map_made, new_map, window_of, with_reports, has_reported}
use Rattle.pon_history.specs.Parts.{forgets, is_report_for, next_of, roster_after, roster_of, allocs_after, allocs_of, cause_after, cause_of, frame_at_last}
use Rattle.pon_admit.specs.declared.event.Event.{Event}
use Rattle.pon_admit.specs.declared.event.Event.TheVariants.{Report, MakeMap, Fail, Restore}
use Rattle.pon_state.specs.Entry.{Entry}
use Rattle.std.proofs.lemmas.List.Folds.{list_any-append, map_fixed}
use Rattle.std.proofs.Math.Bool.{and-true}
use Rattle.pon_admit.specs.declared.row.Row.{Row}
use Rattle.pon_guar.specs.ReportChecks.{with_report}
use Rattle.pon_state.specs.After.{after_reply}
use Rattle.pon_state.specs.Maps.{makes_map}
use Rattle.pon_state.specs.declared.reply.Reply.{Reply}
use Rattle.pon_state.specs.LawfulStates.{IsLawfulState}
use Rattle.pon_history.specs.ClosedForm.{closed_form}
use Rattle.pon_guar.proofs.Frames.{leads_mapped, leads_push, from_is_end}

-- The parts of the closed form over a list that is split.

pub next_of-append : (first : ℕ) (xs ys : List Entry) → next_of first (xs ++ ys) ≡ next_of (next_of first xs) ys
next_of-append first xs ys = ap (λ n. first + n) (count_by-append (λ e. makes_map e.event) xs ys) ∙ sym (add_assoc first _ _)

pub next_of-cons : (first : ℕ) (x : Entry) (ys : List Entry) → next_of (next_of first (x ∷ [])) ys ≡ next_of first (x ∷ ys)
next_of-cons first x ys = sym (next_of-append first (x ∷ []) ys)

pub cause_of-append : (c : Option ℕ) (xs ys : List Entry) → cause_of c (xs ++ ys) ≡ cause_of (cause_of c xs) ys
cause_of-append c [] ys = refl
cause_of-append c (x ∷ xs) ys = cause_of-append (cause_after c x.event) xs ys

pub roster_of-append : (rs : List Row) (xs ys : List Entry) → roster_of rs (xs ++ ys) ≡ roster_of (roster_of rs xs) ys
roster_of-append rs [] ys = refl
roster_of-append rs (x ∷ xs) ys = roster_of-append (roster_after rs x.event) xs ys

-- the next frame at the last entry that passes the test
pub frame_at_last-append : (t : Entry → Bool) (s n : ℕ) (xs ys : List Entry) → frame_at_last t s n (xs ++ ys) ≡ frame_at_last t (frame_at_last t s n xs) (next_of n xs) ys
frame_at_last-append t s n [] ys = ap (λ k. frame_at_last t s k ys) (let e : n ≡ n + 0 = omega arith in e)
frame_at_last-append t s n (x ∷ xs) ys =
    frame_at_last-append t (if t x then n else s) (next_of n (x ∷ [])) xs ys
    ∙ ap (λ k. frame_at_last t (frame_at_last t s n (x ∷ xs)) k ys) (next_of-cons n x xs)

-- it is never above the last next frame
pub frame_at_last_below : (t : Entry → Bool) (s n : ℕ) (xs : List Entry) → s ≤ n → frame_at_last t s n xs ≤ next_of n xs
frame_at_last_below t s n [] h = omega arith
frame_at_last_below t s n (x ∷ xs) h = subst (λ k. frame_at_last t (if t x then n else s) (next_of n (x ∷ [])) xs ≤ k) (next_of-cons n x xs)
    (frame_at_last_below t (if t x then n else s) (next_of n (x ∷ [])) xs
    (elim (t x) as (λ c. (if c then n else s) ≤ next_of n (x ∷ [])) [ true ↦ omega arith | false ↦ omega arith ]))

pub allocs_of-append : (ids : List ℕ) (xs ys : List Entry) → allocs_of ids (xs ++ ys) ≡ allocs_of (allocs_of ids xs) ys
allocs_of-append ids [] ys = refl
allocs_of-append ids (x ∷ xs) ys = allocs_of-append (allocs_after ids x.event) xs ys

-- Maps.

-- reports of two lists, one after the other
with_reports-append : (xs ys : List Entry) (m : WindowMap) → with_reports ys (with_reports xs m) ≡ with_reports (xs ++ ys) m
with_reports-append xs ys m =
    let same : filter (has_reported ys (with_reports xs m)) (onus_polled m) ≡ filter (has_reported (xs ++ ys) m) (onus_polled m)
    = filter_same_in _ _ (onus_polled m) (λ u k. rw (any_eq-filter (has_reported xs m) u (onus_polled m), k, and-true (has_reported xs m u), list_any-append (λ e. is_report_for m.frame u e.event) xs ys, or_assoc)) in
    (λ i. record m { reported = same i })

-- a map that was just made has no reports
made_fresh : (rs : List Row) (n : ℕ) (e : Entry) → map (with_reports []) (map_made rs n e) ++ [] ≡ map_made rs n e
made_fresh rs n e = elim (makes_map e.event) as (λ b. map (with_reports []) (if b then new_map rs n e.reply ∷ [] else []) ++ [] ≡ (if b then new_map rs n e.reply ∷ [] else [])) [
  | true ↦ (λ i. record (new_map rs n e.reply) { reported = none (onus_polled (new_map rs n e.reply)) i } ∷ [])
  | false ↦ refl
]
  where
    none : (xs : List ℕ) → filter (λ u. false) xs ≡ []
    none [] = refl
    none (x ∷ xs) = none xs

-- maps with one more entry, before later ones that have it
joined : (ms : List WindowMap) (es : List Entry) (e : Entry) (later made last : List WindowMap) → later ≡ map (with_reports (e ∷ [])) made ++ last →
    map (with_reports (es ++ e ∷ [])) ms ++ later ≡ map (with_reports (e ∷ [])) (map (with_reports es) ms ++ made) ++ last
joined ms es e later made last is = rw (map-append (with_reports (e ∷ [])) (map (with_reports es) ms) made, append_assoc, map-map (with_reports (e ∷ [])) (with_reports es) ms)
    (λ i. map_same _ _ (λ m. sym (with_reports-append es (e ∷ []) m)) ms i ++ is i)

maps_push : (ms : List WindowMap) (rs : List Row) (n : ℕ) (es : List Entry) (e : Entry) → map (with_reports (es ++ e ∷ [])) ms ++ maps_of rs n (es ++ e ∷ [])
    ≡ map (with_reports (e ∷ [])) (map (with_reports es) ms ++ maps_of rs n es) ++ map_made (roster_of rs es) (next_of n es) e
maps_push ms rs n [] e = joined ms [] e _ [] _ (made_fresh rs n e ∙ ap (λ k. map_made rs k e) (let z : n ≡ n + 0 = omega arith in z))
maps_push ms rs n (x ∷ es) e = joined ms (x ∷ es) e _ (maps_of rs n (x ∷ es)) _ (maps_push (map_made rs n x) (roster_after rs x.event) (next_of n (x ∷ [])) es e
    ∙ ap (λ k. map (with_reports (e ∷ [])) (maps_of rs n (x ∷ es)) ++ map_made (roster_of rs (x ∷ es)) k e) (next_of-cons n x es))

pub all_maps_push : (o : State) (es : List Entry) (e : Entry) →
    all_maps o (es ++ e ∷ []) ≡ map (with_reports (e ∷ [])) (all_maps o es) ++ map_made (roster_of o.roster es) (next_of o.next es) e
all_maps_push o es e = maps_push o.window o.roster o.next es e

-- all maps are of consecutive frames
abbrev pub AllLead : State → List Entry → Type 0
AllLead o es = AreConsecutive (next_of o.next es) (all_maps o es)

pub leads_none : (o : State) → AreConsecutive o.next o.window → AllLead o []
leads_none o h = rw (append-nil, add-zero) (leads_mapped (with_reports []) (λ m. refl) o.next o.window h)

pub leads_next : (o : State) (es : List Entry) (e : Entry) → AllLead o es → AllLead o (es ++ e ∷ [])
leads_next o es e h =
    let next : ℕ = next_of o.next es in
    let new : WindowMap = new_map (roster_of o.roster es) next e.reply in
    let were : AreConsecutive next (map (with_reports (e ∷ [])) (all_maps o es)) = leads_mapped (with_reports (e ∷ [])) (λ m. refl) next (all_maps o es) h in
    rw (all_maps_push o es e, next_of-append o.next es (e ∷ []))
    (elim (makes_map e.event) as (λ b. AreConsecutive (next + (0 + cond b 1 0)) (map (with_reports (e ∷ [])) (all_maps o es) ++ (if b then new ∷ [] else []))) [
      | true ↦ leads_push next (map (with_reports (e ∷ [])) (all_maps o es)) new were refl
      | false ↦ rw (append-nil, add-zero) were
    ])

-- The window.

-- the window is the end of all maps: 64 of them, or those that no Fail or Restore has dropped
abbrev pub before_window : State → List Entry → ℕ
before_window o es = length (all_maps o es) - min 64 (next_of o.next es - kept_from o es)

pub window_is_end : (o : State) (es : List Entry) → AllLead o es → window_of o es ≡ drop (before_window o es) (all_maps o es)
window_is_end o es leads =
    let all : List WindowMap = all_maps o es in
    let early : ℕ = kept_from o es + length all - next_of o.next es in
    ap last_64 (from_is_end (next_of o.next es) (kept_from o es) all leads)
    ∙ drop-drop (length (drop early all) - 64) early all
    ∙ ap (λ k. drop k all) (omega (arith, length-drop early all, frame_at_last_below (λ e. forgets e.event) 0 o.next es (omega arith)))

-- entries without a report leave lawful maps unchanged
unreported : (es : List Entry) → ((frame u : ℕ) → list_any (λ e. is_report_for frame u e.event) es ≡ false) → (ms : List WindowMap) → All IsLawfulMap ms → map (with_reports es) ms ≡ ms
unreported es none ms l = map_fixed (with_reports es) ms (All-weaker IsLawfulMap (λ m. with_reports es m ≡ m) one ms l)
  where
    one : (m : WindowMap) → IsLawfulMap m → with_reports es m ≡ m
    one m l = (λ i. record m { reported = (filter_agree (has_reported es m) (λ u. list_any (λ v. v == u) m.reported) (λ u. rw (none m.frame u) (or-false _)) (onus_polled m) ∙ sym l.reported) i })

-- the window of no entries
pub window_none : (s : State) → IsLawfulState s → window_of s [] ≡ s.window
window_none s l =
    let same : all_maps s [] ≡ s.window = append-nil (map (with_reports []) s.window) ∙ unreported [] (λ frame u. refl) s.window l.maps in
    let none : before_window s [] ≡ 0 = omega (arith, ap length same, l.few_maps, fits s.next s.window l.frames) in
    window_is_end s [] (leads_none s l.frames) ∙ (λ i. drop (none i) (same i))
  where
    fits : (n : ℕ) (ms : List WindowMap) → AreConsecutive n ms → length ms ≤ n
    fits n [] h = omega arith
    fits n (m ∷ ms) h = omega (arith, h.0)

-- One more entry.
module _ (o : State) (es : List Entry) (leads : AllLead o es) (l : IsLawfulState (closed_form o es)) (reply : Reply) where
  abbrev added : Event → Entry
  added v = record { event = v; reply = reply }

  abbrev next : ℕ
  next = next_of o.next es

  abbrev made : Event → List WindowMap
  made v = map_made (roster_of o.roster es) next (added v)

  -- all maps before it, with its report
  abbrev told : Event → List WindowMap
  told v = map (with_reports (added v ∷ [])) (all_maps o es)

  window_next : (v : Event) → window_of o (es ++ added v ∷ []) ≡
      drop (length (told v ++ made v) - min 64 (next_of next (added v ∷ []) - (if forgets v then next else kept_from o es))) (told v ++ made v)
  window_next v =
      window_is_end o (es ++ added v ∷ []) (leads_next o es (added v) leads)
      ∙ (λ i. drop (length (all_maps_push o es (added v) i) - min 64 (next_of-append o.next es (added v ∷ []) i - frame_at_last-append (λ e. forgets e.event) 0 o.next es (added v ∷ []) i)) (all_maps_push o es (added v) i))

  -- without a map, one that drops nothing adds its report
  kept_maps : (v : Event) → forgets v ≡ false → makes_map v ≡ false → window_of o (es ++ added v ∷ []) ≡ map (with_reports (added v ∷ [])) (window_of o es)
  kept_maps v f m = window_next v
      ∙ rw (m, f, append-nil (told v), add-zero, length-map (all_maps o es) (with_reports (added v ∷ [])), drop-map) (ap (map (with_reports (added v ∷ []))) (sym (window_is_end o es leads)))

  -- a line failure and a restoration empty it
  cut : (v : Event) → forgets v ≡ true → makes_map v ≡ false → window_of o (es ++ added v ∷ []) ≡ []
  cut v f m = window_next v ∙ rw (m, f, add-zero) (drop_all (length (told v ++ []) - min 64 (next - next)) (told v ++ []) (omega arith))

  mapped : window_of o (es ++ added MakeMap ∷ []) ≡ last_64 (window_of o es ++ made MakeMap)
  mapped =
      let k : ℕ = before_window o es in
      let all : List WindowMap = told MakeMap ++ made MakeMap in
      let is : window_of o es ≡ drop k (told MakeMap)
      = sym (unreported (added MakeMap ∷ []) (λ frame u. refl) (window_of o es) l.maps) ∙ ap (map (with_reports (added MakeMap ∷ []))) (window_is_end o es leads) ∙ sym (drop-map (with_reports (added MakeMap ∷ [])) k (all_maps o es)) in
      let count : length (told MakeMap) ≡ length (all_maps o es) = length-map (all_maps o es) (with_reports (added MakeMap ∷ [])) in
      let front : window_of o es ++ made MakeMap ≡ drop k all = ap (λ t. t ++ made MakeMap) is ∙ sym (drop-append-le k (told MakeMap) (made MakeMap) (omega (arith, count))) in
      let place : k + (length (drop k all) - 64) ≡ length all - min 64 (next + 1 - kept_from o es)
      = omega (arith, length-drop k all, length-append (told MakeMap) (made MakeMap), count, frame_at_last_below (λ e. forgets e.event) 0 o.next es (omega arith)) in
      window_next MakeMap ∙ sym (ap last_64 front ∙ drop-drop (length (drop k all) - 64) k all ∙ ap (λ j. drop j all) place)

  -- the window of the closed form is that of the state after the entry
  pub window_push : (v : Event) → window_of o (es ++ added v ∷ []) ≡ (after_reply (closed_form o es) v reply).window
  window_push (Report frame onu occ) = kept_maps (Report frame onu occ) refl refl ∙ map_same _ (with_report frame onu) (λ m. (λ j. record m {
    reported = filter_agree (has_reported (added (Report frame onu occ) ∷ []) m) (λ v. list_any (λ w. w == v) m.reported || (frame == m.frame && onu == v)) (λ v. rw (or-false (frame == m.frame && onu == v))) (onus_polled m) j;
  })) (window_of o es)
  window_push MakeMap = mapped
  window_push (Fail cause) = cut (Fail cause) refl refl
  window_push Restore = cut Restore refl refl
  window_push v = kept_maps v refl refl ∙ unreported (added v ∷ []) (λ frame u. refl) (window_of o es) l.maps
