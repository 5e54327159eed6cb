-- What was sold over a chapter, entry by entry.
use Rattle.std.proofs.Common.{◌≡◌, ℕ, ◌+◌, ◌<◌, Bool, true, false, length, get_or, Option, ap, sym, ◌∙◌}
use Rattle.std.specs.Prelude.{if◌then◌else◌, slice_get, Some}
use Rattle.std.proofs.Math.Numerals.{add-one}
use Rattle.std.proofs.lemmas.Option.{slice_get-get_or}
use Rattle.pon_state.specs.State.{State}
use Rattle.pon_state.specs.Entry.{Entry}
use Rattle.pon_history.specs.Chapters.{Chapter, cut_at, state_before}
use Rattle.pon_history.specs.Taking.{IsKept}
use Rattle.pon_sold.specs.Chapters.{after_entry, after_reply, watch_over}
use Rattle.pon_sold.specs.declared.watch.Watch.{Watch}
use Rattle.pon_look.specs.Tallies.{WatchesEntry, WatchesIf}
use Rattle.pon_look.specs.declared.frame_range.FrameRange.{FrameRange}

-- an entry of a chapter, in the state before it
module _ (range : FrameRange) (c : Chapter) (k : ℕ) (e : Entry) (s : State) (lt : k < length c.entries) (here : e ≡ get_or c.entries k e) (kept : IsKept (cut_at c k) s) (old mid new : ℕ → Watch)
    (so_far : (i : ℕ) → mid i ≡ watch_over range.first range.last i c (old i) k) where
  one_more_sold : (i : ℕ) → watch_over range.first range.last i c (old i) (k + 1) ≡ after_reply range.first range.last i s e.event e.reply (watch_over range.first range.last i c (old i) k)
  one_more_sold i =
      let found : slice_get c.entries k ≡ Some e = slice_get-get_or c.entries k e lt ∙ ap Option.Some (sym here) in
      let before : state_before c k ≡ s = sym kept.replayed in
      rw add-one (λ j. after_entry range.first range.last i (before j) (found j) (watch_over range.first range.last i c (old i) k))

  pub with_sold : WatchesEntry range s e mid new → (i : ℕ) → new i ≡ watch_over range.first range.last i c (old i) (k + 1)
  with_sold adds i = adds i ∙ ap (after_reply range.first range.last i s e.event e.reply) (so_far i) ∙ sym (one_more_sold i)

  pub ended_sold : (added : Bool) → WatchesIf range s e mid new added → (i : ℕ) → new i ≡ watch_over range.first range.last i c (old i) (if added then k + 1 else k)
  ended_sold true told i = with_sold told i
  ended_sold false told i = told i ∙ so_far i
