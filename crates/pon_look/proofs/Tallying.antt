-- The sums of a chapter, entry by entry.
use Rattle.std.proofs.Common.{◌≡◌, ℕ, ◌+◌, ◌<◌, Bool, true, false, length, get_or, Option, ap, sym, ◌∙◌}
use Rattle.std.specs.Prelude.{if◌then◌else◌, slice_get, Some}
use Rattle.std.proofs.Math.Numerals.{add-one}
use Rattle.std.proofs.lemmas.Option.{slice_get-get_or}
use Rattle.pon_state.specs.State.{State}
use Rattle.pon_state.specs.Entry.{Entry}
use Rattle.pon_history.specs.Chapters.{Chapter, cut_at, state_before}
use Rattle.pon_history.specs.Taking.{IsKept}
use Rattle.pon_why.specs.Sums.{plus}
use Rattle.pon_why.specs.declared.sums.Sums.{Sums}
use Rattle.pon_why.proofs.SumLaws.{plus_assoc}
use Rattle.pon_look.specs.Sums.{amounts_in_entry, amounts_in_reply, sums_of}
use Rattle.pon_look.specs.Tallies.{AddsEntry, AddsIf}
use Rattle.pon_look.specs.declared.frame_range.FrameRange.{FrameRange}

-- an entry of a chapter, in the state before it
module _ (range : FrameRange) (c : Chapter) (k : ℕ) (e : Entry) (s : State) (lt : k < length c.entries) (here : e ≡ get_or c.entries k e) (kept : IsKept (cut_at c k) s) (old mid new : ℕ → Sums)
    (so_far : (i : ℕ) → mid i ≡ plus (old i) (sums_of range i c k)) where
  one_more_entry : (i : ℕ) → sums_of range i c (k + 1) ≡ plus (sums_of range i c k) (amounts_in_reply range i s e.reply)
  one_more_entry i =
      let found : slice_get c.entries k ≡ Some e = slice_get-get_or c.entries k e lt ∙ ap Option.Some (sym here) in
      let before : state_before c k ≡ s = sym kept.replayed in
      rw add-one (λ j. plus (sums_of range i c k) (amounts_in_entry range i (before j) (found j)))

  pub with_entry : AddsEntry range s e mid new → (i : ℕ) → new i ≡ plus (old i) (sums_of range i c (k + 1))
  with_entry adds i =
      adds i ∙ ap (λ m. plus m (amounts_in_reply range i s e.reply)) (so_far i) ∙ plus_assoc (old i) (sums_of range i c k) (amounts_in_reply range i s e.reply)
      ∙ ap (plus (old i)) (sym (one_more_entry i))

  pub ended_with : (added : Bool) → AddsIf range s e mid new added → (i : ℕ) → new i ≡ plus (old i) (sums_of range i c (if added then k + 1 else k))
  ended_with true told i = with_entry told i
  ended_with false told i = told i ∙ so_far i
