-- The map of a state grants the whole words of the guaranteed rates.
use Rattle.std.proofs.Common.{◌≡◌, ℕ, zero, suc, ◌+◌, ◌-◌, ◌/◌, Bool, true, false, List, [], ◌∷◌, map, refl, ap, ◌∙◌, arith}
use Rattle.std.specs.Prelude.{◌==◌, if◌then◌else◌, slice_get, Option, Some, None}
use Rattle.std.proofs.lemmas.Bool.{le-ltb}
use Rattle.pon_units.specs.declared.granted.Granted.{Granted}
use Rattle.pon_bwmap.specs.Alloc.{Alloc}
use Rattle.pon_burst.specs.Maps.{structure_of}
use Rattle.pon_admit.specs.declared.row.Row.{Row}
use Rattle.pon_cert.specs.declared.cert.MapCert.{MapCert}
use Rattle.pon_demand.specs.Rates.{guaranteed_rate, planned_grants}
use Rattle.pon_demand.specs.Sharing.{surplus_rate}
use Rattle.pon_demand.proofs.RosterMaps.{granted_to_row}
use Rattle.pon_state.specs.State.{State, carry_at, input_of}
use Rattle.pon_state.specs.Legal.{IsMade, IsReply}
use Rattle.pon_state.specs.Entry.{Entry}
use Rattle.pon_state.specs.declared.reply.Reply.{Reply}
use Rattle.pon_state.specs.declared.reply.Reply.TheVariants.{Taken, Map}
use Rattle.pon_admit.specs.declared.event.Event.{Event}
use Rattle.pon_admit.specs.declared.event.Event.TheVariants.{Admit, Change, Remove, Report, MakeMap, Fail, Restore}
use Rattle.pon_history.specs.Chapters.{Chapter, IsLawfulChapter, state_before}
use Rattle.pon_look.specs.declared.frame_range.FrameRange.{FrameRange}
use Rattle.pon_state.specs.declared.reply.MadeMap.{MadeMap}
use Rattle.pon_why.specs.Rates.{rates_of, row_rates}
use Rattle.pon_why.specs.Sums.{amounts_in, amounts_of, is_below, no_sums}
use Rattle.pon_look.specs.Sums.{amounts_in_entry, amounts_in_reply, is_within, sums_of}

module _ (s : State) (cert : MapCert) (gs : List Granted) (i : ℕ) where
  abbrev to_row : Row → Granted
  to_row = granted_to_row (input_of s) (surplus_rate (input_of s) cert) (carry_at s)

  abbrev structure : Granted → Alloc
  structure = structure_of s.gap s.profile gs

  not_below : (r : Row) → is_below (row_rates s cert r) (structure (to_row r)) ≡ false
  not_below r =
      let share : ℕ = (surplus_rate (input_of s) cert r).num / (surplus_rate (input_of s) cert r).den in
      let words : ℕ = (carry_at s r + (guaranteed_rate (input_of s) r + share)) / 256 in
      le-ltb (1 + words - 1) (guaranteed_rate (input_of s) r / 256) (omega arith)

  none_of_row : (r : Row) (b : Bool) → (if b then amounts_of (row_rates s cert r) (structure (to_row r)) else no_sums).below ≡ 0
  none_of_row r true = ap (λ t. if t then 1 else 0) (not_below r)
  none_of_row r false = refl

  none_of_rows : (rows : List Row) → (amounts_in i (map (row_rates s cert) rows) (map structure (map to_row rows))).below ≡ 0
  none_of_rows [] = refl
  none_of_rows (r ∷ rows) = (λ j. none_of_row r (r.alloc_id == i) j + none_of_rows rows j)

pub none_below : (s : State) (m : MadeMap) → IsMade s m → (i : ℕ) → (amounts_in i (rates_of s m.cert) m.map).below ≡ 0
none_below s m k i =
    ap (λ (more : List Alloc). (amounts_in i (rates_of s m.cert) more).below) k.map
    ∙ none_of_rows s m.cert (planned_grants (input_of s) (surplus_rate (input_of s) m.cert) (carry_at s)) i s.roster

-- Over the entries of a lawful chapter.

module _ (range : FrameRange) (i : ℕ) where
  none_of_map : (s : State) (m : MadeMap) → IsMade s m → (b : Bool) → (if b then amounts_in i (rates_of s m.cert) m.map else no_sums).below ≡ 0
  none_of_map s m k true = none_below s m k i
  none_of_map s m k false = refl

  none_of_other : (s : State) (r : Reply) → r ≡ Taken → (amounts_in_reply range i s r).below ≡ 0
  none_of_other s r e = ap (λ q. (amounts_in_reply range i s q).below) e

  none_of_reply : (s : State) (v : Event) (r : Reply) → IsReply s v r → (amounts_in_reply range i s r).below ≡ 0
  none_of_reply s MakeMap Taken h = absurd h
  none_of_reply s MakeMap (Map m) h = none_of_map s m h (is_within range m.frame)
  none_of_reply s (Admit row) r h = none_of_other s r h
  none_of_reply s (Change j d) r h = none_of_other s r h
  none_of_reply s (Remove j) r h = none_of_other s r h
  none_of_reply s (Report f u occ) r h = none_of_other s r h
  none_of_reply s (Fail cause) r h = none_of_other s r h
  none_of_reply s Restore r h = none_of_other s r h

  module _ (c : Chapter) (l : IsLawfulChapter c) where
    none_of_entry : (k : ℕ) (o : Option Entry) → slice_get c.entries k ≡ o → (amounts_in_entry range i (state_before c k) o).below ≡ 0
    none_of_entry k None h = refl
    none_of_entry k (Some e) h = none_of_reply (state_before c k) e.event e.reply (l.legal k e h).reply

    pub lawful_below : (n : ℕ) → (sums_of range i c n).below ≡ 0
    lawful_below zero = refl
    lawful_below (suc n) = (λ j. lawful_below n j + none_of_entry n (slice_get c.entries n) refl j)
