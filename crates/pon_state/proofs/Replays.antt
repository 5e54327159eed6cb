-- Replay and the checks of entries, entry by entry.
use Rattle.std.proofs.Common.{◌≡◌, ℕ, suc, ◌-◌, ◌<◌, ◌^◌, List, [], ◌∷◌, ◌++◌, refl, arith}
use Rattle.std.specs.Prelude.{IfSome, Option, Some, None, nat_le}
use Rattle.std.proofs.lemmas.Bool.{leb-false, lt-leb, or_parts}
use Rattle.pon_descr.specs.declared.refusal.Refusal.TheVariants.{ChapterFull}
use Rattle.pon_descr.proofs.Checks.{or_else_none, when_none}
use Rattle.pon_admit.specs.declared.event.Event.{Event}
use Rattle.pon_state.specs.declared.checks.TheConstants.{MAX_ENTRIES}
use Rattle.pon_state.specs.Entry.{Entry}
use Rattle.pon_state.specs.State.{State}
use Rattle.pon_state.specs.After.{after_entry}
use Rattle.pon_state.specs.Checks.{first_refusal, refuses, when_down, when_full}
use Rattle.pon_state.specs.History.{replay}
use Rattle.pon_state.specs.Legal.{MayFollow}

pub replay_append : (o : State) (xs ys : List Entry) → replay o (xs ++ ys) ≡ replay (replay o xs) ys
replay_append o [] ys = refl
replay_append o (e ∷ xs) ys = replay_append (after_entry o e) xs ys

-- the replay of one more entry
pub replay_push : (o : State) (es : List Entry) (e : Entry) → replay o (es ++ e ∷ []) ≡ after_entry (replay o es) e
replay_push o es e = replay_append o es (e ∷ [])

-- The checks of an entry.

-- an event that is taken passes its own checks, and leaves room in its chapter and in the count of entries
pub checks_passed : (kept : ℕ) (s : State) (v : Event) → first_refusal kept s v ≡ None → (refuses s v ≡ None) × (kept < MAX_ENTRIES) × (s.taken_before < 2 ^ 64 - 1)
checks_passed kept s v h =
    let both = or_else_none (refuses s v) (when_full kept s.taken_before) h in
    let room = or_parts (nat_le MAX_ENTRIES kept) (nat_le (2 ^ 64 - 1) s.taken_before) (when_none _ ChapterFull both.1) in
    (both.0, leb-false MAX_ENTRIES kept room.0, leb-false (2 ^ 64 - 1) s.taken_before room.1)

-- an entry that may follow after more kept entries may follow after fewer
pub follows_fewer : (kept : ℕ) (s : State) (e : Entry) → MayFollow (suc kept) s e → MayFollow kept s e
follows_fewer kept s e m =
    let passed = checks_passed (suc kept) s e.event m.accepted in
    record { event = m.event; accepted = rw (passed.0, lt-leb MAX_ENTRIES kept (omega (arith, passed.1)), lt-leb (2 ^ 64 - 1) s.taken_before passed.2) refl; reply = m.reply }

-- nothing is asked of a port that is not failed
pub if_failed : (P : Type 0) (cause : Option ℕ) → when_down cause ≡ None → IfSome cause (λ _. P)
if_failed P None up = tt
if_failed P (Some cause) up = absurd cc
