-- Chapters that are passed to a sink over a ring are kept or counted.
use Rattle.std.proofs.Common.{◌≡◌, ℕ, suc, ◌+◌, ◌-◌, ◌^◌, ◌<◌, ◌≤◌, min, List, [], ◌∷◌, ◌++◌, length, inl, inr, ap, sym, ◌∙◌, arith, append_assoc, append-nil}
use Rattle.std.specs.Prelude.{All, Contains, Option, Some, None}
use Rattle.std.proofs.lemmas.List.Elements.{All-cons, All-nil, All-weaker, Contains-append_left, Contains-append_right, Contains-push}
use Rattle.pon_history.specs.Chapters.{Chapter}
use Rattle.pon_ring.specs.Passing.{AreKeptOrCounted, PassesAll}
use Rattle.pon_ring.specs.Sinks.{PassesOn, passed}
use Rattle.pon_ring.specs.declared.sink.Outlet.{Outlet}

-- a count that stays at its greatest value does not fall
min_same : (most a b : ℕ) → b ≡ a → min a most ≤ b
min_same most a b same = omega arith

min_after : (most a m b : ℕ) → min m most ≤ b → m ≡ a → min a most ≤ b
min_after most a m b later same = omega arith

min_more : (most a m b : ℕ) → min m most ≤ b → m ≡ min (a + 1) most → min a most ≤ b
min_more most a m b later more = omega arith

-- below the greatest value, one more is counted
one_more : (most a m b : ℕ) → min m most ≤ b → b < most → m ≡ min (a + 1) most → m ≡ a + 1
one_more most a m b later small more = omega arith

-- the count of dropped chapters is not at its greatest value
record IsSmall (b : Outlet) : Type 0 where
  small : b.dropped < 2 ^ 64 - 1

-- the count of dropped chapters did not fall, as far as it counts
record Rises (a b : Outlet) : Type 0 where
  far : min a.dropped (2 ^ 64 - 1) ≤ b.dropped

rises_after : (x : Chapter) (cs : List Chapter) (a : Outlet) (m : Option Outlet) (b : Outlet) → PassesOn (Some a) x m → PassesAll m cs (Some b)
    → ((n : Outlet) → PassesAll (Some n) cs (Some b) → Rises n b) → Rises a b
rises_after x cs a None b on all later = absurd on
rises_after x cs a (Some m) b (same, inl p) all later = record { far = min_after (2 ^ 64 - 1) a.dropped m.dropped b.dropped (later m all).far p.dropped }
rises_after x cs a (Some m) b (same, inr p) all later = record { far = min_more (2 ^ 64 - 1) a.dropped m.dropped b.dropped (later m all).far p.dropped }

rises_none : (a b : Outlet) → PassesAll (Some a) [] (Some b) → Rises a b
rises_none a b p = let same : b ≡ a = cc in record { far = min_same (2 ^ 64 - 1) a.dropped b.dropped (ap (λ (o : Outlet). o.dropped) same) }

rises : (cs : List Chapter) (a b : Outlet) → PassesAll (Some a) cs (Some b) → Rises a b
rises [] a b p = rises_none a b p
rises (x ∷ cs) a b p = rises_after x cs a p.0 b p.1 p.2 (λ n q. rises cs n b q)

among_more : (x : Chapter) (cs kept : List Chapter) → All (Contains cs) kept → All (Contains (x ∷ cs)) kept
among_more x cs kept h = All-weaker (Contains cs) (Contains (x ∷ cs)) (λ d c. Contains-append_right (x ∷ []) cs d c) kept h

among_first : (x : Chapter) (cs kept : List Chapter) → All (Contains cs) kept → All (Contains (x ∷ cs)) (x ∷ kept)
among_first x cs kept h =
    All-cons (Contains (x ∷ cs)) x kept (Contains-append_left (x ∷ []) cs x (Contains-push [] x)) (among_more x cs kept h)

count_kept : (a m b kept all : ℕ) → m ≡ a → b + kept ≡ m + all → b + suc kept ≡ a + suc all
count_kept a m b kept all same rest = omega arith

count_dropped : (a m b kept all : ℕ) → m ≡ a + 1 → b + kept ≡ m + all → b + kept ≡ a + suc all
count_dropped a m b kept all more rest = omega arith

-- the first chapter, and later ones
counted_after : (x : Chapter) (cs : List Chapter) (a : Outlet) (m : Option Outlet) (b : Outlet) → PassesOn (Some a) x m → PassesAll m cs (Some b) → IsSmall b
    → ((n : Outlet) → PassesAll (Some n) cs (Some b) → AreKeptOrCounted n cs b) → AreKeptOrCounted a (x ∷ cs) b
counted_after x cs a None b on all small later = absurd on
counted_after x cs a (Some m) b (same, inl p) all small later =
    let rest = later m all in record {
      kept = x ∷ rest.kept;
      passed = rest.passed ∙ ap (λ (t : List Chapter). t ++ rest.kept) p.passed ∙ append_assoc (passed a) (x ∷ []) rest.kept;
      among = among_first x cs rest.kept rest.among;
      counted = count_kept a.dropped m.dropped b.dropped (length rest.kept) (length cs) p.dropped rest.counted;
    }
counted_after x cs a (Some m) b (same, inr p) all small later =
    let rest = later m all in record {
      kept = rest.kept;
      passed = rest.passed ∙ ap (λ (t : List Chapter). t ++ rest.kept) p.passed;
      among = among_more x cs rest.kept rest.among;
      counted = count_dropped a.dropped m.dropped b.dropped (length rest.kept) (length cs)
          (one_more (2 ^ 64 - 1) a.dropped m.dropped b.dropped (rises cs m b all).far small.small p.dropped) rest.counted;
    }

counted_none : (a b : Outlet) → PassesAll (Some a) [] (Some b) → AreKeptOrCounted a [] b
counted_none a b p =
    let same : b ≡ a = cc in record {
      kept = [];
      passed = ap passed same ∙ sym (append-nil (passed a));
      among = All-nil (Contains []);
      counted = omega (arith, ap (λ (o : Outlet). o.dropped) same);
    }

counted_all : (cs : List Chapter) (a b : Outlet) → PassesAll (Some a) cs (Some b) → IsSmall b → AreKeptOrCounted a cs b
counted_all [] a b p small = counted_none a b p
counted_all (x ∷ cs) a b p small = counted_after x cs a p.0 b p.1 p.2 small (λ n q. counted_all cs n b q small)

pub kept_or_counted : (cs : List Chapter) (a b : Outlet) → PassesAll (Some a) cs (Some b) → b.dropped < 2 ^ 64 - 1 → AreKeptOrCounted a cs b
kept_or_counted cs a b p small = counted_all cs a b p (record { small = small })
