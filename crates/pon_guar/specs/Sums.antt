-- Running sums beside the window: for each grant of a map the words that earlier maps granted to its Alloc-ID under its
-- ONU, counted from any map on, modulo 2^32. The words granted between two grants are the difference of their sums.
use Rattle.std.specs.Prelude.{ℕ, ◌≡◌, ◌≢◌, ◌≤◌, ◌+◌, ◌^◌, ◌%◌, ◌==◌, ◌&&◌, Bool, All, if◌then◌else◌, List, [], ◌∷◌, drop, map, length, sum_by, Option, Some, None, option_map}
use Rattle.std.specs.Option.{option_or}
use Rattle.pon_units.specs.declared.limits.TheConstants.{FRAME_WORDS}
use Rattle.pon_units.specs.Granted.{AreInMapOrder}
use Rattle.pon_guar.specs.Window.{Granted, IsWindow, WindowMap, words_to}

-- the grant is to an Alloc-ID under an ONU
abbrev pub is_to : ℕ → ℕ → Granted → Bool
is_to u i g = g.onu == u && g.alloc_id == i

-- the sum before the grant to an Alloc-ID under an ONU
abbrev pub sum_before : ℕ → ℕ → List Granted → List ℕ → Option ℕ
sum_before u i (g ∷ gs) (n ∷ ns) = if is_to u i g then Some n else sum_before u i gs ns
sum_before u i [] ns = None
sum_before u i (g ∷ gs) [] = None

-- the sum after the grant of a map
abbrev pub sum_after : ℕ → ℕ → WindowMap → List ℕ → Option ℕ
sum_after u i m ns = option_map (λ n. (n + words_to u i m) % 2 ^ 32) (sum_before u i m.grants ns)

-- the sum after the last grant
abbrev pub sum_now : ℕ → ℕ → List WindowMap → List (List ℕ) → Option ℕ
sum_now u i (m ∷ ms) (ns ∷ sums) = option_or (sum_now u i ms sums) (sum_after u i m ns)
sum_now u i [] sums = None
sum_now u i (m ∷ ms) [] = None

-- the map is in map order, and what its sums say of a grant is so of the last grant in all maps
pub record IsLast (ms : List WindowMap) (sums : List (List ℕ)) (m : WindowMap) (ns : List ℕ) : Type 0 where
  pub in_map_order : AreInMapOrder m.grants
  pub now : (u i n : ℕ) → sum_after u i m ns ≡ Some n → sum_now u i ms sums ≡ Some n

-- the sums of a map and of the maps after it determine the words granted from the map on
pub record AreSumsOf (m : WindowMap) (ms : List WindowMap) (ns : List ℕ) (sums : List (List ℕ)) : Type 0 where
  pub beside : length ns ≡ length m.grants
  pub small : All (λ g. g.words ≤ FRAME_WORDS) m.grants
  pub differ : (u i n : ℕ) → sum_before u i m.grants ns ≡ Some n → sum_now u i (m ∷ ms) (ns ∷ sums) ≡ Some ((n + sum_by (words_to u i) (m ∷ ms)) % 2 ^ 32)

abbrev pub AreSummed : List WindowMap → List (List ℕ) → Type 0
AreSummed (m ∷ ms) (ns ∷ sums) = AreSumsOf m ms ns sums × AreSummed ms sums
AreSummed [] sums = Unit {0}
AreSummed (m ∷ ms) [] = Unit {0}

-- the sums beside the grants of the next map
abbrev pub or_zero : Option ℕ → ℕ
or_zero None = 0
or_zero (Some n) = n

abbrev pub sums_beside : List WindowMap → List (List ℕ) → List Granted → List ℕ
sums_beside ms sums gs = map (λ g. or_zero (sum_now g.onu g.alloc_id ms sums)) gs

-- the invariant of a window that keeps maps which have left it before those that it has; if it has no sum beside each of
-- them, it keeps none that has left
pub record IsKeptWindow (past : ℕ) (maps : List WindowMap) (sums : List (List ℕ)) : Type 0 where
  pub within : past ≤ length maps
  pub window : IsWindow (drop past maps)
  pub summed : length sums ≡ length maps → AreSummed (drop past maps) (drop past sums)
  pub without : length sums ≢ length maps → past ≡ 0
