-- Reports that count.
use Rattle.std.specs.Prelude.{ℕ, ◌-◌, ◌==◌, nat_le, nat_lt, if◌then◌else◌, List, [], ◌∷◌, ◌++◌, map, Option, Some, None, option_to_list}
use Rattle.pon_guar.specs.Book.{Account, Counted}
use Rattle.pon_units.specs.declared.granted.Granted.{Granted}

-- the occupancies of an Alloc-ID among those of its ONU, without garbled ones
abbrev pub occupancies : ℕ → List Granted → List (Option ℕ) → List ℕ
occupancies i (g ∷ gs) (Some n ∷ ns) = if g.alloc_id == i then n ∷ occupancies i gs ns else occupancies i gs ns
occupancies i (g ∷ gs) (None ∷ ns) = occupancies i gs ns
occupancies i [] ns = []
occupancies i (g ∷ gs) [] = []

-- of two reports the one of the later frame, or the second if the frames are equal
abbrev pub later : Counted → Option Counted → Option Counted
later c None = Some c
later c (Some d) = if nat_lt d.frame c.frame then Some c else Some d

abbrev pub latest : List Counted → Option Counted
latest [] = None
latest (c ∷ cs) = later c (latest cs)

-- an account after a report of its Alloc-ID: it counts from since on, where no later one does
abbrev pub with_latest : Counted → Account → Account
with_latest c a = record { alloc_id = a.alloc_id; since = a.since; counted = latest (option_to_list a.counted ++ c ∷ []) }

abbrev pub taking : Counted → Account → Account
taking c a = if nat_le a.since c.frame then with_latest c a else a

-- accounts after an Alloc-ID's report
abbrev pub counting : ℕ → Counted → List Account → List Account
counting i c book = map (λ a. if a.alloc_id == i then taking c a else a) book

-- accounts after the occupancies of some grants, in order; `granted` are the words granted to each Alloc-ID from the frame on
abbrev pub after_occupancies : (ℕ → ℕ) → ℕ → List Granted → List (Option ℕ) → List Account → List Account
after_occupancies granted frame (g ∷ gs) (Some n ∷ ns) book =
    after_occupancies granted frame gs ns (counting g.alloc_id (record { frame = frame; words = n - granted g.alloc_id }) book)
after_occupancies granted frame (g ∷ gs) (None ∷ ns) book = after_occupancies granted frame gs ns book
after_occupancies granted frame [] ns book = book
after_occupancies granted frame (g ∷ gs) [] book = book
