-- The roster of a port: its admitted Alloc-IDs in map order, and the sets that are admitted.
use Rattle.std.specs.Prelude.{ℕ, ◌≡◌, ◌+◌, ◌-◌, ◌*◌, ◌%◌, ◌≤◌, Bool, true, false, not, ◌&&◌, ◌||◌, ◌==◌, nat_lt, nat_le, if◌then◌else◌, List, [], ◌∷◌, map, length, All, sum_by, count_by, Option}
use Rattle.std.specs.List.{list_any}
use Rattle.pon_units.specs.declared.limits.TheConstants.{FRAME_WORDS, MAX_ALLOC_ID, MAX_ONUS, MAX_ONU_ID, MAX_SERIES, MIN_ALLOC_ID, WORD_RATE}
pub use Rattle.pon_admit.specs.declared.row.Row.{Row}
pub use Rattle.pon_admit.specs.declared.rule.Rule.{Rule}
use Rattle.pon_admit.specs.declared.rule.Rule.TheVariants.{DropRemainders, CarryRemainders}
use Rattle.pon_lists.specs.Distinct.{distinct}
use Rattle.pon_lists.specs.Order.{IsInOrder, with_inserted, without_key}
use Rattle.pon_descr.specs.Checks.{when, first_refusal_of}
use Rattle.pon_descr.specs.Descriptor.{Descriptor, IsLawful, promised}
use Rattle.pon_descr.specs.declared.refusal.Refusal.{Refusal}
use Rattle.pon_descr.specs.declared.refusal.Refusal.TheVariants.{NoSuchAlloc, AllocTaken, TooManyAllocs, TooManyOnus, SeriesFull, Capacity}

-- the ONUs that own an Alloc-ID, each once
abbrev pub onus_of : List Row → List ℕ
onus_of rows = distinct (map (λ r. r.onu) rows)

abbrev pub has_alloc : ℕ → List Row → Bool
has_alloc i rows = list_any (λ r. r.alloc_id == i) rows

abbrev pub has_onu : ℕ → List Row → Bool
has_onu u rows = list_any (λ r. r.onu == u) rows

-- the number of Alloc-IDs that an ONU owns
abbrev pub owned : ℕ → List Row → ℕ
owned u rows = count_by (λ r. r.onu == u) rows

-- The overhead and the limit of Alloc-IDs of each rule.

-- the words of a frame that each Alloc-ID takes in addition to its payload
abbrev pub overhead_words : Rule → ℕ
overhead_words DropRemainders = 1
overhead_words CarryRemainders = 2

-- the maximum number of Alloc-IDs of a port
abbrev pub max_allocs : Rule → ℕ
max_allocs DropRemainders = 256
max_allocs CarryRemainders = 512

-- what is left of `n` kbit/s after whole words, and is carried to the next map
abbrev pub left_over : Rule → ℕ → ℕ
left_over DropRemainders n = 0
left_over CarryRemainders n = n % WORD_RATE

-- the greatest number of kbit/s that is carried
abbrev pub max_carry : Rule → ℕ
max_carry DropRemainders = 0
max_carry CarryRemainders = 255

-- the rule of a roster that is opened without naming a rule
abbrev pub rule_in_force : Rule
rule_in_force = CarryRemainders

-- a roster: its rule, the gap before each burst of its port, and its rows
pub record Roster : Type 0 where
  pub rule : Rule
  pub gap : ℕ
  pub rows : List Row

-- the words of a frame that gaps, headers, trailers and reports take, for n ONUs and m Alloc-IDs
abbrev pub overhead_of : Rule → ℕ → ℕ → ℕ → ℕ
overhead_of rule gap n m = (gap + 2) * n + overhead_words rule * m

abbrev pub overhead : Rule → ℕ → List Row → ℕ
overhead rule gap rows = overhead_of rule gap (length (onus_of rows)) (length rows)

-- the words of a frame that are left for payload
abbrev pub capacity : Rule → ℕ → List Row → ℕ
capacity rule gap rows = FRAME_WORDS - overhead rule gap rows

-- the sum of the promised rates
abbrev pub promised_sum : List Row → ℕ
promised_sum rows = sum_by (λ r. promised r.descriptor) rows

-- the overhead of n ONUs and m Alloc-IDs fits a frame, and s kbit/s fit the remaining words
abbrev pub sums_fit : Rule → ℕ → ℕ → ℕ → ℕ → Bool
sums_fit rule gap n m s = nat_le (overhead_of rule gap n m) FRAME_WORDS && nat_le s (WORD_RATE * (FRAME_WORDS - overhead_of rule gap n m))

-- the ONUs, the Alloc-IDs and the promised rates of the rows fit a frame
abbrev pub fits : Rule → ℕ → List Row → Bool
fits rule gap rows = sums_fit rule gap (length (onus_of rows)) (length rows) (promised_sum rows)

-- map order: ONUs in ascending order, and the Alloc-IDs of an ONU in ascending order
abbrev pub comes_before : Row → Row → Bool
comes_before r s = nat_lt r.onu s.onu || (r.onu == s.onu && nat_lt r.alloc_id s.alloc_id)

-- the rows with one row inserted at its place in map order
abbrev pub with_row : Row → List Row → List Row
with_row r rows = with_inserted (λ s. comes_before s r) r rows

abbrev pub with_descriptor : ℕ → Descriptor → List Row → List Row
with_descriptor i d rows = map (λ r. if r.alloc_id == i then record { onu = r.onu; alloc_id = r.alloc_id; descriptor = d } else r) rows

abbrev pub without : ℕ → List Row → List Row
without i rows = without_key (λ r. r.alloc_id) i rows

-- each row comes before all later ones
abbrev pub IsInMapOrder : List Row → Type 0
IsInMapOrder rows = IsInOrder (λ r s. comes_before r s ≡ true) rows

-- no Alloc-ID twice
abbrev pub IsDistinct : List Row → Type 0
IsDistinct [] = Unit {0}
IsDistinct (r ∷ rows) = (has_alloc r.alloc_id rows ≡ false) × IsDistinct rows

-- an ONU-ID, a managed Alloc-ID and a lawful descriptor
pub record IsInRange (r : Row) : Type 0 where
  pub onu : r.onu ≤ MAX_ONU_ID
  pub managed : MIN_ALLOC_ID ≤ r.alloc_id
  pub alloc_id : r.alloc_id ≤ MAX_ALLOC_ID
  pub descriptor : IsLawful r.descriptor

-- an admitted set
pub record IsAdmitted (rule : Rule) (gap : ℕ) (rows : List Row) : Type 0 where
  pub in_map_order : IsInMapOrder rows
  pub apart : IsDistinct rows
  pub in_range : All IsInRange rows
  pub few_allocs : length rows ≤ max_allocs rule
  pub few_onus : length (onus_of rows) ≤ MAX_ONUS
  pub short_series : (u : ℕ) → owned u rows ≤ MAX_SERIES
  pub fitting : fits rule gap rows ≡ true

-- The checks of a step of the roster, in order, and the first refusal.

abbrev pub admit_checks : Rule → ℕ → List Row → Row → List (Option Refusal)
admit_checks rule gap rows r =
    when (has_alloc r.alloc_id rows) AllocTaken
    ∷ when (nat_le (max_allocs rule) (length rows)) TooManyAllocs
    ∷ when (nat_le MAX_ONUS (length (onus_of rows)) && not (has_onu r.onu rows)) TooManyOnus
    ∷ when (nat_le MAX_SERIES (owned r.onu rows)) SeriesFull
    ∷ when (not (fits rule gap (with_row r rows))) Capacity
    ∷ []

abbrev pub change_checks : Rule → ℕ → List Row → ℕ → Descriptor → List (Option Refusal)
change_checks rule gap rows i d =
    when (not (has_alloc i rows)) NoSuchAlloc
    ∷ when (not (fits rule gap (with_descriptor i d rows))) Capacity
    ∷ []

abbrev pub refuses_admit : Rule → ℕ → List Row → Row → Option Refusal
refuses_admit rule gap rows r = first_refusal_of (admit_checks rule gap rows r)

abbrev pub refuses_change : Rule → ℕ → List Row → ℕ → Descriptor → Option Refusal
refuses_change rule gap rows i d = first_refusal_of (change_checks rule gap rows i d)

abbrev pub refuses_remove : List Row → ℕ → Option Refusal
refuses_remove rows i = when (not (has_alloc i rows)) NoSuchAlloc
