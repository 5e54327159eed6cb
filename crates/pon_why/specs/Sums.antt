-- What maps add up to for an Alloc-ID.
use Rattle.std.specs.Prelude.{ℕ, ◌+◌, ◌-◌, ◌/◌, ◌==◌, nat_lt, Bool, if◌then◌else◌, List, [], ◌∷◌}
use Rattle.pon_units.specs.declared.limits.TheConstants.{WORD_RATE}
use Rattle.pon_bwmap.specs.Alloc.{Alloc}
use Rattle.pon_why.specs.declared.alloc_tallies.AllocTally.{AllocTally}
use Rattle.pon_why.specs.declared.rates.RowRates.{RowRates}
use Rattle.pon_why.specs.declared.sums.Sums.{Sums}

abbrev pub no_sums : Sums
no_sums = record { maps = 0; load = 0; guaranteed = 0; surplus = 0; granted = 0; below = 0 }

abbrev pub plus : Sums → Sums → Sums
plus a b = record {
  maps = a.maps + b.maps;
  load = a.load + b.load;
  guaranteed = a.guaranteed + b.guaranteed;
  surplus = a.surplus + b.surplus;
  granted = a.granted + b.granted;
  below = a.below + b.below;
}

-- One map.

-- the structure grants fewer payload words than the whole ones of the guaranteed rate
abbrev pub is_below : RowRates → Alloc → Bool
is_below x a = nat_lt (a.grant - 1) (x.guaranteed / WORD_RATE)

-- what a row and its structure add: rates in kbit/s, of the surplus rate the whole ones, and payload words
abbrev pub amounts_of : RowRates → Alloc → Sums
amounts_of x a = record {
  maps = 1;
  load = x.load;
  guaranteed = x.guaranteed;
  surplus = x.surplus.num / x.surplus.den;
  granted = a.grant - 1;
  below = if is_below x a then 1 else 0;
}

-- what the rows of an Alloc-ID and their structures add
abbrev pub amounts_in : ℕ → List RowRates → List Alloc → Sums
amounts_in i (x ∷ xs) (a ∷ more) = plus (if x.alloc_id == i then amounts_of x a else no_sums) (amounts_in i xs more)
amounts_in i (x ∷ xs) [] = no_sums
amounts_in i [] more = no_sums

-- Tallies of Alloc-IDs.

-- the sums of a tally, if it is of the Alloc-ID
abbrev pub sums_if : ℕ → AllocTally → Sums
sums_if i t = if t.alloc_id == i then t.sums else no_sums

-- the sums of an Alloc-ID in tallies
abbrev pub sums_in : ℕ → List AllocTally → Sums
sums_in i [] = no_sums
sums_in i (t ∷ ts) = plus (sums_if i t) (sums_in i ts)
