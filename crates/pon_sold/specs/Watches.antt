-- What was sold to an Alloc-ID over maps, and what it got of it. Rates in kbit/s, words of 256 kbit/s.
use Rattle.std.specs.Prelude.{ℕ, ◌≡◌, ◌+◌, ◌-◌, ◌*◌, ◌==◌, ◌&&◌, nat_lt, nat_le, min, max, Bool, true, false, if◌then◌else◌, List, ◌∷◌, get_or}
use Rattle.pon_units.specs.declared.limits.TheConstants.{WORD_RATE}
use Rattle.pon_bwmap.specs.Alloc.{Alloc}
use Rattle.pon_descr.specs.Descriptor.{promised}
use Rattle.pon_admit.specs.declared.row.Row.{Row}
use Rattle.pon_why.specs.declared.rates.RowRates.{RowRates}
use Rattle.pon_sold.specs.declared.head.Head.{Head}
use Rattle.pon_sold.specs.declared.watch.Sold.{Sold}
use Rattle.pon_sold.specs.declared.watch.Watch.{Watch}

-- no maps
abbrev pub none_sold : Sold
none_sold = record { rate = 0; words = 0; shortfall = 0; wait = 0; least = 0 }

abbrev pub no_head : Head
no_head = record { guaranteed = 0; words = 0; peak = 0; run = 0; is_open = true; is_waiting = true }

abbrev pub nothing : Watch
nothing = record { sold = none_sold; debt = 0; run = 0; head = no_head }

-- no run of maps goes on
abbrev pub stopped : Watch → Watch
stopped w = record { sold = w.sold; debt = 0; run = 0; head = w.head }

-- later maps are none of the first ones in a row
abbrev pub closed : Head → Head
closed h = record { guaranteed = h.guaranteed; words = h.words; peak = h.peak; run = h.run; is_open = false; is_waiting = false }

-- the run of maps ends, and the first maps in a row do
abbrev pub restarted : Watch → Watch
restarted w = record { sold = w.sold; debt = 0; run = 0; head = closed w.head }

-- the lesser of two rates, of which 0 is none
abbrev pub lesser : ℕ → ℕ → ℕ
lesser a b = if a == 0 then b else (if b == 0 then a else min a b)

-- One map.

-- the sold maps in a row that granted no word, after one with these words
abbrev pub run_after : ℕ → ℕ → ℕ
run_after words run = if words == 0 then run + 1 else 0

-- the first maps in a row, after one that is sold and grants these words
abbrev pub head_sold : ℕ → Head → Head
head_sold words h = record {
  guaranteed = h.guaranteed;
  words = h.words;
  peak = h.peak;
  run = if h.is_waiting && words == 0 then h.run + 1 else h.run;
  is_open = h.is_open;
  is_waiting = h.is_waiting && words == 0;
}

-- a map that is sold at a rate, and grants these words
abbrev pub after_sold : ℕ → ℕ → Watch → Watch
after_sold rate words w = record {
  sold = record {
    rate = w.sold.rate + rate;
    words = w.sold.words + words;
    shortfall = w.sold.shortfall;
    wait = max w.sold.wait (run_after words w.run + 1);
    least = lesser w.sold.least rate;
  };
  debt = w.debt;
  run = run_after words w.run;
  head = head_sold words w.head;
}

-- one that is not sold ends the wait for a word
abbrev pub head_other : Head → Head
head_other h = record { guaranteed = h.guaranteed; words = h.words; peak = h.peak; run = h.run; is_open = h.is_open; is_waiting = false }

abbrev pub after_other : Watch → Watch
after_other w = record { sold = w.sold; debt = w.debt; run = 0; head = head_other w.head }

-- by how much the guaranteed rates of the maps up to now are above their words, over the run of maps in which it is most
abbrev pub debt_after : ℕ → ℕ → ℕ → ℕ
debt_after guaranteed words debt = debt + guaranteed - WORD_RATE * words

-- the first maps in a row, after one with a guaranteed rate, and these words
abbrev pub head_more : ℕ → ℕ → Head → Head
head_more guaranteed words h = record {
  guaranteed = h.guaranteed + guaranteed;
  words = h.words + words;
  peak = max h.peak (h.guaranteed + guaranteed - WORD_RATE * (h.words + words));
  run = h.run;
  is_open = h.is_open;
  is_waiting = h.is_waiting;
}

abbrev pub head_owed : ℕ → ℕ → Head → Head
head_owed guaranteed words h = if h.is_open then head_more guaranteed words h else h

abbrev pub with_debt : ℕ → Head → Watch → Watch
with_debt debt head w = record {
  sold = record { rate = w.sold.rate; words = w.sold.words; shortfall = max w.sold.shortfall debt; wait = w.sold.wait; least = w.sold.least };
  debt = debt;
  run = w.run;
  head = head;
}

-- a map with a guaranteed rate, and these words
abbrev pub after_owed : ℕ → ℕ → Watch → Watch
after_owed guaranteed words w = with_debt (debt_after guaranteed words w.debt) (head_owed guaranteed words w.head) w

-- something is sold, and at least that is reported
abbrev pub is_sold : ℕ → ℕ → Bool
is_sold rate load = nat_lt 0 rate && nat_le rate load

abbrev pub after_rates : ℕ → ℕ → ℕ → ℕ → Watch → Watch
after_rates rate load guaranteed words w =
    if is_sold rate load then after_sold rate words (after_owed guaranteed words w) else after_other (after_owed guaranteed words w)

-- the map of a row: its rates, and its structure
abbrev pub after_row : Row → RowRates → Alloc → Watch → Watch
after_row r x a w = after_rates (promised r.descriptor) x.load x.guaranteed (a.grant - 1) w

-- the rows of an Alloc-ID in a map
abbrev pub after_rows : ℕ → List Row → List RowRates → List Alloc → Watch → Watch
after_rows i (r ∷ rows) (x ∷ xs) (a ∷ more) w = after_rows i rows xs more (if r.alloc_id == i then after_row r x a w else w)
after_rows i _ _ _ w = w

-- Several chapters.

-- the greatest shortfall over maps in a row that begin before the later ones
abbrev pub crossing_debt : ℕ → ℕ → ℕ
crossing_debt debt peak = if peak == 0 then 0 else debt + peak

-- the wait over sold maps in a row that begin before the later ones
abbrev pub crossing_wait : ℕ → ℕ → ℕ
crossing_wait run more = if more == 0 then 0 else run + more + 1

-- maps, and then later ones that go on with their runs
abbrev pub joined : Watch → Watch → Watch
joined w later = record {
  sold = record {
    rate = w.sold.rate + later.sold.rate;
    words = w.sold.words + later.sold.words;
    shortfall = max (max w.sold.shortfall later.sold.shortfall) (crossing_debt w.debt later.head.peak);
    wait = max (max w.sold.wait later.sold.wait) (crossing_wait w.run later.head.run);
    least = lesser w.sold.least later.sold.least;
  };
  debt = if later.head.is_open then max later.debt (w.debt + later.head.guaranteed - WORD_RATE * later.head.words) else later.debt;
  run = if later.head.is_waiting then w.run + later.head.run else later.run;
  head = w.head;
}

-- two watches know the same of the maps up to now
pub record Agree (v w : Watch) : Type 0 where
  pub sold : v.sold ≡ w.sold
  pub debt : v.debt ≡ w.debt
  pub run : v.run ≡ w.run

-- what is known of an Alloc-ID
abbrev pub watch_in : List Watch → ℕ → Watch
watch_in ws i = get_or ws i nothing
