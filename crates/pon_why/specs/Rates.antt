-- The rates that a map gives to each admitted Alloc-ID.
use Rattle.std.specs.Prelude.{◌+◌, ◌/◌, ◌≤◌, List, map}
use Rattle.pon_units.specs.declared.limits.TheConstants.{LINE_RATE}
use Rattle.pon_admit.specs.declared.row.Row.{Row}
use Rattle.pon_guar.specs.Book.{load_of}
use Rattle.pon_cert.specs.declared.cert.MapCert.{MapCert}
use Rattle.pon_demand.specs.Rates.{guaranteed_rate}
use Rattle.pon_demand.specs.Sharing.{surplus_rate}
use Rattle.pon_state.specs.State.{State, input_of}
use Rattle.pon_why.specs.declared.rates.RowRates.{RowRates}

-- those of a row under a certificate
abbrev pub row_rates : State → MapCert → Row → RowRates
row_rates s cert r = record {
  alloc_id = r.alloc_id;
  load = load_of s.book r.alloc_id;
  guaranteed = guaranteed_rate (input_of s) r;
  surplus = surplus_rate (input_of s) cert r;
}

-- those of each admitted Alloc-ID, in map order
abbrev pub rates_of : State → MapCert → List RowRates
rates_of s cert = map (row_rates s cert) s.roster

-- guaranteed rate and whole kbit/s of the surplus rate are at most the rate of the line
abbrev pub IsWithinLine : RowRates → Type 0
IsWithinLine x = x.guaranteed + x.surplus.num / x.surplus.den ≤ LINE_RATE
