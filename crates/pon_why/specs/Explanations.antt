-- What a map gives to an admitted Alloc-ID, with each number that it follows from.
use Rattle.std.specs.Prelude.{ℕ, ◌+◌, ◌/◌, List, map, Option}
use Rattle.pon_admit.specs.declared.row.Row.{Row}
use Rattle.pon_guar.specs.declared.account.Counted.{Counted}
use Rattle.pon_guar.specs.Book.{account_of, known_report, load_of}
use Rattle.pon_cert.specs.declared.cert.MapCert.{MapCert}
use Rattle.pon_cert.specs.declared.problem.Item.{Item}
use Rattle.pon_demand.specs.Rates.{guaranteed_rate, owed}
use Rattle.pon_demand.specs.Sharing.{item_of, surplus_rate}
use Rattle.pon_state.specs.State.{State, carry_at, input_of}
use Rattle.pon_why.specs.declared.numbers.Explanation.{Explanation}
use Rattle.pon_why.specs.declared.rates.RowRates.{RowRates}

-- the numbers of a row under a certificate
abbrev pub explanation_of : State → MapCert → Row → Explanation
explanation_of s cert r = record {
  row = r;
  counted = known_report (account_of s.book r.alloc_id);
  load = load_of s.book r.alloc_id;
  guaranteed = guaranteed_rate (input_of s) r;
  item = item_of (input_of s) r;
  surplus = surplus_rate (input_of s) cert r;
  carry = carry_at s r;
  owed = owed (input_of s) (surplus_rate (input_of s) cert) (carry_at s) r;
}

-- the numbers of a row with this item, counted report, rates and carry
abbrev pub numbers_of : Row → Item → Option Counted → RowRates → ℕ → Explanation
numbers_of r item counted x carry = record {
  row = r;
  counted = counted;
  load = x.load;
  guaranteed = x.guaranteed;
  item = item;
  surplus = x.surplus;
  carry = carry;
  owed = carry + (x.guaranteed + x.surplus.num / x.surplus.den);
}

-- those of each admitted Alloc-ID, in map order
abbrev pub explanations_of : State → MapCert → List Explanation
explanations_of s cert = map (explanation_of s cert) s.roster
