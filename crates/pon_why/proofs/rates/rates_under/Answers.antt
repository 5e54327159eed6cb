use Rattle.std.proofs.Common.{◌≡◌, ◌∙◌, ap, rules, ℕ}
use Rattle.std.proofs.lemmas.List.Elements.{All-nil, All-push}
use Rattle.pon_guar.specs.Book.{load_of}
use Rattle.pon_demand.specs.Sharing.{surplus_rate}
use Rattle.pon_demand.proofs.Planning.{one_more, row_of}
use Rattle.pon_state.specs.State.{input_of}
use Rattle.pon_why.specs.Rates.{IsWithinLine, row_rates}
use Rattle.pon_why.specs.declared.rates.RowRates.{RowRates}
use Rattle.pon_why.proofs.rates.rates_under.Goals as goal

pub loop-demand-init : goal.loop-demand-init
loop-demand-init c = record {
  shares = c.under-shares.ensures (input_of c.args.state.now) c.requires.admitted c.requires.certified;
  rows = search rules;
  within = search (rules, All-nil IsWithinLine);
  count = search rules;
  room = search rules;
}

pub next-surplus-requires : goal.next-surplus-requires
next-surplus-requires c =
    let s = input_of c.args.state.now in
    let o = row_of s c.args.demands.now c.demand-item.result c.loop-demand.demand-index c.requires.demands c.loop-demand-test.true c.demand-item.is in
    record { input = s; cert = c.args.cert.now; index = c.loop-demand.demand-index; row = o.row; shares_at = c.loop-demand.invariant.shares; here = o.here; is = o.is }

pub loop-demand-preserved : goal.loop-demand-preserved
loop-demand-preserved c =
    let s = c.args.state.now in
    let cert = c.args.cert.now in
    let i : ℕ = c.loop-demand.demand-index in
    let d = c.demand-item.result in
    let o = row_of (input_of s) c.args.demands.now d i c.requires.demands c.loop-demand-test.true c.demand-item.is in
    let rate = c.next-surplus.ensures.rate (input_of s) cert i o.row c.loop-demand.invariant.shares o.here o.is in
    let load : c.load_at.result ≡ load_of s.book d.alloc_id = c.load_at.ensures ∙ ap (λ b. load_of b d.alloc_id) c.loads-loads.ensures.accounts in
    let new : RowRates = record { alloc_id = d.alloc_id; load = c.load_at.result; guaranteed = d.guaranteed; surplus = c.next-surplus.result.rate } in
    let is : new ≡ row_rates s cert o.row
    = (λ j. record { alloc_id = d.alloc_id; load = load j; guaranteed = d.guaranteed; surplus = rate j }) ∙ (λ j. record { alloc_id = (o.is j).alloc_id; load = load_of s.book (o.is j).alloc_id; guaranteed = (o.is j).guaranteed; surplus = surplus_rate (input_of s) cert o.row }) in
    let fits : IsWithinLine new = rw c.next-surplus.ensures.whole at c.next-surplus.ensures.within in
    record {
      shares = c.next-surplus.ensures.later (input_of s) cert i o.row c.loop-demand.invariant.shares o.here o.is;
      rows = c.push_reserved.ensures.items ∙ one_more (row_rates s cert) s.roster c.loop-demand.found.items i o.row new o.here is c.loop-demand.invariant.rows;
      within = rw c.push_reserved.ensures.items (All-push IsWithinLine c.loop-demand.found.items new c.loop-demand.invariant.within fits);
      count = search rules;
      room = search rules;
    }
