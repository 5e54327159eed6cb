use Rattle.std.proofs.Common.{◌≡◌, ◌∙◌, true, false, sym, ap, map}
use Rattle.pon_look.proofs.ListedRows.{made_lists}
use Rattle.pon_look.proofs.tally.tally_map.Goals as goal

pub returns-then-not-lists_rows-clause-good : goal.returns-then-not-lists_rows-clause-good
returns-then-not-lists_rows-clause-good c = λ k.
    let listed = made_lists c.args.state.now c.args.made.now c.deref.result.now (c.deref.ensures.value ∙ c.in_ok-rates.ensures.rates) k ∙ ap (map (λ a. a.id)) (sym c.rows-structures.ensures.rows) in
    let t : c.lists_rows.result ≡ true = c.lists_rows.ensures.1 listed in
    absurd (let w : true ≡ false = sym t ∙ c.if-not-lists_rows.true in cc)
