use Rattle.std.proofs.Common.{◌≡◌, ◌∙◌, true, false, arith, rules, sym}
use Rattle.std.specs.Prelude.{◌==◌}
use Rattle.std.specs.List.{list_any}
use Rattle.std.proofs.lemmas.Bool.{false≢true}
use Rattle.pon_guar.proofs.RestoredParts.{all_done, all_more, found, not_all, not_found}
use Rattle.pon_guar.proofs.parts.are_polled.Goals as goal

pub returns-then-not-is_polled : goal.returns-then-not-is_polled
returns-then-not-is_polled c =
    let other : c.is_polled.result ≡ false = search rules in
    not_found (not_all (λ u. list_any (λ g. g.onu == u) c.args.grants.now ≡ true) c.args.onus.now c.loop-onu.onu-index c.onu-item.result (omega arith) (search rules)
    (λ t. false≢true (sym other ∙ c.is_polled.ensures ∙ t)))

pub loop-onu-preserved : goal.loop-onu-preserved
loop-onu-preserved c =
    let is : c.is_polled.result ≡ true = search rules in
    all_more (λ u. list_any (λ g. g.onu == u) c.args.grants.now ≡ true) c.args.onus.now c.loop-onu.onu-index c.onu-item.result (omega arith) (search rules)
    c.loop-onu.invariant (sym c.is_polled.ensures ∙ is)

pub returns : goal.returns
returns c = found (all_done (λ u. list_any (λ g. g.onu == u) c.args.grants.now ≡ true) c.args.onus.now c.loop-onu.onu-index (omega arith) c.loop-onu.invariant)
