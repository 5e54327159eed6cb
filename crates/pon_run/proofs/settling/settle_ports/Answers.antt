use Rattle.std.proofs.Common.{◌≡◌, ◌∙◌, ◌+◌, ◌++◌, ◌∷◌, [], List, ap, rules, subst, sym, take}
use Rattle.std.proofs.lemmas.List.{take_more}
use Rattle.pon_run.specs.Settlements.{AreOf}
use Rattle.pon_run.specs.declared.settling.Account.{Account}
use Rattle.pon_run.specs.declared.settling.Settlement.{Settlement}
use Rattle.pon_run.proofs.SettledPorts.{one_more}
use Rattle.pon_run.proofs.settling.settle_ports.Goals as goal

pub loop-account-preserved : goal.loop-account-preserved
loop-account-preserved c =
    let closed = c.args.closed.now in
    let accounts = c.args.accounts.now in
    let done = take c.loop-account.account-index accounts in
    let settled = c.loop-account.all.items in
    let account = c.account-item.result in
    let settlement = c.settle_port.result in
    let more : take (c.loop-account.account-index + 1) accounts ≡ done ++ account ∷ []
    = take_more accounts c.loop-account.account-index account (search rules) ∙ ap (λ (a : Account). done ++ a ∷ []) (sym c.account-item.is) in
    let next : c.push.new.self.items ≡ settled ++ settlement ∷ [] = search rules in
    subst (λ (these : List Account). AreOf closed these c.push.new.self.items) (sym more)
    (subst (λ (ss : List Settlement). AreOf closed (done ++ account ∷ []) ss) (sym next) (one_more closed done settled account settlement c.loop-account.invariant c.settle_port.ensures))
