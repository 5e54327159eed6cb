use Rattle.std.proofs.Common.{◌≡◌, ◌∙◌, Option, ap, sym, rules}
use Rattle.pon_guar.specs.Book.{account_of, known_report, known_since}
use Rattle.pon_audit.proofs.Equality.{reports_decide}
use Rattle.pon_audit.proofs.SameStates.{has_account}
use Rattle.pon_audit.proofs.chain.has_account.Goals as goal

pub returns-then-eq : goal.returns-then-eq
returns-then-eq c =
    let book = c.args.loads.now.accounts in
    let row = c.args.raw.now in
    let own = c.in-Some.account in
    let found : account_of book row.alloc_id ≡ Option.Some own = search rules in
    let since : own.since ≡ row.since = search rules in
    let same = reports_decide own.counted row.counted in (
      λ t. has_account book row (ap known_since found ∙ ap Option.Some since, ap known_report found ∙ same.0 (sym c.eq-then-eq.ensures ∙ t)),
      λ h. c.eq-then-eq.ensures ∙ same.1 (ap known_report (sym found ∙ h)),
    )
