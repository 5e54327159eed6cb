use Rattle.std.proofs.Common.{◌≡◌, ◌≤◌, List, ℕ, length, ap, inl, inr, arith}
use Rattle.std.proofs.lemmas.Bool.{cases_lt}
use Rattle.pon_link.proofs.Growth.{open_with, within_still}
use Rattle.pon_link.proofs.Sizes.{within_more}
use Rattle.pon_link.proofs.held.RecordBuffer.safe_size.Goals as goal

pub returns-else-held-eq0-clause-begins : goal.returns-else-held-eq0-clause-begins
returns-else-held-eq0-clause-begins g c more lt =
    let long : length c.bytes-held.result.now ≡ length c.args.self.now.held = ap (λ (t : List ℕ). length t) c.bytes-held.ensures.value in
    let n = c.needed-needed.ensures in
    open_with c.args.self.now c.needed-needed.result (record { unended = c.in_default.ensures.value.1; beginning = n.some (omega (arith, lt)) }) (omega (arith, long, c.if-held-eq0.false)) n.untold n.told more lt

pub returns-else-held-eq0-clause-within : goal.returns-else-held-eq0-clause-within
returns-else-held-eq0-clause-within g c more le =
    let n = c.needed-needed.ensures in
    elim (cases_lt 0 c.needed-needed.result) [
      | inl some ↦ within_more c.args.self.now.direction c.args.self.now.held more c.needed-needed.result (n.some some) n.untold n.told le
      | inr none ↦ within_still c.args.self.now.direction c.args.self.now.held more (omega (arith, le, none)) c.fault.ensures.within
    ]

pub returns-then-held-eq0-clause-within : goal.returns-then-held-eq0-clause-within
returns-then-held-eq0-clause-within g c more le =
    let n = c.needed-needed.ensures in
    let less : length more ≤ c.needed-needed.result = omega (arith, c.min.ensures, le) in
    elim (cases_lt 0 c.needed-needed.result) [
      | inl some ↦ within_more c.args.self.now.direction c.args.self.now.held more c.needed-needed.result (n.some some) n.untold n.told less
      | inr none ↦ within_still c.args.self.now.direction c.args.self.now.held more (omega (arith, less, none)) c.fault.ensures.within
    ]
