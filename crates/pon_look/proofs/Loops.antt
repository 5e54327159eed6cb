-- A loop over the chapters of a recording, while they are audited.
use Rattle.std.proofs.Common.{◌≡◌, List, None, Option, Some, subst, ℕ}
use Rattle.pon_audit.specs.Auditing.{GoesOn, IsAuditing}
use Rattle.pon_audit.specs.Streams.{IsVerdictOf}
use Rattle.pon_audit.specs.declared.auditing.Auditing.{Auditing}
use Rattle.pon_audit.specs.declared.verdict.Verdict.{Verdict}

-- whatever the audit began with, it goes on with what is left of the recording
abbrev pub KeepsOn : Auditing → Option (List ℕ) → Auditing → Option (List ℕ) → Type 0
KeepsOn old left new later = (start : Option (List ℕ)) → IsAuditing start old left → IsAuditing start new later

module _ {old a : Auditing} (new : Auditing) {left l : Option (List ℕ)} (later : Option (List ℕ)) {verdict : Option Verdict} (so_far : KeepsOn old left a l) (judged : (start : Option (List ℕ)) → IsAuditing start a l → GoesOn start new later verdict) where
  pub goes_on : verdict ≡ None → KeepsOn old left new later
  goes_on none start is = subst (GoesOn start new later) none (judged start (so_far start is))

  pub ends_so : {v : Verdict} → verdict ≡ Some v → (start : Option (List ℕ)) → IsAuditing start old left → IsVerdictOf start v
  ends_so some start is = subst (GoesOn start new later) some (judged start (so_far start is))
