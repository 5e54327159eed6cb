use Rattle.std.proofs.Common.{◌≡◌, Some, rules, subst, sym}
use Rattle.std.specs.Prelude.{IfSome}
use Rattle.pon_state.specs.LawfulStates.{IsSilent}
use Rattle.pon_audit.specs.Openings.{AreQuiet, state_of}
use Rattle.pon_audit.proofs.OpenedStates.{quiet_if_silent, silent_if_quiet}
use Rattle.pon_audit.proofs.openings.is_silent_if_failed.Goals as goal

pub returns-in-Some : goal.returns-in-Some
returns-in-Some c =
    let o = c.args.opening.now in
    let cause : o.cause ≡ Some c.in-Some.field-0 = search rules in
    let rows : c.deref.result.now ≡ o.rows = search rules in
    let window : c.deref-in-Some.result.now ≡ o.window = search rules in (
      λ t. subst (λ q. IfSome q (λ c'. IsSilent (state_of o))) (sym cause) (silent_if_quiet o (let q : AreQuiet c.deref.result.now c.deref-in-Some.result.now = c.are_quiet.ensures.0 t in rw (← rows, ← window) q)),
      λ h. c.are_quiet.ensures.1 (rw (rows, window) (quiet_if_silent o (let s : IsSilent (state_of o) = subst (λ q. IfSome q (λ c'. IsSilent (state_of o))) cause h in s))),
    )
