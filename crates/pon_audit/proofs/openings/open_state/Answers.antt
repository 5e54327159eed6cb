use Rattle.std.proofs.Common.{◌≡◌, false, rules}
use Rattle.std.proofs.lemmas.Bool.{iff_false}
use Rattle.pon_guar.specs.Parts.{AreParts, book_from}
use Rattle.pon_history.specs.Chapters.{OpensFirst}
use Rattle.pon_state.specs.LawfulStates.{IsSilent}
use Rattle.std.specs.Prelude.{IfSome}
use Rattle.pon_admit.specs.Roster.{IsAdmitted}
use Rattle.pon_audit.specs.Openings.{Fits, accounts_of, roster_of, state_of}
use Rattle.pon_audit.proofs.OpenedStates.{lawful_if_passes, passes_if_lawful}
use Rattle.pon_audit.proofs.openings.open_state.Goals as goal

pub returns-in-None-2 : goal.returns-in-None-2
returns-in-None-2 c =
    let o = c.args.opening.now in
    let none : AreParts (accounts_of o) o.window → ⊥ = search rules in
    λ l. none (passes_if_lawful c.args.number o l).parts

pub returns-then-not-fits : goal.returns-then-not-fits
returns-then-not-fits c =
    let o = c.args.opening.now in
    let other : c.fits.result ≡ false = search rules in
    let rows : c.rows.result.now ≡ roster_of o = search rules in
    let book : c.in-Some-2.loads.accounts ≡ book_from (accounts_of o) = search rules in
    λ l. iff_false c.fits.ensures other (rw (rows, book) (passes_if_lawful c.args.number o l).fits)

pub returns : goal.returns
returns c =
    let o = c.args.opening.now in
    let numbered : OpensFirst c.args.number (state_of o) × IfSome o.cause (λ c'. IsSilent (state_of o)) = search rules in
    let admitted : IsAdmitted o.rule o.gap (roster_of o) = search rules in
    let parts : AreParts (accounts_of o) o.window = search rules in
    let rows : c.rows.result.now ≡ roster_of o = search rules in
    let book : c.in-Some-2.loads.accounts ≡ book_from (accounts_of o) = search rules in
    let fits : Fits o c.rows.result.now c.in-Some-2.loads.accounts = search rules in (
      lawful_if_passes c.args.number o c.prove_numbers.ensures c.requires.carries_in_range (record { first = numbered.0; silent = numbered.1; admitted = admitted; parts = parts; fits = rw (← rows, ← book) fits }),
      search rules,
    )
