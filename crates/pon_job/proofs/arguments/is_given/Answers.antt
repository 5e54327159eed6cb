use Rattle.std.proofs.Common.{◌≡◌, ◌∙◌, List, ℕ, None, Some, ap, sym, true, false, codes}
use Rattle.std.proofs.lemmas.Option.{none-some, same_Some}
use Rattle.std.proofs.lemmas.Slice.Eq.{bytes_eq-Decides}
use Rattle.clap.specs.Matches.{found_of}
use Rattle.clap.specs.Walk.{first_of, rows_of}
use Rattle.clap.proofs.WalkLemmas.{first_value-rows}
use Rattle.pon_job.proofs.arguments.is_given.Goals as goal

pub returns-in-Some : goal.returns-in-Some
returns-in-Some c =
    let found = found_of c.args.found.now in
    let text = c.in-Some.text.now in
    let at : Some text ≡ first_of c.args.flag.now (rows_of found) = c.in-Some.ensures ∙ first_value-rows found c.args.flag.now in (
      λ same. sym at ∙ ap (λ (t : List ℕ). Some t) ((bytes_eq-Decides text (codes "true")).0 (sym c.eq.ensures ∙ same)),
      λ is. c.eq.ensures ∙ (bytes_eq-Decides text (codes "true")).1 (same_Some text (codes "true") (at ∙ is)),
    )

pub returns-in-None : goal.returns-in-None
returns-in-None c =
    let found = found_of c.args.found.now in
    let none : None ≡ first_of c.args.flag.now (rows_of found) = c.in-None.ensures ∙ first_value-rows found c.args.flag.now in (
      λ p. absurd (let t : false ≡ true = p in cc),
      λ is. absurd (none-some (codes "true") (none ∙ is)),
    )
