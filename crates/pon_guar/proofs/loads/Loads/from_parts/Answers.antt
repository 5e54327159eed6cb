use Rattle.std.proofs.Common.{◌≡◌, rules}
use Rattle.pon_guar.specs.Parts.{AreApart, book_from}
use Rattle.pon_guar.proofs.RestoredParts.{book_rises}
use Rattle.pon_guar.proofs.loads.Loads.from_parts.Goals as goal

pub invariant_of-result : goal.invariant_of-result
invariant_of-result c =
    let apart : AreApart c.args.accounts.now = search rules in
    let is : c.in-Some.accounts.items ≡ book_from c.args.accounts.now = search rules in
    rw is (book_rises c.args.accounts.now apart)
