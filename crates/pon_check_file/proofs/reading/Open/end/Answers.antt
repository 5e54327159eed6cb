use Rattle.std.proofs.Common.{rules, ◌∙◌, ◌<◌, [], subst, length}
use Rattle.pon_check_file.specs.Stages.{EndsLine}
use Rattle.pon_check_file.proofs.OpenLines.{last_line}
use Rattle.pon_check_file.proofs.reading.Open.end.Goals as goal

pub returns-in-Open : goal.returns-in-Open
returns-in-Open c =
    let some : 0 < length c.args.self.line.items = search rules in
    let ends = subst (EndsLine c.args.self) c.in-Open.is c.in_ok-open.ensures in
    last_line c.args.self c.requires.open some ∙ ends.fits.same [] ∙ c.end-in-Open.ensures

pub returns-in-Syntax : goal.returns-in-Syntax
returns-in-Syntax c =
    let some : 0 < length c.args.self.line.items = search rules in
    let ends = subst (EndsLine c.args.self) c.in-Syntax.is c.in_ok-open.ensures in
    last_line c.args.self c.requires.open some ∙ ends []
