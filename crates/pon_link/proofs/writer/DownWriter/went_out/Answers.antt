use Rattle.std.proofs.Common.{◌≤◌, ◌-◌, ◌∙◌, ap, sym, length, take, drop, List, ℕ, subst}
use Rattle.pon_link.proofs.Left.{left_after}
use Rattle.pon_link.proofs.writer.DownWriter.went_out.Goals as goal

pub returns : goal.returns
returns c =
    let s = c.self.inside in
    let fits : c.args.n ≤ length (take (s.end - s.begin) (drop s.begin s.bytes)) = subst (λ (t : List ℕ). c.args.n ≤ length t) (sym c.self.view_is) c.requires in
    left_after s.bytes s.begin s.end c.args.n fits ∙ ap (λ (t : List ℕ). drop c.args.n t) c.self.view_is
