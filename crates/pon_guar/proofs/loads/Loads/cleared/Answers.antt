use Rattle.std.proofs.Common.{◌≡◌, length, map, rules}
use Rattle.pon_lists.proofs.Parts.{written}
use Rattle.pon_guar.specs.Loads.{afresh}
use Rattle.pon_guar.proofs.Books.{cleared_rise}
use Rattle.pon_guar.proofs.loads.Loads.cleared.Goals as goal

pub invariant_of-self : goal.invariant_of-self
invariant_of-self c =
    let forgotten : c.forget.new.accounts ≡ map (afresh c.args.frame) c.self.inside.accounts.items = search rules in
    let long : length c.forget.new.accounts ≡ length c.self.inside.accounts.items = search rules in
    let len : c.self.inside.accounts.len ≡ length c.self.inside.accounts.items = search rules in
    rw (written c.self.inside.accounts.items c.forget.new.accounts c.self.inside.accounts.len len long, forgotten)
    (cleared_rise c.args.frame _ c.self.invariant)
