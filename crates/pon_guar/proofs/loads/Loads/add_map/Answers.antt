use Rattle.std.proofs.Common.{◌≡◌, length, map, rules}
use Rattle.pon_lists.proofs.Parts.{written}
use Rattle.pon_guar.specs.Loads.{lessened}
use Rattle.pon_guar.proofs.LessByGrants.{lessened_rising}
use Rattle.pon_guar.proofs.loads.Loads.add_map.Goals as goal

pub invariant_of-self-2 : goal.invariant_of-self-2
invariant_of-self-2 c =
    let lessened : c.deduct_grants.new.accounts ≡ map (lessened c.args.grants.items) c.self.inside.accounts.items = search rules in
    let long : length c.deduct_grants.new.accounts ≡ length c.self.inside.accounts.items = search rules in
    let len : c.self.inside.accounts.len ≡ length c.self.inside.accounts.items = search rules in
    rw (written c.self.inside.accounts.items c.deduct_grants.new.accounts c.self.inside.accounts.len len long, lessened)
    (lessened_rising c.args.grants.items c.self.inside.accounts.items c.self.invariant)
