use Rattle.std.proofs.Common.{refl, arith}
use Rattle.pon_cert.specs.declared.problem.Item.{Item}
use Rattle.pon_fill.proofs.Filling.{step}
use Rattle.pon_fill.proofs.level.saturate.Goals as goal

abbrev blank : Item
blank = record { weight = 0; cap = 0 }

pub without-requires : goal.without-requires
without-requires c =
    let t = step c.args.items.now c.args.rest c.args.saturated.now c.args.i blank c.requires.filling c.requires.inside c.requires.out (c.requires.each c.args.i blank c.requires.inside).has_weight (c.requires.met blank) in
    record { surplus = t.surplus; weight = t.weight }

pub returns : goal.returns
returns c =
    let heavy = (c.requires.each c.args.i blank c.requires.inside).has_weight in
    let t = step c.args.items.now c.args.rest c.args.saturated.now c.args.i blank c.requires.filling c.requires.inside c.requires.out heavy (c.requires.met blank) in
    rw c.without.ensures (record {
      range = (omega arith, omega arith);
      less = omega (arith, t.weight);
      higher = t.higher;
      filling = t.filling;
      spent = t.spent;
      flags = refl;
    })
