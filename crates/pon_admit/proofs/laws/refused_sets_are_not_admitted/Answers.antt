use Rattle.pon_admit.proofs.RefusedSets.{refused_admission, refused_change}
use Rattle.pon_admit.proofs.laws.refused_sets_are_not_admitted.Goals as goal

pub returns : goal.returns
returns c = record { admit = refused_admission; change = refused_change }
