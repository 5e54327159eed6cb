use Rattle.pon_admit.proofs.AdmittedSets.{admit_keeps, change_keeps, remove_keeps}
use Rattle.pon_admit.proofs.laws.checks_keep_admitted_sets.Goals as goal

pub returns : goal.returns
returns c = record { admit = admit_keeps; change = change_keeps; remove = remove_keeps }
