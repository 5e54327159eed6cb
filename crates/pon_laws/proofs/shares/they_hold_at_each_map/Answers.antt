use Rattle.std.proofs.Common.{subst}
use Rattle.pon_history.proofs.FairMaps.{maps_are_fair}
use Rattle.pon_history.proofs.LawfulChapters.{lawful_before}
use Rattle.pon_history.specs.Chapters.{state_before}
use Rattle.pon_history.specs.FairMaps.{IsFairMap, TellsFairMap}
use Rattle.pon_laws.proofs.shares.they_hold_at_each_map.Goals as goal

pub returns : goal.returns
returns g c l k e made at is =
    let fair : IsFairMap (state_before c k) made = subst (TellsFairMap (state_before c k)) is (maps_are_fair c l k e at) in
    ((lawful_before c l k).admitted, fair.certificate)
