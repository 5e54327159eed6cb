use Rattle.std.proofs.Common.{◌≡◌, ◌⊎◌, length, subst}
use Rattle.pon_history.specs.Chapters.{Chapter}
use Rattle.pon_line.specs.Reading.{AsksWithin}
use Rattle.pon_plant.specs.Turning.{TurnsPort}
use Rattle.pon_manage.proofs.FlushedPlans.{cuts_map, no_cut}
use Rattle.pon_manage.specs.Paths.{records_path}
use Rattle.pon_manage.proofs.flushed.cut_before.Goals as goal

pub returns-in_default : goal.returns-in_default
returns-in_default g c = record { cuts = no_cut c.args.at.now.plant c.args.reading.now; path = (records_path g.D.DevWrite.contents).here c.args.at.now }

pub port_no-port-requires : goal.port_no-port-requires
port_no-port-requires g c = subst (AsksWithin (length c.args.at.now.plant)) c.in-Some.ensures c.requires

pub returns-then-not-is_due : goal.returns-then-not-is_due
returns-then-not-is_due g c = record { cuts = no_cut c.args.at.now.plant c.args.reading.now; path = (records_path g.D.DevWrite.contents).here c.args.at.now }

pub returns-clause-cuts : goal.returns-clause-cuts
returns-clause-cuts g c =
    let old = c.args.at.now.plant in
    let new = c.cut.new.at.plant in
    cuts_map old new c.args.reading.now c.in-Some.place c.in-Some.ensures (subst (λ port. (new ≡ old) ⊎ ((chapter : Chapter) × TurnsPort old port chapter new)) c.port_no-port.ensures c.cut.ensures.turned)
