use Rattle.std.proofs.Common.{◌≡◌, ◌<◌, ◌++◌, ◌∷◌, [], length, map, rules, arith, sym, ◌∙◌}
use Rattle.std.proofs.Math.Numerals.{add-one}
use Rattle.toml.specs.View.{view}
use Rattle.pon_settings.proofs.Admission.{first_fault, one_more_admitted, one_more_row, view_at}
use Rattle.pon_settings.proofs.rows.rows_of.Goals as goal

pub returns-in-Err-clause-fault : goal.returns-in-Err-clause-fault
returns-in-Err-clause-fault c =
    let vs = c.args.tables.now in
    let v = c.index-tables-k.result in
    let within : c.loop-k.k < length vs = omega arith in
    let roster = c.loop-k.invariant.roster in
    let told = rw roster at c.in-Err.ensures.fault in
    rw c.faulty_at.ensures (first_fault c.args.port c.args.gap (map view vs) c.loop-k.k (view v) c.loop-k.rows.items c.in-Err.faulty (view_at vs c.loop-k.k v within c.index-tables-k.is) c.loop-k.invariant.spelled told)

pub loop-k-preserved : goal.loop-k-preserved
loop-k-preserved c =
    let vs = c.args.tables.now in
    let v = c.index-tables-k.result in
    let within : c.loop-k.k < length vs = omega arith in
    let roster = c.loop-k.invariant.roster in
    let admits = rw roster at c.in-Ok.ensures.ok in
    let pushed : c.push.new.self.items ≡ c.loop-k.rows.items ++ c.in-Ok.row ∷ [] = search rules in
    record {
      spelled = rw (add-one, pushed) (one_more_row c.args.gap (map view vs) c.loop-k.rows.items c.loop-k.k (view v) c.in-Ok.row c.loop-k.invariant.spelled (view_at vs c.loop-k.k v within c.index-tables-k.is) admits.spelled admits.accepted);
      roster = rw pushed (admits.after_it ∙ sym (one_more_admitted c.args.gap c.loop-k.rows.items c.in-Ok.row));
    }
