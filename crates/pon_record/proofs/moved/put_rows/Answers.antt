use Rattle.std.proofs.Common.{◌≡◌, ℕ, List, [], ◌∷◌, ◌++◌, ap, ◌∙◌}
use Rattle.pon_record.specs.declared.row.RawRow.{RawRow}
use Rattle.pon_record.proofs.MovedBodies.{row_length, row_put, rows_left}
use Rattle.pon_record.proofs.moved.put_rows.Goals as goal

pub split_at-requires : goal.split_at-requires
split_at-requires c = row_length c.args.rows.now c.loop-row.row-index c.row-item.result c.loop-row.rest.now c.loop-row-test.true c.row-item.is c.loop-row.invariant.left

pub loop-row-preserved : goal.loop-row-preserved
loop-row-preserved c =
    let x : RawRow = c.row-item.result in
    let none : x.carry ≡ 0 = ap (λ (r : RawRow). r.carry) c.row-item.is ∙ c.requires.none c.loop-row.row-index x c.loop-row-test.true in
    let put = c.in_ok-push.ensures.items ∙ ap (λ (l : List ℕ). l ++ x.carry ∷ []) (c.in_ok-extend_from_slice.ensures.items ∙ ap (λ (l : List ℕ). c.loop-row.out.items ++ l) c.split_at.ensures.front) in
    record {
      left = c.split_at.ensures.back ∙ rows_left c.args.rows.now c.loop-row.row-index x c.loop-row.rest.now c.loop-row-test.true c.row-item.is c.loop-row.invariant.left;
      moved = row_put c.args.out.now.items c.loop-row.out.items c.push.new.self.items c.loop-row.rest.now c.args.rows.now c.loop-row.row-index x c.loop-row-test.true c.row-item.is none c.loop-row.invariant.left c.loop-row.invariant.moved put;
    }
