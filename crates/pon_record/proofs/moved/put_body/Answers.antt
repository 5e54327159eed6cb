use Rattle.std.proofs.Common.{◌≡◌, ◌++◌, length, List, ℕ, ap, ◌∙◌, arith, rules}
use Rattle.pon_record.specs.declared.row.RawRow.{RawRow}
use Rattle.pon_record.proofs.MovedBodies.{body_put, parts_of, rows_fields}
use Rattle.pon_record.proofs.moved.put_body.Goals as goal

pub split_at-requires-2 : goal.split_at-requires-2
split_at-requires-2 c =
    let same : c.as_slice-rows.result.now ≡ c.args.chapter.now.body.opening.rows = search rules in
    omega (arith, ap (λ (l : List RawRow). length l) same, ap (λ (l : List ℕ). length l) c.split_at.ensures.back, (parts_of c.args.chapter.now.body c.args.bytes.now c.requires.is).most)

pub put_rows-requires-clause-is : goal.put_rows-requires-clause-is
put_rows-requires-clause-is c =
    let same : c.as_slice-rows.result.now ≡ c.args.chapter.now.body.opening.rows = search rules in
    rows_fields c.args.chapter.now.body c.as_slice-rows.result.now c.args.bytes.now c.split_at.result.1.now c.split_at-2.result.0.now c.requires.is same c.split_at.ensures.back c.split_at-2.ensures.front

pub returns : goal.returns
returns c =
    let same : c.as_slice-rows.result.now ≡ c.args.chapter.now.body.opening.rows = search rules in
    let front = c.in_ok-extend_from_slice.ensures.items ∙ ap (λ (l : List ℕ). c.push.new.self.items ++ l) c.split_at.ensures.front in
    body_put c.args.chapter.now.body c.as_slice-rows.result.now c.args.bytes.now c.split_at.result.1.now c.split_at-2.result.1.now
    c.args.out.now.items c.push.new.self.items c.extend_from_slice.new.self.items c.put_rows.new.out.items c.extend_from_slice-2.new.self.items
    c.requires.fits c.requires.is same c.split_at.ensures.back c.split_at-2.ensures.back
    c.in_ok-push.ensures.items front c.in_ok-put_rows.ensures c.in_ok-extend_from_slice-2.ensures.items
