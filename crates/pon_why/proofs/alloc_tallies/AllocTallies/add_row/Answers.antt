use Rattle.std.proofs.Common.{◌≡◌, ◌∙◌, ap}
use Rattle.std.specs.Prelude.{◌==◌, if◌then◌else◌}
use Rattle.pon_why.specs.Sums.{no_sums, plus, sums_in}
use Rattle.pon_why.proofs.SumLaws.{plus_none, row_amounts}
use Rattle.pon_why.proofs.alloc_tallies.AllocTallies.add_row.Goals as goal

pub returns : goal.returns
returns c = λ i.
    let row = c.args.row.now in
    let before = sums_in i c.args.self.now.tallies.items in
    let middle = sums_in i c.grow_at.new.self.tallies.items in
    let amounts = row_amounts i row c.args.structure.now in
    let found : middle ≡ plus before (if c.in_ok-grow_at.field-0 then amounts else no_sums) = c.in_ok-grow_at.ensures i in
    let same : middle ≡ before = found ∙ ap (λ b. plus before (if b then amounts else no_sums)) c.if-branch.false ∙ plus_none before in
    c.in_ok-next.ensures i ∙ ap (λ s. plus middle (if row.alloc_id == i then s else no_sums)) c.amounts_of.ensures ∙ ap (λ s. plus s amounts) same
