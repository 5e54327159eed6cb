use Rattle.std.proofs.Common.{ℕ, List, sym, subst}
use Rattle.pon_link.specs.UpRecords.{IsRecord}
use Rattle.pon_link.proofs.Turns.{part_written}
use Rattle.pon_link.proofs.writing.write_answer.Goals as goal

pub returns-clause-err : goal.returns-clause-err
returns-clause-err g c =
    let is = subst (λ (bytes : List ℕ). IsRecord bytes c.args.answer.now) (sym c.as_slice.ensures.value) c.encode_up-bytes.ensures.reads in
    part_written c.write_all.result (g.W.DevWrite.contents c.args.writer.now) (g.W.DevWrite.contents c.write_all.new.writer) c.as_slice.result.now c.args.answer.now is c.write_all.ensures.err
