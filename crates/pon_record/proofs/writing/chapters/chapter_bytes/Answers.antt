use Rattle.std.proofs.lemmas.Result.{IfOk-from_err}
use Rattle.pon_record.proofs.writing.chapters.chapter_bytes.Goals as goal

pub returns-in_err-bytes : goal.returns-in_err-bytes
returns-in_err-bytes c = IfOk-from_err c.from_residual.result _ c.from_residual.ensures.0

pub returns-in_err-put_body : goal.returns-in_err-put_body
returns-in_err-put_body c = IfOk-from_err c.from_residual-in_err-put_body.result _ c.from_residual-in_err-put_body.ensures.0
