use Rattle.std.proofs.Common.{◌++◌, ap, sym, w32, w64, ◌∙◌}
use Rattle.std.specs.Prelude.{◌≡◌, Some}
use Rattle.std.specs.Int.{to_be_bytes, w8}
use Rattle.std.proofs.lemmas.Result.{IfOk-from_err}
use Rattle.pon_record.specs.Fields.{frame, report}
use Rattle.pon_record.proofs.Put.{put_after}
use Rattle.pon_record.proofs.writing.openings.put_counted.Goals as goal

pub returns-in_err-put_u8-in-None : goal.returns-in_err-put_u8-in-None
returns-in_err-put_u8-in-None c = IfOk-from_err c.from_residual.result _ c.from_residual.ensures.0

pub returns-in_err-put_u64-in-None : goal.returns-in_err-put_u64-in-None
returns-in_err-put_u64-in-None c = IfOk-from_err c.from_residual-in_err-put_u64-in-None.result _ c.from_residual-in_err-put_u64-in-None.ensures.0

pub returns-in_err-put_u32-in-None : goal.returns-in_err-put_u32-in-None
returns-in_err-put_u32-in-None c = IfOk-from_err c.from_residual-in_err-put_u32-in-None.result _ c.from_residual-in_err-put_u32-in-None.ensures.0

pub returns-in_err-put_u8-in-Some : goal.returns-in_err-put_u8-in-Some
returns-in_err-put_u8-in-Some c = IfOk-from_err c.from_residual-in_err-put_u8-in-Some.result _ c.from_residual-in_err-put_u8-in-Some.ensures.0

pub returns-in_err-put_frame-in-Some : goal.returns-in_err-put_frame-in-Some
returns-in_err-put_frame-in-Some c = IfOk-from_err c.from_residual-in_err-put_frame-in-Some.result _ c.from_residual-in_err-put_frame-in-Some.ensures.0

pub returns-in_err-put_u32-in-Some : goal.returns-in_err-put_u32-in-Some
returns-in_err-put_u32-in-Some c = IfOk-from_err c.from_residual-in_err-put_u32-in-Some.result _ c.from_residual-in_err-put_u32-in-Some.ensures.0

pub returns-in_ok-put_u32-in-None : goal.returns-in_ok-put_u32-in-None
returns-in_ok-put_u32-in-None c =
    let old = c.args.bytes.now.items in
    let a = to_be_bytes w8 0 in
    let b = to_be_bytes w64 0 in
    let two = put_after old a b c.put_u8.new.bytes.items c.put_u64.new.bytes.items c.in_ok-put_u8-in-None.ensures c.in_ok-put_u64-in-None.ensures in
    put_after old (a ++ b) (to_be_bytes w32 0) c.put_u64.new.bytes.items c.put_u32.new.bytes.items two c.in_ok-put_u32-in-None.ensures
    ∙ ap (λ v. old ++ report.write v) (sym c.in-None.is)

pub returns-in_ok-put_u32-in-Some : goal.returns-in_ok-put_u32-in-Some
returns-in_ok-put_u32-in-Some c =
    let old = c.args.bytes.now.items in
    let a = to_be_bytes w8 1 in
    let b = frame.write c.in-Some.counted.frame in
    let two = put_after old a b c.put_u8-in-Some.new.bytes.items c.put_frame.new.bytes.items c.in_ok-put_u8-in-Some.ensures c.in_ok-put_frame-in-Some.ensures in
    let words = c.in_ok-put_u32-in-Some.ensures ∙ ap (λ n. c.put_frame.new.bytes.items ++ to_be_bytes w32 n) c.get.ensures.value in
    let all : c.put_u32-in-Some.new.bytes.items ≡ old ++ report.write (Some c.in-Some.counted) =
    put_after old (a ++ b) (to_be_bytes w32 c.in-Some.counted.words) c.put_frame.new.bytes.items c.put_u32-in-Some.new.bytes.items two words in
    all ∙ ap (λ v. old ++ report.write v) (sym c.in-Some.is)
