use Rattle.std.proofs.Common.{◌≡◌, ◌∙◌, sym, ap, refl, take, rules}
use Rattle.std.proofs.Math.Seq.{take-length}
use Rattle.pon_link.proofs.decode.report_in.Goals as goal

pub returns-in-Ok : goal.returns-in-Ok
returns-in-Ok c =
    let four : c.in-Some.report.now ≡ take 4 c.args.bytes.now = search rules in
    let all : c.in-Some.report.now ≡ c.args.bytes.now = four ∙ ap (λ k. take k c.args.bytes.now) (sym c.requires) ∙ take-length c.args.bytes.now in
    rw all at c.in-Ok.ensures.ok

pub returns-in-Err : goal.returns-in-Err
returns-in-Err c =
    let four : c.in-Some.report.now ≡ take 4 c.args.bytes.now = search rules in
    let all : c.in-Some.report.now ≡ c.args.bytes.now = four ∙ ap (λ k. take k c.args.bytes.now) (sym c.requires) ∙ take-length c.args.bytes.now in
    (c.requires, λ words r. c.in-Err.ensures.garbled.0 refl words (rw all r))
