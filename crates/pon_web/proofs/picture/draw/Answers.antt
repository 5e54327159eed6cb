use Rattle.std.proofs.Common.{◌≡◌, rules}
use Rattle.std.specs.Prelude.{Some}
use Rattle.pon_web.proofs.picture.draw.Goals as goal

pub returns-in-Ok : goal.returns-in-Ok
returns-in-Ok c =
    let bytes = c.args.recording.now in
    let there : Some c.new-reader.result.inner.now ≡ Some bytes = search rules in
    c.draw_from.ensures bytes (c.in-Ok.ensures.opens bytes there)
