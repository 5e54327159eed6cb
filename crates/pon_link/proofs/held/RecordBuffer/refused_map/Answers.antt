use Rattle.std.proofs.Common.{◌≡◌, ap, sym, ◌∙◌}
use Rattle.pon_link.specs.Reading.{ReaderState}
use Rattle.pon_link.proofs.Answering.{refused_shown}
use Rattle.pon_link.proofs.held.RecordBuffer.refused_map.Goals as goal

pub returns-in-Some : goal.returns-in-Some
returns-in-Some g c =
    let held : c.as_slice.result.now ≡ c.args.self.now.held = c.as_slice.ensures.value ∙ ap (λ (r : ReaderState). r.held) c.self.view_is in
    refused_shown c.args.self.now c.as_slice.result.now c.in-Some.field-0 held (sym (ap (λ (r : ReaderState). r.direction) c.self.view_is) ∙ c.in-Down.is) c.requires c.in-Some.ensures.fault.0 c.in-Some.ensures.fault.1
