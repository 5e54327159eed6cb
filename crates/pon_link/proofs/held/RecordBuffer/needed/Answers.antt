use Rattle.std.proofs.Common.{ap, ◌∙◌}
use Rattle.pon_link.specs.Reading.{ReaderState}
use Rattle.pon_link.proofs.Sizes.{whole_now}
use Rattle.pon_link.proofs.held.RecordBuffer.needed.Goals as goal

pub returns-clause-none : goal.returns-clause-none
returns-clause-none g c none =
    whole_now c.args.self.now.direction c.self.inside.direction c.args.self.now.held c.as_slice.result.now c.needed.result (ap (λ (r : ReaderState). r.direction) c.self.view_is) (c.as_slice.ensures.value ∙ ap (λ (r : ReaderState). r.held) c.self.view_is) c.requires c.needed.ensures.untold c.needed.ensures.told none
