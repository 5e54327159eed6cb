use Rattle.std.proofs.Common.{sym, subst}
use Rattle.pon_link.specs.Reading.{ReaderState, HasFault}
use Rattle.pon_link.proofs.Outcomes.{sticky_pull}
use Rattle.pon_link.proofs.reader.UpReader.pull.Goals as goal

pub returns-clause-sticky : goal.returns-clause-sticky
returns-clause-sticky g c f h =
    sticky_pull c.self.inside.reading _ _ _ c.pull.result f c.pull.ensures.bytes c.pull.ensures.value (subst (λ (r : ReaderState). HasFault r f) (sym c.self.view_is) h)
