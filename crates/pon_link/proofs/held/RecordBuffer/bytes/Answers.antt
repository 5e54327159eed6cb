use Rattle.std.proofs.Common.{List, ℕ, ap, ◌≡◌, ◌∙◌, subst}
use Rattle.pon_lists.specs.Bytes.{AreBytes}
use Rattle.pon_link.specs.Reading.{ReaderState}
use Rattle.pon_link.proofs.held.RecordBuffer.bytes.Goals as goal

pub returns-clause-bytes : goal.returns-clause-bytes
returns-clause-bytes g c =
    let held : c.as_slice-bytes.result.now ≡ c.args.self.now.held = c.as_slice-bytes.ensures.value ∙ ap (λ (r : ReaderState). r.held) c.self.view_is in
    subst (λ (t : List ℕ). AreBytes t) held c.prove_bytes.ensures
