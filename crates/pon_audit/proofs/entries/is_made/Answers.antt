use Rattle.std.proofs.Common.{◌≡◌, ◌∙◌, sym, true, false}
use Rattle.std.specs.Cmp.{unsigned_Decides}
use Rattle.pon_state.proofs.Equality.{maps_decide}
use Rattle.pon_audit.proofs.entries.is_made.Goals as goal

pub returns-then-eq : goal.returns-then-eq
returns-then-eq c =
    let same : c.args.made.now.map ≡ c.args.wanted.now = (maps_decide c.args.made.now.map c.args.wanted.now).0 (sym c.eq.ensures ∙ c.if-eq.true) in
    let frame = unsigned_Decides c.args.made.now.frame c.next_frame.result in (
      λ t. record {
        frame = frame.0 (sym c.eq-then-eq.ensures ∙ t) ∙ c.next_frame.ensures;
        certified = c.requires.certified;
        map = same ∙ c.requires.wanted;
      },
      λ m. c.eq-then-eq.ensures ∙ frame.1 (m.frame ∙ sym c.next_frame.ensures),
    )

pub returns-else-eq : goal.returns-else-eq
returns-else-eq c = (
  λ t. absurd (let w : true ≡ false = sym t ∙ c.if-eq.false in cc),
  λ m. c.eq.ensures ∙ (maps_decide c.args.made.now.map c.args.wanted.now).1 (m.map ∙ sym c.requires.wanted),
)
