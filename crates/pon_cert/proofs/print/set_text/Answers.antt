use Rattle.std.proofs.Common.{length, ap, sym, ◌∙◌, arith, refl}
use Rattle.std.specs.Prelude.{string_bytes}
use Rattle.pon_cert.proofs.SetText.{joined, add_saturated, one_unsaturated}
use Rattle.pon_cert.proofs.print.set_text.Goals as goal
use Rattle.pon_cert.proofs.print.set_text.Goals.{then-saturated-i+in_ok-add_name, else-saturated-i}

pub loop-i-preserved : goal.loop-i-preserved
loop-i-preserved c = elim c.if-saturated-i.branch [
  | then-saturated-i+in_ok-add_name w ↦ record {
    spelled = ap string_bytes w.text-is ∙ add_saturated c.loop-i.i c.index-names-i.result c.args.names.now c.args.saturated.now (string_bytes c.loop-i.text) (string_bytes w.add_name.new.text) c.loop-i-test.true c.requires
        w.if-saturated-i.true c.index-names-i.is c.loop-i.invariant.spelled c.loop-i.invariant.none (w.in_ok-add_name.ensures.first refl) (w.in_ok-add_name.ensures.later refl);
    none = λ e. absurd (omega (arith, w.in_ok-add_name.ensures.some refl, ap length (sym (ap string_bytes w.text-is) ∙ e)));
  }
  | else-saturated-i w ↦
      let same = one_unsaturated c.loop-i.i 0 c.args.names.now c.args.saturated.now c.loop-i-test.true c.requires w.if-saturated-i.false in
      record {
        spelled = ap string_bytes w.text-is ∙ c.loop-i.invariant.spelled ∙ ap joined (sym same);
        none = λ e. same ∙ c.loop-i.invariant.none (sym (ap string_bytes w.text-is) ∙ e);
      }
]
