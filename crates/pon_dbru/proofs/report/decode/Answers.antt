use Rattle.std.proofs.Common.{◌≡◌, ◌/◌, ℕ, sym, ap, ◌^◌, ◌∙◌, refl, true, false}
use lib.Pointwise.{bytes_decides}
use Rattle.pon_dbru.proofs.ReportLaws.{words_are, one_report}
use Rattle.pon_dbru.proofs.report.decode.Goals as goal

pub returns-then-eq-clause-garbled : goal.returns-then-eq-clause-garbled
returns-then-eq-clause-garbled c =
    let same : c.report_bytes.result ≡ c.args.bytes = (bytes_decides c.report_bytes.result c.args.bytes).0 (sym c.eq.ensures ∙ c.if-eq.true) in
    (λ e. cc, λ none. absurd (none _ (rw same at c.report_bytes.ensures)))

pub returns-else-eq-clause-garbled : goal.returns-else-eq-clause-garbled
returns-else-eq-clause-garbled c = (
  λ _ words r.
      let here : c.from_be_bytes-words.result / 2 ^ 8 ≡ words = ap (λ (n : ℕ). n / 2 ^ 8) c.from_be_bytes-words.ensures ∙ words_are c.args.bytes words r in
      let same : c.report_bytes.result ≡ c.args.bytes = one_report c.report_bytes.result c.args.bytes words (rw here at c.report_bytes.ensures) r in
      let yes_it_is : true ≡ false = sym ((bytes_decides c.report_bytes.result c.args.bytes).1 same) ∙ sym c.eq.ensures ∙ c.if-eq.false in
      cc,
  λ _. refl,
)
