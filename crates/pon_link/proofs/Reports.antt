-- Reports in order, and the header of four bytes.
use Rattle.std.proofs.Common.{◌≡◌, ℕ, ◌+◌, ◌*◌, List, [], ◌∷◌, ◌++◌, length, take, drop, Option, refl, ap, sym, ◌∙◌, subst, append_assoc, arith}
use Rattle.std.proofs.lemmas.List.{append-nil}
use Rattle.std.proofs.Math.Seq.{take-add}
use Rattle.pon_xgtc.specs.Header.{IsHeaderFault}
use Rattle.pon_xgtc.specs.declared.fault.HeadFault.{HeadFault}
use Rattle.pon_xgtc.specs.declared.fault.HeadFault.TheVariants.{Short, Hec}
use Rattle.pon_link.specs.UpRecords.{ReadsReport, ReadsReports}

-- four bytes without a header are refused by their HEC
pub head_refused : (bytes : List ℕ) (f : HeadFault) → length bytes ≡ 4 → IsHeaderFault bytes f → IsHeaderFault bytes Hec
head_refused bytes Short e l = absurd (omega (arith, e, l))
head_refused bytes Hec e r = r

-- one more report after the others
pub reports_more : (bytes report : List ℕ) (os : List (Option ℕ)) (o : Option ℕ) → ReadsReports bytes os → ReadsReport report o → ReadsReports (bytes ++ report) (os ++ o ∷ [])
reports_more bytes report [] o e r = (report, [], ap (λ t. t ++ report) e ∙ sym (append-nil report), r, refl)
reports_more bytes report (p ∷ os) o h r =
    (h.0, h.1 ++ report, ap (λ t. t ++ report) h.2 ∙ append_assoc h.0 h.1 report, h.3, reports_more h.1 report os o h.4 r)

-- the next report of a list of them
pub reports_step : (bytes : List ℕ) (os : List (Option ℕ)) (o : Option ℕ) (i : ℕ) → ReadsReports (take (4 * i) bytes) os → ReadsReport (take 4 (drop (4 * i) bytes)) o → ReadsReports (take (4 * (i + 1)) bytes) (os ++ o ∷ [])
reports_step bytes os o i h r =
    let next : 4 * (i + 1) ≡ 4 * i + 4 = omega arith in
    let seam : take (4 * i) bytes ++ take 4 (drop (4 * i) bytes) ≡ take (4 * (i + 1)) bytes = sym (ap (λ (n : ℕ). take n bytes) next ∙ take-add (4 * i) 4 bytes) in
    subst (λ (t : List ℕ). ReadsReports t (os ++ o ∷ [])) seam (reports_more (take (4 * i) bytes) (take 4 (drop (4 * i) bytes)) os o h r)
