use Rattle.std.proofs.lemmas.Result.{err_from_is_err_and}
use Rattle.pon_cert.proofs.WholeReading.{first_class_fault, second_class_fault, memory_fault, reads_both}
use Rattle.pon_cert.proofs.cert.MapCert.from_bytes.Goals as goal

pub returns-in_err-na-clause-fault : goal.returns-in_err-na-clause-fault
returns-in_err-na-clause-fault c =
    let p = err_from_is_err_and c.from_residual.result c.from_residual.ensures.1 in
    rw (p.1, p.2) (first_class_fault c.args.bytes.now _ c.in_err-na.ensures.value)

pub returns-in_err-be-clause-fault : goal.returns-in_err-be-clause-fault
returns-in_err-be-clause-fault c =
    let p = err_from_is_err_and c.from_residual-in_err-be.result c.from_residual-in_err-be.ensures.1 in
    rw (p.1, p.2) (second_class_fault c.args.bytes.now c.in_ok-na.rest.now c.in_ok-na.na _ c.in_ok-na.ensures.value c.in_err-be.ensures.value)

pub returns-in_err-cert-clause-fault : goal.returns-in_err-cert-clause-fault
returns-in_err-cert-clause-fault c =
    let p = err_from_is_err_and c.from_residual-in_err-cert.result c.from_residual-in_err-cert.ensures.1 in
    let memory = memory_fault c.args.bytes.now c.in_ok-na.rest.now c.in_ok-be.rest.now c.in_ok-na.na c.in_ok-be.be c.in_ok-na.ensures.value c.in_ok-be.ensures.value c.in_ok-na.ensures.tail c.in_ok-be.ensures.tail in
    rw (p.1, p.2, c.in_err-cert.ensures.err) memory

pub returns-clause-ok : goal.returns-clause-ok
returns-clause-ok c = rw c.in_ok-cert.ensures.ok (reads_both c.args.bytes.now c.in_ok-na.rest.now c.in_ok-be.rest.now c.in_ok-na.na c.in_ok-be.be c.in_ok-na.ensures.value c.in_ok-be.ensures.value c.in_ok-na.ensures.tail c.in_ok-be.ensures.tail)
