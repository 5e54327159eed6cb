use Rattle.pon_cert.proofs.OneSpelling.{cert_read}
use Rattle.pon_cert.proofs.laws.only_its_bytes.Goals as goal

pub returns : goal.returns
returns c bytes cert used are reads = cert_read bytes cert used are reads
