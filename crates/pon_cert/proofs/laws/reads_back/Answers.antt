use Rattle.pon_cert.proofs.ReadsBack.{cert_back}
use Rattle.pon_cert.proofs.laws.reads_back.Goals as goal

pub returns : goal.returns
returns c cert rest fits = cert_back cert rest fits
