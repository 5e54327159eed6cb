use Rattle.pon_recorder.specs.Rings.{out_at}
use Rattle.pon_run.proofs.serving.open_and_serve.Given as goal

-- the two ledgers of the desk
abbrev pub ghosts-run_at-L-Ledger : goal.ghosts-run_at-L-Ledger
ghosts-run_at-L-Ledger g a = record { name = a.of_ports.name; parts = a.of_ports.parts }

abbrev pub ghosts-run_at-M-Ledger : goal.ghosts-run_at-M-Ledger
ghosts-run_at-M-Ledger g a = record { name = a.of_seats.name; parts = a.of_seats.parts }

-- the rings of the ports
abbrev pub ghosts-run_at-K-Rings : goal.ghosts-run_at-K-Rings
ghosts-run_at-K-Rings g a = record { ring = λ port. out_at a.opened.ends.rings.items port }
