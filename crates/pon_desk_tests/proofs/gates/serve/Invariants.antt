use Rattle.pon_desk_tests.proofs.gates.serve.Given as goal

abbrev pub ghosts-serve_at-L-Ledger : goal.ghosts-serve_at-L-Ledger
ghosts-serve_at-L-Ledger g a = record { name = a.of_ports.name; parts = a.of_ports.parts }

abbrev pub ghosts-serve_at-M-Ledger : goal.ghosts-serve_at-M-Ledger
ghosts-serve_at-M-Ledger g a = record { name = a.of_seats.name; parts = a.of_seats.parts }
