use Rattle.pon_desk_tests.proofs.desks.run_two_seats.Given as goal

abbrev pub ghosts-run-L-Ledger : goal.ghosts-run-L-Ledger
ghosts-run-L-Ledger g a = record { name = a.of_ports.name; parts = a.of_ports.parts }

abbrev pub ghosts-run-M-Ledger : goal.ghosts-run-M-Ledger
ghosts-run-M-Ledger g a = record { name = a.of_seats.name; parts = a.of_seats.parts }
