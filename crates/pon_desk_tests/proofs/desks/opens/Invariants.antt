use Rattle.pon_desk_tests.proofs.desks.opens.Given as goal

abbrev pub ghosts-opening_fault-L-Ledger : goal.ghosts-opening_fault-L-Ledger
ghosts-opening_fault-L-Ledger g a = record { name = a.of_ports.name; parts = a.of_ports.parts }

abbrev pub ghosts-opening_fault-M-Ledger : goal.ghosts-opening_fault-M-Ledger
ghosts-opening_fault-M-Ledger g a = record { name = a.of_seats.name; parts = a.of_seats.parts }
