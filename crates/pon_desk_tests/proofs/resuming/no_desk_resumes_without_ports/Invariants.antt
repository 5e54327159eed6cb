use Rattle.pon_desk_tests.proofs.resuming.no_desk_resumes_without_ports.Given as goal

abbrev pub ghosts-fault_without_ports-L-Ledger : goal.ghosts-fault_without_ports-L-Ledger
ghosts-fault_without_ports-L-Ledger g a = record { name = a.of_ports.name; parts = a.of_ports.parts }

abbrev pub ghosts-fault_without_ports-M-Ledger : goal.ghosts-fault_without_ports-M-Ledger
ghosts-fault_without_ports-M-Ledger g a = record { name = a.of_seats.name; parts = a.of_seats.parts }
