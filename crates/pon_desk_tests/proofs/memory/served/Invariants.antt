use Rattle.pon_desk_tests.proofs.memory.served.Given as goal

abbrev pub ghosts-served_at-L-Ledger : goal.ghosts-served_at-L-Ledger
ghosts-served_at-L-Ledger g a = record { name = a.of_ports.name; parts = a.of_ports.parts }

abbrev pub ghosts-served_at-M-Ledger : goal.ghosts-served_at-M-Ledger
ghosts-served_at-M-Ledger g a = record { name = a.of_seats.name; parts = a.of_seats.parts }
