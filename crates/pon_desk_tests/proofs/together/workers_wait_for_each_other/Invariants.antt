use Rattle.pon_desk_tests.proofs.together.workers_wait_for_each_other.Given as goal

abbrev pub ghosts-are_done-L-Ledger : goal.ghosts-are_done-L-Ledger
ghosts-are_done-L-Ledger g a = record { name = a.of_ports.name; parts = a.of_ports.parts }

abbrev pub ghosts-are_done-M-Ledger : goal.ghosts-are_done-M-Ledger
ghosts-are_done-M-Ledger g a = record { name = a.of_seats.name; parts = a.of_seats.parts }
