use Rattle.pon_desk_tests.proofs.sockets.is_broken_by.Given as goal

abbrev pub ghosts-serve_both-L-Ledger : goal.ghosts-serve_both-L-Ledger
ghosts-serve_both-L-Ledger g a = record { name = a.of_ports.name; parts = a.of_ports.parts }

abbrev pub ghosts-serve_both-M-Ledger : goal.ghosts-serve_both-M-Ledger
ghosts-serve_both-M-Ledger g a = record { name = a.of_seats.name; parts = a.of_seats.parts }
