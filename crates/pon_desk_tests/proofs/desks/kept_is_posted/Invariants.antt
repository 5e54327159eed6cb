use Rattle.pon_desk_tests.proofs.desks.kept_is_posted.Given as goal

abbrev pub ghosts-is_all_kept-L-Ledger : goal.ghosts-is_all_kept-L-Ledger
ghosts-is_all_kept-L-Ledger g a = record { name = a.of_ports.name; parts = a.of_ports.parts }

abbrev pub ghosts-is_all_kept-M-Ledger : goal.ghosts-is_all_kept-M-Ledger
ghosts-is_all_kept-M-Ledger g a = record { name = a.of_seats.name; parts = a.of_seats.parts }
