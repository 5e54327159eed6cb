use Rattle.pon_desk_tests.proofs.desks.two_seats_post_from_two_threads.Given as goal

abbrev pub ghosts-is_closed_with_both_seats-L-Ledger : goal.ghosts-is_closed_with_both_seats-L-Ledger
ghosts-is_closed_with_both_seats-L-Ledger g a = record { name = a.of_ports.name; parts = a.of_ports.parts }

abbrev pub ghosts-is_closed_with_both_seats-M-Ledger : goal.ghosts-is_closed_with_both_seats-M-Ledger
ghosts-is_closed_with_both_seats-M-Ledger g a = record { name = a.of_seats.name; parts = a.of_seats.parts }
