use Rattle.pon_desk_tests.proofs.desks.looks_show_the_present_port.Given as goal

abbrev pub ghosts-shows_both-L-Ledger : goal.ghosts-shows_both-L-Ledger
ghosts-shows_both-L-Ledger g a = record { name = a.of_ports.name; parts = a.of_ports.parts }

abbrev pub ghosts-shows_both-M-Ledger : goal.ghosts-shows_both-M-Ledger
ghosts-shows_both-M-Ledger g a = record { name = a.of_seats.name; parts = a.of_seats.parts }
