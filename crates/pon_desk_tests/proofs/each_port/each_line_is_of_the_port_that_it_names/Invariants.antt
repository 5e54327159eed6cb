use Rattle.pon_desk_tests.proofs.each_port.each_line_is_of_the_port_that_it_names.Given as goal

abbrev pub ghosts-answers_each-L-Ledger : goal.ghosts-answers_each-L-Ledger
ghosts-answers_each-L-Ledger g a = record { name = a.of_ports.name; parts = a.of_ports.parts }

abbrev pub ghosts-answers_each-M-Ledger : goal.ghosts-answers_each-M-Ledger
ghosts-answers_each-M-Ledger g a = record { name = a.of_seats.name; parts = a.of_seats.parts }
