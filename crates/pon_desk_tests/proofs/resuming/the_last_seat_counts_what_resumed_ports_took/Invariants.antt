use Rattle.pon_desk_tests.proofs.resuming.the_last_seat_counts_what_resumed_ports_took.Given as goal

abbrev pub ghosts-counts_the_past-L-Ledger : goal.ghosts-counts_the_past-L-Ledger
ghosts-counts_the_past-L-Ledger g a = record { name = a.of_ports.name; parts = a.of_ports.parts }

abbrev pub ghosts-counts_the_past-M-Ledger : goal.ghosts-counts_the_past-M-Ledger
ghosts-counts_the_past-M-Ledger g a = record { name = a.of_seats.name; parts = a.of_seats.parts }
