use Rattle.pon_desk_tests.proofs.repeating.repeat.Given as goal

abbrev pub ghosts-repeat_at-L-Ledger : goal.ghosts-repeat_at-L-Ledger
ghosts-repeat_at-L-Ledger g a = record { name = a.of_ports.name; parts = a.of_ports.parts }

abbrev pub ghosts-repeat_at-M-Ledger : goal.ghosts-repeat_at-M-Ledger
ghosts-repeat_at-M-Ledger g a = record { name = a.of_seats.name; parts = a.of_seats.parts }
