use Rattle.pon_desk_tests.proofs.gathering.gather.Given as goal

abbrev pub ghosts-gather_at-L-Ledger : goal.ghosts-gather_at-L-Ledger
ghosts-gather_at-L-Ledger g a = record { name = a.of_ports.name; parts = a.of_ports.parts }

abbrev pub ghosts-gather_at-M-Ledger : goal.ghosts-gather_at-M-Ledger
ghosts-gather_at-M-Ledger g a = record { name = a.of_seats.name; parts = a.of_seats.parts }
