use Rattle.pon_desk_tests.proofs.operating.at_desk.Given as goal

abbrev pub ghosts-operate_at-L-Ledger : goal.ghosts-operate_at-L-Ledger
ghosts-operate_at-L-Ledger g a = record { name = a.of_ports.name; parts = a.of_ports.parts }

abbrev pub ghosts-operate_at-M-Ledger : goal.ghosts-operate_at-M-Ledger
ghosts-operate_at-M-Ledger g a = record { name = a.of_seats.name; parts = a.of_seats.parts }
