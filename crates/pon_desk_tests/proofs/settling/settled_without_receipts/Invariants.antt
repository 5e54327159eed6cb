use Rattle.pon_desk_tests.proofs.settling.settled_without_receipts.Given as goal

abbrev pub ghosts-settled_without_receipts_at-L-Ledger : goal.ghosts-settled_without_receipts_at-L-Ledger
ghosts-settled_without_receipts_at-L-Ledger g a = record { name = a.of_ports.name; parts = a.of_ports.parts }

abbrev pub ghosts-settled_without_receipts_at-M-Ledger : goal.ghosts-settled_without_receipts_at-M-Ledger
ghosts-settled_without_receipts_at-M-Ledger g a = record { name = a.of_seats.name; parts = a.of_seats.parts }
