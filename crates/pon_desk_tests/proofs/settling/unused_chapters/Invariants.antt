use Rattle.pon_desk_tests.proofs.settling.unused_chapters.Given as goal

abbrev pub ghosts-unused_chapters_at-L-Ledger : goal.ghosts-unused_chapters_at-L-Ledger
ghosts-unused_chapters_at-L-Ledger g a = record { name = a.of_ports.name; parts = a.of_ports.parts }

abbrev pub ghosts-unused_chapters_at-M-Ledger : goal.ghosts-unused_chapters_at-M-Ledger
ghosts-unused_chapters_at-M-Ledger g a = record { name = a.of_seats.name; parts = a.of_seats.parts }
