use Rattle.pon_desk_tests.proofs.settling.closed_books.Given as goal

abbrev pub ghosts-books_of-L-Ledger : goal.ghosts-books_of-L-Ledger
ghosts-books_of-L-Ledger g a = record { name = a.of_ports.name; parts = a.of_ports.parts }

abbrev pub ghosts-books_of-M-Ledger : goal.ghosts-books_of-M-Ledger
ghosts-books_of-M-Ledger g a = record { name = a.of_seats.name; parts = a.of_seats.parts }
