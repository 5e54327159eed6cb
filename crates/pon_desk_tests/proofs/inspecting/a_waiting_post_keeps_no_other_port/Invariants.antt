use Rattle.pon_desk_tests.proofs.inspecting.a_waiting_post_keeps_no_other_port.Given as goal

abbrev pub ghosts-are_all_done-L-Ledger : goal.ghosts-are_all_done-L-Ledger
ghosts-are_all_done-L-Ledger g a = record { name = a.of_ports.name; parts = a.of_ports.parts }

abbrev pub ghosts-are_all_done-M-Ledger : goal.ghosts-are_all_done-M-Ledger
ghosts-are_all_done-M-Ledger g a = record { name = a.of_seats.name; parts = a.of_seats.parts }
