use Rattle.pon_recorder.specs.Rings.{out_at}
use Rattle.pon_record_tests.proofs.segments.record_segments.Given as goal

-- the rings of the ports
abbrev pub ghosts-record_all : goal.ghosts-record_all
ghosts-record_all g a = record { ring = λ port. out_at a.rings.items port }
