use Rattle.std.proofs.Common.{◌≡◌, ◌+◌, ◌≤◌, length}
use Rattle.pon_units.specs.declared.limits.TheConstants.{MAX_SERIES}
use Rattle.pon_text.specs.Lines.{words_of}
use Rattle.pon_line.specs.Commands.{occupancy_fields}
use Rattle.pon_line.specs.declared.occupancies.TheConstants.{OCCUPANCY}
use Rattle.pon_line.proofs.FieldWords.{after_those}
use Rattle.pon_line.proofs.occupancies.occupancy_fields.Given as goal

-- the occupancies so far, followed by those that the remaining words write, are those of all words
abbrev pub invariant-loop-word : goal.invariant-loop-word
invariant-loop-word l = record {
  few : l.count ≤ MAX_SERIES;
  read : length l.occupancies ≡ l.count;
  count : l.count + length (words_of l.rest) ≡ length (words_of l.text);
  all : after_those l.occupancies (occupancy_fields (OCCUPANCY + l.count) (words_of l.rest)) ≡ occupancy_fields OCCUPANCY (words_of l.text);
}

abbrev pub decreases-loop-word : goal.decreases-loop-word
decreases-loop-word l = length (words_of l.rest)
