use Rattle.std.proofs.Common.{◌≡◌, ◌≤◌, length, take}
use Rattle.std.specs.Prelude.{vec_capacity, vec_len}
use Rattle.pon_why.proofs.copy.copy_entries.Given as goal

-- the first entries are copied, and there is room for all
abbrev pub invariant-loop-entry : goal.invariant-loop-entry
invariant-loop-entry l = record {
  copied : l.copies.items ≡ take l.entry-index l.entries;
  count : vec_len l.copies ≡ l.entry-index;
  room : length l.entries ≤ vec_capacity l.copies;
}
