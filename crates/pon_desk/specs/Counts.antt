-- Posts counted twice: at the ports that took them, and by the seats that made them.
use Rattle.std.specs.Prelude.{ℕ, suc, ◌≡◌, ◌≢◌, ◌+◌, ◌<◌, ◌≤◌, List, length, map, replicate, slice_get, slice_index, slice_set, sum, sum_by, Option, None, Some}
use Rattle.pon_admit.specs.declared.port_cfg.PortCfg.{PortCfg}
use Rattle.pon_history.specs.Chapters.{Chapter}
use Rattle.pon_desk.specs.Receipts.{Receipt}

-- the number of ports of a desk, and of the seats that were opened, and the configuration and first frame with which each
-- port was to be opened, or none if the ports took entries before
pub record DeskSize : Type 0 where
  pub ports : ℕ
  pub seats : ℕ
  pub opened : List (PortCfg × ℕ)

-- the ports of a closed desk, and the configuration and first frame with which each was to be opened, or none of these
pub record ClosedPorts : Type 0 where
  pub ports : List Chapter
  pub opened : List (PortCfg × ℕ)

-- a seat: its place in the list of all seats, the number of its posts at each port, and the receipts that it keeps, if it
-- is to keep any
pub record SeatState : Type 0 where
  pub number : ℕ
  pub counts : List ℕ
  pub receipts : Option (List Receipt)

-- a seat without posts, at a desk with this number of ports
abbrev pub unused_seat : ℕ → ℕ → SeatState
unused_seat number ports = record { number = number; counts = replicate ports 0; receipts = None }

-- seats without posts, each numbered by its place
pub record AreUnused (seats ports : ℕ) (opened : List SeatState) : Type 0 where
  pub count : length opened ≡ seats
  pub each : (k : ℕ) → k < seats → slice_get opened k ≡ Some (unused_seat k ports)

-- the number of entries that a port took since it was opened
abbrev pub taken_of : Chapter → ℕ
taken_of port = port.opening.taken_before + length port.entries

-- a seat that counts these numbers of entries, which ports took before
abbrev pub past_seat : ℕ → List ℕ → SeatState
past_seat number counts = record { number = number; counts = counts; receipts = None }

-- seats, each numbered by its place: the last one counts what the ports took before, and the others have no posts
pub record AreResumed (seats : ℕ) (counts : List ℕ) (opened : List SeatState) : Type 0 where
  pub count : length opened ≡ seats
  pub unused : (k : ℕ) → suc k < seats → slice_get opened k ≡ Some (unused_seat k (length counts))
  pub past : (k : ℕ) → suc k ≡ seats → slice_get opened k ≡ Some (past_seat k counts)

-- a seat after one more post at a port
abbrev pub one_more_at : ℕ → SeatState → SeatState
one_more_at port seat = record {
  number = seat.number;
  counts = slice_set seat.counts port (slice_index seat.counts port + 1);
  receipts = seat.receipts;
}

-- the number of posts at a port, of all seats
abbrev pub posts_at : ℕ → List SeatState → ℕ
posts_at port seats = sum_by (λ seat. slice_index seat.counts port) seats

-- each port took as many entries as the seats count at it
abbrev pub IsEven : List Chapter → List SeatState → Type 0
IsEven ports seats = (p : ℕ) → p < length ports → slice_index (map taken_of ports) p ≡ posts_at p seats

-- the sums of the seats' counts, for each port
pub record AreSums (counts : List ℕ) (ports : ℕ) (seats : List SeatState) : Type 0 where
  pub one_each : length counts ≡ ports
  pub sums : (p : ℕ) → p < ports → slice_index counts p ≡ posts_at p seats

-- the port of this number took more or fewer entries than are counted at it
pub record DiffersAt (ports : List Chapter) (counts : List ℕ) (p : ℕ) : Type 0 where
  pub is_port : p < length ports
  pub differs : slice_index (map taken_of ports) p ≢ slice_index counts p

-- some port differs, though the sums over all ports are equal; so at least two ports differ
pub record IsUneven (ports : List Chapter) (counts : List ℕ) : Type 0 where
  pub somewhere : (p : ℕ) × DiffersAt ports counts p
  pub balanced : sum_by taken_of ports ≡ sum counts
  pub several : 2 ≤ length ports
