-- The settlement of a closed port: its entries compared with the receipts of its posts.
use Rattle.std.specs.Prelude.{ℕ, ◌≡◌, ◌<◌, ◌≤◌, ◌==◌, ◌⊎◌, suc, List, [], ◌∷◌, ◌++◌, count_by, flat_map, length, slice_get, take, Option, None, Some, IsSomeAnd}
use Rattle.pon_state.specs.Entry.{Entry}
use Rattle.pon_admit.specs.declared.port_cfg.PortCfg.{PortCfg}
use Rattle.pon_history.specs.Chapters.{Chapter}
use Rattle.pon_plant.specs.Plants.{opened_port}
use Rattle.pon_desk.specs.Counts.{ClosedPorts, taken_of}
use Rattle.pon_desk.specs.Receipts.{Receipt}
use Rattle.pon_desk.specs.declared.receipt.Placed.{Placed}
use Rattle.pon_desk.specs.declared.unsettled.Unsettled.{Unsettled}
use Rattle.pon_desk.specs.declared.unsettled.Unsettled.TheVariants as fault

-- a closed port: the configuration and first frame with which it was to be opened, the chapters that it returned, and
-- the chapter that it keeps
pub record PortHistory : Type 0 where
  pub opened : PortCfg × ℕ
  pub chapters : List Chapter
  pub kept : Chapter

-- all chapters in order
abbrev pub all_chapters : PortHistory → List Chapter
all_chapters h = h.chapters ++ h.kept ∷ []

-- entries of a chapter from an index on, each with its place
abbrev pub placed_from : ℕ → ℕ → List Entry → List Placed
placed_from chapter index [] = []
placed_from chapter index (e ∷ es) = record { chapter = chapter; index = index; entry = e } ∷ placed_from chapter (suc index) es

abbrev pub placed_in : Chapter → List Placed
placed_in c = placed_from c.number 0 c.entries

-- all entries in order, each with its place
abbrev pub all_placed : PortHistory → List Placed
all_placed h = flat_map placed_in (all_chapters h)

-- below the number of the kept chapter the k-th chapter was returned, and has this number; from there on none was. The
-- first of all opens with the port just opened as it was to be
pub record IsRightChapter (h : PortHistory) (k : ℕ) : Type 0 where
  pub there : k < h.kept.number → IsSomeAnd (slice_get h.chapters k) (λ c. c.number ≡ k)
  pub no_more : h.kept.number ≤ k → slice_get h.chapters k ≡ None
  pub opens : k ≡ 0 → IsSomeAnd (slice_get (all_chapters h) 0) (λ c. c.opening ≡ (opened_port h.opened).opening)

-- the number of receipts of a seat
abbrev pub posts_of : ℕ → List Receipt → ℕ
posts_of seat receipts = count_by (λ r. r.seat == seat) receipts

-- a receipt is of this port, has the k-th of the entries with its place, and names the number of earlier receipts of its
-- seat
pub record IsRightReceipt (entries : List Placed) (port : ℕ) (earlier : List Receipt) (k : ℕ) (r : Receipt) : Type 0 where
  pub of_port : r.port ≡ port
  pub has_entry : slice_get entries k ≡ Some r.placed
  pub nth : r.nth ≡ posts_of r.seat earlier

-- the k-th receipt is right, if there is one
abbrev pub IsRightAt : List Placed → ℕ → List Receipt → ℕ → Type 0
IsRightAt entries port receipts k = (r : Receipt) → slice_get receipts k ≡ Some r → IsRightReceipt entries port (take k receipts) k r

-- there are as many receipts as entries, and as many as the port took
pub record IsRightCount (h : PortHistory) (receipts : List Receipt) : Type 0 where
  pub entries : length receipts ≡ length (all_placed h)
  pub taken : length receipts ≡ taken_of h.kept

-- the receipts are those of all entries, in order
pub record IsSettled (h : PortHistory) (port : ℕ) (receipts : List Receipt) : Type 0 where
  pub chapters : (k : ℕ) → IsRightChapter h k
  pub each : (k : ℕ) → IsRightAt (all_placed h) port receipts k
  pub count : IsRightCount h receipts

-- the least number without a property
pub record IsFirstWithout (P : ℕ → Type 0) (k : ℕ) : Type 0 where
  pub earlier : (j : ℕ) → j < k → P j
  pub wrong : P k → ⊥

pub record IsFirstReceipt (h : PortHistory) (port : ℕ) (receipts : List Receipt) (k : ℕ) : Type 0 where
  pub chapters : (j : ℕ) → IsRightChapter h j
  pub first : IsFirstWithout (IsRightAt (all_placed h) port receipts) k

pub record IsMiscounted (h : PortHistory) (port : ℕ) (receipts : List Receipt) : Type 0 where
  pub chapters : (k : ℕ) → IsRightChapter h k
  pub each : (k : ℕ) → IsRightAt (all_placed h) port receipts k
  pub wrong : IsRightCount h receipts → ⊥

-- a place is earlier than another: its chapter is, or it is of the same chapter and its index is smaller
abbrev pub IsEarlier : Placed → Placed → Type 0
IsEarlier p q = (p.chapter < q.chapter) ⊎ ((p.chapter ≡ q.chapter) × (p.index < q.index))

-- the k-th receipt is of this seat and names this number of earlier posts, and no other is and does
pub record IsOnlyPost (receipts : List Receipt) (seat nth k : ℕ) : Type 0 where
  pub there : IsSomeAnd (slice_get receipts k) (λ r. (r.seat ≡ seat) × (r.nth ≡ nth))
  pub only : (j : ℕ) (r : Receipt) → slice_get receipts j ≡ Some r → r.seat ≡ seat → r.nth ≡ nth → j ≡ k

-- why a port is not settled: the first chapter that is not right, or else the first receipt, or else the count
abbrev pub TellsUnsettled : PortHistory → ℕ → List Receipt → Unsettled → Type 0
TellsUnsettled h port receipts (fault.Chapter k) = IsFirstWithout (IsRightChapter h) k
TellsUnsettled h port receipts (fault.Receipt k) = IsFirstReceipt h port receipts k
TellsUnsettled h port receipts fault.Count = IsMiscounted h port receipts

-- the history of a port of a closed desk, with these chapters that it returned, if there is such a port
abbrev pub history_of : Option (PortCfg × ℕ) → Option Chapter → List Chapter → Option PortHistory
history_of (Some opened) (Some kept) chapters = Some (record { opened = opened; chapters = chapters; kept = kept })
history_of _ _ chapters = None

abbrev pub history_at : ClosedPorts → ℕ → List Chapter → Option PortHistory
history_at closed port chapters = history_of (slice_get closed.opened port) (slice_get closed.ports port) chapters
