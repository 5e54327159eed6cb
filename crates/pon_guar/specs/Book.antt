-- The accounts of a report book: for each admitted Alloc-ID the report that counts, in ascending Alloc-ID.
use Rattle.std.specs.Prelude.{◌≡◌, ℕ, ◌*◌, ◌<◌, ◌==◌, List, [], map, find, length, slice_get, Option, Some, None, option_to_list}
use Rattle.pon_units.specs.declared.limits.TheConstants.{WORD_RATE}
pub use Rattle.pon_lists.specs.Order.{AreRising, with_number as with_alloc, without_number as without_alloc}
pub use Rattle.pon_guar.specs.declared.account.Counted.{Counted}
pub use Rattle.pon_guar.specs.declared.account.Account.{Account}

-- the account of an Alloc-ID
abbrev pub account_of : List Account → ℕ → Option Account
account_of book i = find (λ a. a.alloc_id == i) book

-- the account of an Alloc-ID is at an index
pub record StandsAt (book : List Account) (i place : ℕ) : Type 0 where
  pub within : place < length book
  pub is : slice_get book place ≡ account_of book i

-- the Alloc-IDs of a book
abbrev pub alloc_ids : List Account → List ℕ
alloc_ids book = map (λ a. a.alloc_id) book

-- The contents of an account, if there is one.

abbrev pub since_of_account : Option Account → ℕ
since_of_account None = 0
since_of_account (Some a) = a.since

abbrev pub counted_of_account : Option Account → List Counted
counted_of_account None = []
counted_of_account (Some a) = option_to_list a.counted

-- the frame from which an Alloc-ID's reports count, and the report that counts
abbrev pub known_since : Option Account → Option ℕ
known_since None = None
known_since (Some a) = Some a.since

abbrev pub known_report : Option Account → Option Counted
known_report None = None
known_report (Some a) = a.counted

-- the load that a report offers: its words not yet granted, at 256 kbit/s a word
abbrev pub load_of_counted : Option Counted → ℕ
load_of_counted None = 0
load_of_counted (Some c) = WORD_RATE * c.words

-- the offered load of an Alloc-ID in kbit/s, 0 if it has no account
abbrev pub load_of : List Account → ℕ → ℕ
load_of book i = load_of_counted (known_report (account_of book i))
