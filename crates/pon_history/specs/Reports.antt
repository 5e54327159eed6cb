-- The report that counts for an Alloc-ID, as a function of the whole history.
use Rattle.std.specs.Prelude.{ℕ, ◌-◌, nat_le, if◌then◌else◌, List, [], ◌++◌, map, flat_map, Option}
use Rattle.std.specs.List.{list_any}
use Rattle.pon_guar.specs.declared.account.Account.{Account}
use Rattle.pon_guar.specs.declared.account.Counted.{Counted}
use Rattle.pon_guar.specs.Book.{account_of, alloc_ids, counted_of_account, since_of_account}
use Rattle.pon_guar.specs.Window.{WindowMap, grants_at, words_from}
use Rattle.pon_guar.specs.Reports.{latest, occupancies}
use Rattle.pon_state.specs.State.{State}
use Rattle.pon_admit.specs.declared.event.Event.{Event}
use Rattle.pon_admit.specs.declared.event.Event.TheVariants.{Report}
use Rattle.pon_state.specs.Entry.{Entry}
use Rattle.pon_history.specs.Parts.{allocs_of, begins, frame_at_last}
use Rattle.pon_history.specs.Windows.{all_maps, maps_of}

-- the frame from which an Alloc-ID's reports count
abbrev pub since_of : State → List Entry → ℕ → ℕ
since_of o es i = frame_at_last (begins i) (since_of_account (account_of o.book i)) o.next es

-- the reports of an Alloc-ID in an event, each less all words granted from the report's frame on
abbrev pub candidates_in : List WindowMap → ℕ → ℕ → Event → List Counted
candidates_in ms since i (Report frame onu occ) =
    if nat_le since frame
    then map (λ n. record { frame = frame; words = n - words_from i frame ms }) (occupancies i (grants_at frame onu ms) occ)
    else []
candidates_in ms since i _ = []

-- the opening's report, unless an entry has dropped it, less the words that the entries granted
abbrev pub opening_candidates : State → List Entry → ℕ → List Counted
opening_candidates o es i =
    if list_any (begins i) es then []
    else map (λ c. record { frame = c.frame; words = c.words - words_from i 0 (maps_of o.roster o.next es) }) (counted_of_account (account_of o.book i))

-- every report of an Alloc-ID that may count
abbrev pub candidates : State → List Entry → ℕ → List Counted
candidates o es i =
    opening_candidates o es i ++ flat_map (λ e. candidates_in (all_maps o es) (since_of o es i) i e.event) es

-- the counted report: the one of the greatest frame
abbrev pub counted_of : State → List Entry → ℕ → Option Counted
counted_of o es i = latest (candidates o es i)

abbrev pub account_after : State → List Entry → ℕ → Account
account_after o es i = record { alloc_id = i; since = since_of o es i; counted = counted_of o es i }

-- the report book after the entries
abbrev pub book_of : State → List Entry → List Account
book_of o es = map (account_after o es) (allocs_of (alloc_ids o.book) es)
