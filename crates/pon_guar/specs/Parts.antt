-- A report book from its parts: the accounts in any order, and the maps of the window.
use Rattle.std.specs.Prelude.{◌≡◌, ◌==◌, false, List, [], ◌∷◌}
use Rattle.std.specs.List.{list_any}
use Rattle.pon_guar.specs.Window.{IsWindow, WindowMap}
use Rattle.pon_guar.specs.declared.parts.LoadsFault.{LoadsFault}
use Rattle.pon_guar.specs.declared.parts.LoadsFault.TheVariants.{Unlawful, Memory}
use Rattle.pon_guar.specs.Book.{Account}
use Rattle.pon_guar.specs.Loads.{Loads, with_account}

-- no two accounts of an Alloc-ID
abbrev pub AreApart : List Account → Type 0
AreApart [] = Unit {0}
AreApart (a ∷ accounts) = (list_any (λ b. b.alloc_id == a.alloc_id) accounts ≡ false) × AreApart accounts

-- the accounts in ascending Alloc-ID
abbrev pub book_from : List Account → List Account
book_from [] = []
book_from (a ∷ accounts) = with_account a (book_from accounts)

-- the book of the parts
abbrev pub loads_from : List Account → List WindowMap → Loads
loads_from accounts window = record { accounts = book_from accounts; window = window }

-- the parts of a report book: no two accounts of an Alloc-ID, and at most 64 lawful maps with consecutive frames
pub record AreParts (accounts : List Account) (window : List WindowMap) : Type 0 where
  pub apart : AreApart accounts
  pub maps : IsWindow window

-- `Unlawful` only if they are not the parts of a report book
abbrev pub RefusesParts : List Account → List WindowMap → LoadsFault → Type 0
RefusesParts accounts window Unlawful = AreParts accounts window → ⊥
RefusesParts accounts window Memory = Unit {0}
