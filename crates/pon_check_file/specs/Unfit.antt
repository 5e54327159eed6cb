-- The first line of a check file that does not fit.
use Rattle.std.specs.Prelude.{◌≡◌, ◌⊎◌, ℕ, Bool, ◌+◌, ◌<◌, ◌≤◌, List, [], ◌∷◌, ◌++◌, length, map, drop, replicate, Some, None}
use Rattle.pon_cert.specs.declared.problem.Item.{Item}
use Rattle.pon_cert.specs.declared.cert.Level.{Level}
use Rattle.pon_check_file.specs.CheckLines.{surplus_of, item_on_line, level_on_line, flags_of}
use Rattle.pon_check_file.specs.CheckFiles.{first_spells}
use Rattle.pon_cert.specs.declared.problem.TheConstants.{MAX_ITEMS}

-- the lines are a surplus and one line for each item
pub record AreProblem (lines : List (List ℕ)) (items : List Item) : Type 0 where
  pub surplus : ℕ
  pub is_surplus : first_spells surplus_of lines ≡ Some surplus
  pub are_items : map item_on_line (drop 1 lines) ≡ map Some items
  pub count : length items ≤ MAX_ITEMS

-- no lines yet, and then no surplus
pub record LacksSurplus (before rest : List (List ℕ)) : Type 0 where
  pub first : before ≡ []
  pub no_surplus : first_spells surplus_of rest ≡ None

-- a problem, and then neither a level nor, if there may be more items, an item
pub record LacksLevel (before rest : List (List ℕ)) : Type 0 where
  pub items : List Item
  pub problem : AreProblem before items
  pub no_level : first_spells level_on_line rest ≡ None
  pub no_item : length items < MAX_ITEMS → first_spells item_on_line rest ≡ None

-- a problem and a level, and then no set of its items
pub record LacksSet (before rest : List (List ℕ)) : Type 0 where
  pub lines : List (List ℕ)
  pub items : List Item
  pub problem : AreProblem lines items
  pub level_line : List ℕ
  pub level : Level
  pub is_level : level_on_line level_line ≡ Some level
  pub all_before : before ≡ lines ++ level_line ∷ []
  pub no_set : first_spells (flags_of (length items)) rest ≡ None

-- a problem, a level, a set and empty lines, and then a line that is not empty
pub record HasMore (before rest : List (List ℕ)) : Type 0 where
  pub lines : List (List ℕ)
  pub items : List Item
  pub problem : AreProblem lines items
  pub level_line : List ℕ
  pub level : Level
  pub is_level : level_on_line level_line ≡ Some level
  pub set_line : List ℕ
  pub flags : List Bool
  pub is_set : flags_of (length items) set_line ≡ Some flags
  pub empty : ℕ
  pub all_before : before ≡ lines ++ level_line ∷ set_line ∷ replicate empty []
  pub byte : ℕ
  pub bytes : List ℕ
  pub others : List (List ℕ)
  pub not_empty : rest ≡ (byte ∷ bytes) ∷ others

-- the lines before line n fit, and line n is not one that may follow them
pub record IsFirstUnfit (ls : List (List ℕ)) (n : ℕ) : Type 0 where
  pub before : List (List ℕ)
  pub rest : List (List ℕ)
  pub all : ls ≡ before ++ rest
  pub place : n ≡ length before + 1
  pub unfit : LacksSurplus before rest ⊎ LacksLevel before rest ⊎ LacksSet before rest ⊎ HasMore before rest
