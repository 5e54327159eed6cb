-- The text that lists the admitted Alloc-IDs of a port, a line each.
use Rattle.std.specs.Prelude.{ℕ, List, [], ◌∷◌, ◌++◌, length, flat_map, codes, decimal, Option, Some, None}
use Rattle.pon_descr.specs.declared.class.Class.{Class}
use Rattle.pon_descr.specs.declared.class.Class.TheVariants.{Plain, NonAssured, BestEffort}
use Rattle.pon_admit.specs.declared.row.Row.{Row}
use Rattle.pon_guar.specs.declared.account.Counted.{Counted}
use Rattle.pon_guar.specs.Book.{load_of_counted}
use Rattle.pon_state.specs.State.{State}
use Rattle.pon_why.specs.RowViews.{row_views}
use Rattle.pon_why.specs.declared.view.RowView.{RowView}

-- a number after its name
abbrev pub named : List ℕ → ℕ → List ℕ → List ℕ
named name n rest = name ++ (decimal n ++ rest)

-- the word of a class
abbrev pub class_word : Class → List ℕ
class_word Plain = codes "none"
class_word NonAssured = codes "na"
class_word BestEffort = codes "be"

-- Alloc-ID, ONU and descriptor, rates in kbit/s
abbrev pub descriptor_text : Row → List ℕ
descriptor_text r =
    named (codes "alloc ") r.alloc_id (
    named (codes " onu ") r.onu (
    named (codes " fixed ") r.descriptor.fixed (
    named (codes " assured ") r.descriptor.assured (
    named (codes " max ") r.descriptor.max (
    codes " class " ++ class_word r.descriptor.class)))))

-- the counted report: its frame, and its words not granted since; `-` if no report counts
abbrev pub report_text : Option Counted → List ℕ
report_text None = codes "- left -"
report_text (Some c) = decimal c.frame ++ (codes " left " ++ decimal c.words)

-- a number, or `-` if it is missing
abbrev pub number_or_dash : Option ℕ → List ℕ
number_or_dash None = codes "-"
number_or_dash (Some n) = decimal n

-- the line of an Alloc-ID, with its load in kbit/s and its payload words in the last map
abbrev pub row_line : RowView → List ℕ
row_line v =
    descriptor_text v.row ++ (
    codes " report " ++ (report_text v.counted ++ (
    named (codes " load ") (load_of_counted v.counted) (
    codes " words " ++ (number_or_dash v.granted ++ 10 ∷ [])))))

-- a line with the number of Alloc-IDs, and the line of each
abbrev pub views_text : List RowView → List ℕ
views_text views = named (codes "list ") (length views) (10 ∷ []) ++ flat_map row_line views

-- the admitted Alloc-IDs of a state, in map order
abbrev pub list_text : State → List ℕ
list_text s = views_text (row_views s)
