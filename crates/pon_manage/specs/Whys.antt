-- The line that explains the last map for an Alloc-ID.
use Rattle.std.specs.Prelude.{ℕ, List, [], ◌∷◌, ◌++◌, ◌/◌, codes, decimal, Option, Some, None}
use Rattle.pon_units.specs.declared.limits.TheConstants.{WORD_RATE}
use Rattle.pon_bwmap.specs.Alloc.{Alloc}
use Rattle.pon_cert.specs.Spelling.{level_text}
use Rattle.pon_cert.specs.declared.cert.Level.{Level}
use Rattle.pon_descr.specs.declared.refusal.Refusal.TheVariants as refusal
use Rattle.pon_line.specs.Faults.{line_fault_text}
use Rattle.pon_line.specs.declared.fault.LineFault.TheVariants as fault
use Rattle.pon_why.specs.declared.numbers.Explanation.{Explanation}
use Rattle.pon_why.specs.declared.last.LastExplanation.{LastExplanation}
use Rattle.pon_why.specs.declared.last.LastWhy.{LastWhy}
use Rattle.pon_why.specs.declared.last.LastWhy.TheVariants.{NoMap, NoSuchAlloc, Explained}
use Rattle.pon_manage.specs.Rows.{descriptor_text, named, number_or_dash, report_text}

-- the level of a class, `-` for the class that shares no surplus
abbrev pub level_or_dash : Option Level → List ℕ
level_or_dash None = codes "-"
level_or_dash (Some level) = level_text level

-- start and grant of a structure; the start is `-` if it continues a burst
abbrev pub structure_text : Option Alloc → List ℕ
structure_text None = codes "start - grant -"
structure_text (Some a) = codes "start " ++ (number_or_dash a.start ++ (codes " grant " ++ decimal a.grant))

-- the counted report, the load, and the rates that follow from it
abbrev pub rates_text : Explanation → List ℕ
rates_text x =
    codes "report " ++ (report_text x.counted ++ (
    named (codes " load ") x.load (
    named (codes " guaranteed ") x.guaranteed (
    named (codes " weight ") x.item.weight (
    codes " cap " ++ decimal x.item.cap)))))

-- the surplus rate, the carry, what is owed, and its whole words
abbrev pub owed_text : Explanation → List ℕ
owed_text x =
    named (codes "surplus ") x.surplus.num (
    named (codes "/") x.surplus.den (
    named (codes " carry ") x.carry (
    named (codes " owed ") x.owed (
    codes " words " ++ decimal (x.owed / WORD_RATE)))))

-- the frame of the map, the descriptor, and the rates that follow from the report
abbrev pub why_head : LastExplanation → List ℕ
why_head x =
    named (codes "why ") x.frame (
    codes " " ++ (descriptor_text x.row.row ++ (
    codes " " ++ rates_text x.row)))

-- the level, what is owed, and the structure
abbrev pub why_end : LastExplanation → List ℕ
why_end x =
    codes "level " ++ (level_or_dash x.level ++ (
    codes " " ++ (owed_text x.row ++ (
    codes " " ++ structure_text x.structure))))

abbrev pub explanation_line : LastExplanation → List ℕ
explanation_line x = why_head x ++ (codes " " ++ (why_end x ++ 10 ∷ []))

-- the explanation, or why there is none
abbrev pub why_line : LastWhy → List ℕ
why_line NoMap = codes "err " ++ line_fault_text fault.NoMap ++ 10 ∷ []
why_line NoSuchAlloc = codes "err " ++ line_fault_text (fault.Port refusal.NoSuchAlloc) ++ 10 ∷ []
why_line (Explained x) = explanation_line x
