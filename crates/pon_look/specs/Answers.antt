-- What each answer says, field by field.
use Rattle.std.specs.Prelude.{ℕ, Bool, ◌/◌, List, [], ◌∷◌, Option, codes, option_map, option_and_then, unwrap_or}
use Rattle.pon_units.specs.declared.limits.TheConstants.{WORD_RATE}
use Rattle.pon_bwmap.specs.Alloc.{Alloc}
use Rattle.pon_descr.specs.Descriptor.{Descriptor}
use Rattle.pon_guar.specs.declared.account.Counted.{Counted}
use Rattle.pon_cert.specs.declared.cert.Level.{Level}
use Rattle.pon_cert.specs.declared.cert.Level.TheVariants.{All, At}
use Rattle.pon_why.specs.declared.changes.Change.{Change}
use Rattle.pon_why.specs.declared.numbers.Explanation.{Explanation}
use Rattle.pon_why.specs.declared.reported.Reported.{Reported}
use Rattle.pon_sold.specs.declared.watch.Sold.{Sold}
use Rattle.pon_sure.specs.Sure.{longest_wait}
use Rattle.pon_sure.specs.declared.sure.Sure.{Sure}
use Rattle.pon_audit.specs.declared.verdict.AuditReason.{AuditReason}
use Rattle.pon_look.specs.Fields.{Said, keyed, named, numbered, words_alone}
use Rattle.pon_look.specs.declared.field.FieldValue.TheVariants as value
use Rattle.pon_look.specs.declared.gaps.Gap.{Gap}
use Rattle.pon_look.specs.declared.onus.OnuCounts.{OnuCounts}
use Rattle.pon_look.specs.declared.port_tallies.Refused.{Refused}
use Rattle.pon_look.specs.declared.rates_fields.Figures.{Figures}
use Rattle.pon_look.specs.declared.summary.Summary.{Summary}
use Rattle.pon_look.specs.declared.summary.Totals.{Totals}
use Rattle.pon_look.specs.declared.why_fields.MapPlace.{MapPlace}

-- a descriptor, rates in kbit/s
abbrev pub descriptor_fields : Descriptor → List Said
descriptor_fields d =
    numbered (codes "fixed") d.fixed ∷ numbered (codes "assured") d.assured ∷ numbered (codes "max") d.max
    ∷ named (codes "class") (value.Class d.class) ∷ []

-- an allocation structure, in the order of its bits
abbrev pub structure_fields : Alloc → List Said
structure_fields a =
    numbered (codes "alloc") a.id ∷ named (codes "dbru") (value.Bit a.dbru) ∷ named (codes "ploam") (value.Bit a.ploam)
    ∷ named (codes "start") (value.Maybe a.start) ∷ numbered (codes "grant") a.grant ∷ named (codes "fwi") (value.Bit a.fwi)
    ∷ numbered (codes "profile") a.profile ∷ []

-- a chapter of a number of bytes
abbrev pub chapter_fields : Summary → OnuCounts → ℕ → List Said
chapter_fields s onus bytes =
    numbered (codes "port") s.port ∷ numbered (codes "chapter") s.number ∷ numbered (codes "bytes") bytes
    ∷ keyed (codes "frames") (codes "first") (value.Maybe s.first) ∷ keyed (codes "to") (codes "last") (value.End s.last)
    ∷ named (codes "seconds") (value.Seconds s.maps) ∷ numbered (codes "maps") s.maps ∷ numbered (codes "reports") s.reports
    ∷ numbered (codes "allocs") s.allocs ∷ keyed (codes "to") (codes "allocs_end") (value.Number s.allocs_end)
    ∷ numbered (codes "onus") onus.opening ∷ keyed (codes "to") (codes "onus_end") (value.Number onus.end)
    ∷ numbered (codes "failures") s.failures ∷ []

-- chapters that are missing
abbrev pub missing_fields : Gap → List Said
missing_fields g = numbered (codes "port") g.port ∷ keyed (codes "chapters") (codes "missing") (value.Chapters g.first g.last) ∷ []

-- chapters that are missing, in the verdict on a recording
abbrev pub gap_fields : Gap → List Said
gap_fields g = numbered (codes "port") g.port ∷ numbered (codes "first") g.first ∷ numbered (codes "last") g.last ∷ []

-- the place of a fault, and the reason
abbrev pub fault_fields : ℕ → ℕ → ℕ → AuditReason → List Said
fault_fields port chapter entry why =
    numbered (codes "port") port ∷ numbered (codes "chapter") chapter ∷ numbered (codes "entry") entry
    ∷ named (codes "why") (value.Reason why) ∷ []

-- the numbers of a recording that was judged
abbrev pub judged_fields : ℕ → ℕ → Bool → List Said
judged_fields maps bytes complete =
    numbered (codes "maps") maps ∷ numbered (codes "bytes") bytes ∷ named (codes "complete") (value.Mark complete)
    ∷ named (codes "seconds") (value.Seconds maps) ∷ []

-- the totals of a number of bytes
abbrev pub total_fields : Totals → ℕ → List Said
total_fields t bytes =
    words_alone (codes "total") ∷ numbered (codes "chapters") t.chapters ∷ numbered (codes "bytes") bytes
    ∷ named (codes "seconds") (value.Seconds t.maps) ∷ numbered (codes "maps") t.maps ∷ numbered (codes "reports") t.reports
    ∷ numbered (codes "failures") t.failures ∷ []

-- a chapter that is refused at an entry
abbrev pub refused_fields : Refused → List Said
refused_fields r =
    numbered (codes "port") r.port ∷ numbered (codes "chapter") r.chapter
    ∷ keyed (codes "refused at entry") (codes "refused") (value.Number r.entry) ∷ []

-- the Alloc-ID and the frame of a descriptor, before it
abbrev pub change_fields : ℕ → Change → List Said
change_fields port c =
    numbered (codes "port") port ∷ numbered (codes "alloc") c.row.alloc_id
    ∷ keyed (codes "from frame") (codes "from") (value.Number c.frame) ∷ numbered (codes "onu") c.row.onu ∷ []

-- the sums of an Alloc-ID of this ONU
abbrev pub sums_fields : ℕ → Figures → List Said
sums_fields onu f =
    numbered (codes "onu") onu ∷ numbered (codes "frames") f.sums.maps
    ∷ keyed (codes "load") (codes "load_sum") (value.Rates f.sums.load f.sums.maps)
    ∷ keyed (codes "owed") (codes "owed_sum") (value.Rates f.sums.guaranteed f.sums.maps)
    ∷ keyed (codes "granted") (codes "granted_words") (value.Words f.sums.granted f.sums.maps)
    ∷ keyed (codes "surplus") (codes "surplus_sum") (value.Rates f.sums.surplus f.sums.maps)
    ∷ numbered (codes "below") f.sums.below ∷ numbered (codes "idle") f.idle ∷ []

-- what was sold and what was got of it; the wait only if it has a bound
abbrev pub sold_fields : Sold → List Said
sold_fields s =
    keyed (codes "sold") (codes "words") (value.Number (s.rate / WORD_RATE)) ∷ numbered (codes "granted") s.words
    ∷ numbered (codes "short") (s.shortfall / WORD_RATE)
    ∷ named (codes "wait") (value.Maybe (option_map (λ bound. s.wait) (longest_wait s.least)))
    ∷ named (codes "bound") (value.Maybe (longest_wait s.least)) ∷ []

-- what is sure
abbrev pub sure_fields : Option Sure → List Said
sure_fields s =
    words_alone (codes "sure") ∷ named (codes "guaranteed") (value.Maybe (option_map (λ s. s.guaranteed) s))
    ∷ named (codes "surplus") (value.Maybe (option_map (λ s. s.surplus) s))
    ∷ named (codes "wait") (value.Maybe (option_and_then (λ s. s.wait) s))
    ∷ keyed (codes "ms") [] (value.Milliseconds (option_and_then (λ s. s.wait) s)) ∷ []

-- the port and the frame of a map
abbrev pub place_fields : MapPlace → List Said
place_fields p = numbered (codes "port") p.port ∷ numbered (codes "frame") p.frame ∷ []

-- a class in a map
abbrev pub class_fields : List ℕ → ℕ → Level → List Said
class_fields name surplus level =
    words_alone name ∷ numbered (codes "surplus") surplus ∷ named (codes "level") (value.Level level) ∷ []

-- a counted report
abbrev pub report_fields : Counted → Reported → List Said
report_fields c r =
    words_alone (codes "  report") ∷ numbered (codes "frame") c.frame ∷ named (codes "occupancy") (value.Maybe r.occupancy)
    ∷ keyed (codes "granted since") (codes "granted") (value.Number r.granted) ∷ numbered (codes "left") c.words ∷ []

-- the rates and the words of an Alloc-ID
abbrev pub rate_fields : Explanation → List Said
rate_fields e =
    numbered (codes "load") e.load ∷ numbered (codes "guaranteed") e.guaranteed ∷ numbered (codes "carry") e.carry
    ∷ numbered (codes "owed") e.owed ∷ numbered (codes "words") (e.owed / WORD_RATE) ∷ []

-- the share of an Alloc-ID in the surplus of its class
abbrev pub share_fields : Explanation → Option Level → List Said
share_fields e level =
    numbered (codes "weight") e.item.weight ∷ numbered (codes "cap") e.item.cap
    ∷ named (codes "level") (value.Level (unwrap_or level All))
    ∷ numbered (codes "num") e.surplus.num ∷ numbered (codes "den") e.surplus.den ∷ []

-- the numbers that stand in formulas alone
abbrev pub formula_fields : Explanation → List Said
formula_fields e =
    named (codes "surplus") (value.Level (At e.surplus))
    ∷ keyed (codes "whole surplus") (codes "share") (value.Number (e.surplus.num / e.surplus.den))
    ∷ keyed [] (codes "unit") (value.Number WORD_RATE) ∷ []
