use Rattle.std.proofs.Common.{rules}
use Rattle.pon_history.specs.Chapters.{Chapter}
use Rattle.pon_history.specs.Taking.{IsKept}
use Rattle.pon_history.proofs.Kept.{taken}
use Rattle.pon_port.proofs.LastMaps.{last_kept}
use Rattle.pon_history.proofs.WordRuns.{whole_runs}
use Rattle.pon_port.proofs.port.Port.take_plain.Goals as goal

-- the port before, and with one more entry
abbrev old : goal.After-push_reserved → Chapter
old c = record { number = c.self.inside.number; opening = c.self.inside.opening; entries = c.self.inside.entries.items }

abbrev chapter_with : goal.After-push_reserved → Chapter
chapter_with c = record { number = c.self.inside.number; opening = c.self.inside.opening; entries = c.push_reserved.new.self.items }

kept : (c : goal.After-push_reserved) → IsKept (chapter_with c) c.step.new.state
kept c = taken (old c) (chapter_with c) c.self.inside.state _ c.args.event c.self.invariant.kept c.requires.in_range c.requires.plain (search rules) (search rules) (search rules)

pub returns-clause-runs : goal.returns-clause-runs
returns-clause-runs c = whole_runs (chapter_with c) (kept c).lawful

pub invariant_of-self-2 : goal.invariant_of-self-2
invariant_of-self-2 c =
    let last = last_kept (old c) (chapter_with c) c.args.event c.self.inside.last c.self.inside.na.items c.self.inside.be.items (search rules) c.self.invariant.last in
    record { kept = kept c; in_range = c.self.invariant.in_range; last = last }
