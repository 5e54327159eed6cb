use Rattle.std.proofs.Common.{◌≡◌, ◌++◌, take}
use Rattle.std.specs.Prelude.{filter_map}
use Rattle.pon_resume.specs.Changes.{descriptor_for}
use Rattle.pon_resume.proofs.changes.add_descriptors.Given as goal

-- those of the rows so far
abbrev pub invariant-loop-settings : goal.invariant-loop-settings
invariant-loop-settings l = l.changes.items ≡ l.fn.changes.items ++ filter_map (descriptor_for l.rows) (take l.settings-index l.wanted)
