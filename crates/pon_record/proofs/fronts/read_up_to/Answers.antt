use Rattle.std.proofs.Common.{◌≡◌, ◌+◌, ◌≤◌, ◌++◌, List, ℕ, length, take, arith, refl, rules, ◌∙◌}
use Rattle.std.proofs.lemmas.Grind.{common_steps}
use Rattle.pon_device.specs.Device.{IsAtEnd}
use Rattle.pon_record.proofs.ChapterFronts.{filled, grows_more, grows_none, no_more}
use Rattle.pon_record.proofs.fronts.read_up_to.Goals as goal

pub loop-buffer-init : goal.loop-buffer-init
loop-buffer-init g c = record { grows = grows_none _ _ _; none_failed = refl }

pub loop-buffer-preserved : goal.loop-buffer-preserved
loop-buffer-preserved g c =
    let left = g.R.DevRead.remaining c.loop-buffer.reader in
    let new = g.R.DevRead.remaining c.read.new.self in
    let piece : List ℕ = take c.in_ok-count.count c.read.new.buf in
    let is : c.extend_from_slice.new.self.items ≡ c.loop-buffer.buffer.items ++ piece = grind (arith, common_steps) in
    let fits : length c.loop-buffer.buffer.items + length piece ≤ c.args.size = grind (arith, common_steps) in
    record {
      grows = grows_more _ c.loop-buffer.buffer.items _ _ _ left new piece c.loop-buffer.invariant.grows c.in_ok-count.ensures.bytes.0 is fits;
      none_failed = c.in_ok-count.ensures.failures ∙ c.loop-buffer.invariant.none_failed;
    }

pub returns-then-count-eq0-clause-ok : goal.returns-then-count-eq0-clause-ok
returns-then-count-eq0-clause-ok g c =
    let end : IsAtEnd (g.R.DevRead.remaining c.read.new.self) = search rules in
    no_more _ _ c.read.new.buf _ c.in_ok-count.count _ _ _ c.loop-buffer.invariant.grows c.if-count-eq0.true c.in_ok-count.ensures.bytes.0 end

pub returns-then-count-eq0-clause-failures : goal.returns-then-count-eq0-clause-failures
returns-then-count-eq0-clause-failures g c = c.in_ok-count.ensures.failures ∙ c.loop-buffer.invariant.none_failed

pub returns-clause-ok : goal.returns-clause-ok
returns-clause-ok g c = filled _ _ _ _ _ c.loop-buffer.invariant.grows (λ less. absurd (omega (arith, less)))

pub returns-clause-failures : goal.returns-clause-failures
returns-clause-failures g c = c.loop-buffer.invariant.none_failed
