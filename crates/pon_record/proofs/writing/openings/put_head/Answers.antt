use Rattle.std.proofs.Common.{◌++◌, ap, ◌∙◌, ℕ}
use Rattle.std.specs.Prelude.{Option}
use Rattle.std.specs.Int.{w64, to_be_bytes}
use Rattle.pon_record.specs.Fields.{failure, gap, profile}
use Rattle.pon_record.proofs.Put.{put_after}
use Rattle.pon_record.proofs.writing.openings.put_head.Goals as goal

pub returns : goal.returns
returns c =
    let old = c.args.bytes.now.items in
    let s = c.args.value.now in
    let e0 = c.in_ok-put_gap.ensures ∙ ap (λ (v : ℕ). old ++ gap.write v) c.cfg-cfg.ensures.gap in
    let e1 = c.in_ok-put_profile.ensures ∙ ap (λ (v : ℕ). c.put_gap.new.bytes.items ++ profile.write v) c.cfg-cfg.ensures.profile in
    let t1 = put_after old (gap.write s.gap) (profile.write s.profile) c.put_gap.new.bytes.items c.put_profile.new.bytes.items e0 e1 in
    let e2 = c.in_ok-put_failure.ensures ∙ ap (λ (v : Option ℕ). c.put_profile.new.bytes.items ++ failure.write v) c.cause.ensures in
    let t2 = put_after old ((gap.write s.gap) ++ profile.write s.profile) (failure.write s.cause) c.put_profile.new.bytes.items c.put_failure.new.bytes.items t1 e2 in
    let e3 = c.in_ok-put_frame.ensures ∙ ap (λ (v : ℕ). c.put_failure.new.bytes.items ++ to_be_bytes w64 v) c.next_frame.ensures in
    let t3 = put_after old (((gap.write s.gap) ++ profile.write s.profile) ++ failure.write s.cause) (to_be_bytes w64 s.next) c.put_failure.new.bytes.items c.put_frame.new.bytes.items t2 e3 in
    let e4 = c.in_ok-put_u64.ensures ∙ ap (λ (v : ℕ). c.put_frame.new.bytes.items ++ to_be_bytes w64 v) c.taken_before.ensures in
    put_after old ((((gap.write s.gap) ++ profile.write s.profile) ++ failure.write s.cause) ++ to_be_bytes w64 s.next) (to_be_bytes w64 s.taken_before) c.put_frame.new.bytes.items c.put_u64.new.bytes.items t3 e4
