use Rattle.std.proofs.Common.{◌≡◌, ◌+◌, ◌-◌, ◌≤◌, ap, arith, length, rules, sym, ◌∙◌}
use Rattle.pon_state.specs.Entries.{entry_in}
use Rattle.pon_recorder.specs.PortMaps.{map_count}
use Rattle.pon_recorder.proofs.MapCounts.{count_here, count_within, first_below, none_here}
use Rattle.pon_recorder.proofs.map_count.map_count.Goals as goal

pub overflow_sub-result : goal.overflow_sub-result
overflow_sub-result c =
    let first : c.get-first.result ≡ c.args.chapter.now.opening.next = c.get-first.ensures ∙ c.next_frame.ensures ∙ ap (λ s. s.next) c.opening.ensures.opening in
    let below = first_below c.args.chapter.now c.entries-entries.result.now c.loop-end.end c.index-entries-end.result c.entries-entries.ensures.lawful c.entries-entries.ensures.entries
    (search rules) c.loop-end.invariant.within c.loop-end.invariant.maps c.index-entries-end.is c.in-Map.made.now (sym c.as_ref.ensures ∙ ap entry_in c.in-Map.is) in
    omega (arith, first, c.get.ensures, below)

pub overflow_add-result : goal.overflow_add-result
overflow_add-result c =
    let first : c.get-first.result ≡ c.args.chapter.now.opening.next = c.get-first.ensures ∙ c.next_frame.ensures ∙ ap (λ s. s.next) c.opening.ensures.opening in
    let within = count_within c.args.chapter.now c.entries-entries.result.now c.loop-end.end c.index-entries-end.result c.entries-entries.ensures.lawful c.entries-entries.ensures.entries
    (search rules) c.loop-end.invariant.within c.loop-end.invariant.maps c.index-entries-end.is c.in-Map.made.now (sym c.as_ref.ensures ∙ ap entry_in c.in-Map.is) in
    search rules

pub returns-in-Map : goal.returns-in-Map
returns-in-Map c =
    let first : c.get-first.result ≡ c.args.chapter.now.opening.next = c.get-first.ensures ∙ c.next_frame.ensures ∙ ap (λ s. s.next) c.opening.ensures.opening in
    let count = count_here c.args.chapter.now c.entries-entries.result.now c.loop-end.end c.index-entries-end.result c.entries-entries.ensures.lawful c.entries-entries.ensures.entries
    (search rules) c.loop-end.invariant.within c.loop-end.invariant.maps c.index-entries-end.is c.in-Map.made.now (sym c.as_ref.ensures ∙ ap entry_in c.in-Map.is) in
    omega (arith, first, c.get.ensures, count)

pub loop-end-preserved : goal.loop-end-preserved
loop-end-preserved c = record {
  within = omega (arith, c.loop-end.invariant.within);
  maps = none_here c.args.chapter.now c.entries-entries.result.now c.loop-end.end c.index-entries-end.result c.entries-entries.ensures.lawful c.entries-entries.ensures.entries
      (search rules) c.loop-end.invariant.within c.loop-end.invariant.maps c.index-entries-end.is c.in_default.field-0.now (sym c.as_ref.ensures ∙ ap entry_in c.in_default.is);
}
