use Rattle.std.proofs.Common.{◌≡◌, ◌++◌, ◌∷◌, ◌≤◌, [], arith, drop, length, rules}
use Rattle.std.proofs.lemmas.List.{drop-append-le, length-drop, length_push}
use Rattle.pon_guar.specs.Sums.{sums_beside}
use Rattle.pon_guar.specs.Window.{WindowMap}
use Rattle.pon_guar.proofs.RunningSums.{summed_restored}
use Rattle.pon_guar.proofs.Windows.{one_restored}
use Rattle.pon_guar.proofs.window.Window.restore.Goals as goal

pub invariant_of-self-2 : goal.invariant_of-self-2
invariant_of-self-2 c =
    let past = c.self.inside.past in
    let kept = c.self.inside.maps.items in
    let held = c.prepare_next.new.sums.items in
    let full : length held ≡ length kept = c.in_ok-next.ensures.as_many in
    let as_many : length (drop past held) ≡ length (drop past kept) = omega (arith, full, length-drop past held, length-drop past kept) in
    let new : WindowMap = record { frame = c.args.frame; grants = c.args.grants.items; reported = c.args.reported.items } in
    let next = sums_beside (drop past kept) (drop past held) c.args.grants.items in
    let pushed : c.push_reserved.new.self.items ≡ kept ++ new ∷ [] = search rules in
    let beside : c.push_reserved-2.new.self.items ≡ held ++ next ∷ [] = search rules in
    let within : past ≤ length kept = c.self.invariant.within in
    let also : past ≤ length held = omega (arith, full, within) in
    rw (pushed, beside) (record {
      within = omega (arith, length_push kept new, within);
      window = rw (drop-append-le past kept (new ∷ []) within) (one_restored (drop past kept) c.self.invariant.window new (search rules) (search rules) c.requires.lawful);
      summed = λ e. rw (drop-append-le past kept (new ∷ []) within, drop-append-le past held (next ∷ []) also)
          (summed_restored new (drop past kept) (drop past held) (c.prepare_next.ensures.kept.summed full) as_many (search rules));
      without = λ other. absurd (other (omega (arith, length_push kept new, length_push held next, full)));
    })

pub invariant_of-self : goal.invariant_of-self
invariant_of-self c = rw c.prepare_next.ensures.maps c.prepare_next.ensures.kept
