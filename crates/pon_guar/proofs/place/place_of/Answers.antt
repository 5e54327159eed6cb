use Rattle.std.proofs.Common.{rules}
use Rattle.pon_guar.specs.Window.{frame_after}
use Rattle.pon_guar.proofs.Frames.{no_place_before, no_place_after, place_found}
use Rattle.pon_guar.proofs.place.place_of.Goals as goal

pub returns-in_err-checked_sub-clause-none : goal.returns-in_err-checked_sub-clause-none
returns-in_err-checked_sub-clause-none c = λ _.
    no_place_before (frame_after c.args.window.now) c.args.frame c.args.window.now c.in_ok-first.first.now c.requires (search rules) (search rules)

pub returns-then-place-window-clause-some : goal.returns-then-place-window-clause-some
returns-then-place-window-clause-some c =
    place_found (frame_after c.args.window.now) c.args.frame c.args.window.now c.in_ok-first.first.now c.requires (search rules) c.in_ok-place.place (search rules) (search rules)

pub returns-else-place-window-clause-none : goal.returns-else-place-window-clause-none
returns-else-place-window-clause-none c = λ _.
    no_place_after (frame_after c.args.window.now) c.args.frame c.args.window.now c.in_ok-first.first.now c.requires (search rules) (search rules)
