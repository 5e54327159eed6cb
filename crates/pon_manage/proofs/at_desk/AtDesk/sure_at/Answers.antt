use Rattle.std.proofs.Common.{of_calls, subst, ◌≡◌}
use Rattle.pon_history.specs.Chapters.{present_state}
use Rattle.pon_manage.specs.Sures.{sure_in}
use Rattle.pon_manage.proofs.at_desk.AtDesk.sure_at.Goals as goal

pub returns : goal.returns
returns g c =
    let told = rw c.unwrap.ensures at c.inspect-copied.ensures.answer in
    (told.0, told.1, subst (λ at. c.unwrap.result ≡ sure_in (present_state at) c.args.alloc_id) told.2.2 (search of_calls))
