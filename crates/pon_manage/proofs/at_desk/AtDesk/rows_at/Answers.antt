use Rattle.std.proofs.Common.{of_calls, ◌≡◌}
use Rattle.pon_history.specs.Chapters.{present_state}
use Rattle.pon_why.specs.RowViews.{row_views}
use Rattle.pon_manage.proofs.ShownViews.{of_some_port}
use Rattle.pon_manage.proofs.at_desk.AtDesk.rows_at.Goals as goal

pub returns : goal.returns
returns g c =
    let told = rw c.unwrap.ensures at c.inspect-copied.ensures.answer in
    of_some_port (λ at views. views.items ≡ row_views (present_state at)) c.unwrap.result told.2.0.now told.0 told.1 told.2.2 (search of_calls)
