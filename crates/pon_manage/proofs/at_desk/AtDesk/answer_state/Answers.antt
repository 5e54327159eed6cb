use Rattle.pon_manage.proofs.ShownViews.{shown_text}
use Rattle.pon_manage.proofs.at_desk.AtDesk.answer_state.Goals as goal

pub returns-clause-ok : goal.returns-clause-ok
returns-clause-ok g c =
    shown_text c.args.replies.now.items c.append_shown.new.replies.items c.append_shown.result c.in_ok-view.view c.shown_in.result c.in_ok-view.ensures c.shown_in.ensures c.append_shown.ensures.ok
