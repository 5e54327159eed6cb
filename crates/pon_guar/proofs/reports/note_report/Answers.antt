use Rattle.std.proofs.Common.{◌≡◌, ◌+◌, drop, get_or, rules}
use Rattle.std.proofs.lemmas.List.{drop-set-add, get_or-drop}
use Rattle.pon_guar.specs.Window.{frame_after}
use Rattle.pon_guar.proofs.Frames.{not_yet_reported, polled_some}
use Rattle.pon_guar.proofs.Polls.{granted_polled, reported_at}
use Rattle.pon_guar.proofs.reports.note_report.Goals as goal

pub note-requires-clause-polled : goal.note-requires-clause-polled
note-requires-clause-polled c =
    let window = drop c.args.past c.args.kept.now in
    let map = c.index-kept-past.result in
    rw (← get_or-drop c.args.past c.args.kept.now c.args.place map) (granted_polled c.args.onu (get_or window c.args.place map)
    (polled_some c.args.frame c.args.onu c.requires.accepted.0 window c.requires.accepted.1 (frame_after window) c.requires.frames c.args.place c.requires.there map))

pub note-requires-clause-first : goal.note-requires-clause-first
note-requires-clause-first c =
    let window = drop c.args.past c.args.kept.now in
    let map = c.index-kept-past.result in
    rw (← get_or-drop c.args.past c.args.kept.now c.args.place map)
    (not_yet_reported c.args.frame c.args.onu c.requires.accepted.0 window c.requires.accepted.1 (frame_after window) c.requires.frames c.args.place c.requires.there map)

pub returns-clause-ok : goal.returns-clause-ok
returns-clause-ok c =
    let window = drop c.args.past c.args.kept.now in
    let map = c.index-kept-past.result in
    let is : get_or window c.args.place map ≡ get_or c.args.kept.now (c.args.past + c.args.place) map = get_or-drop c.args.past c.args.kept.now c.args.place map in
    rw (drop-set-add c.args.past c.args.kept.now c.args.place c.note.new.self)
    (reported_at (frame_after window) c.args.frame c.args.onu window c.requires.frames c.requires.maps c.args.place map c.note.new.self c.requires.there.within (c.requires.there.is map) (rw is (search rules)))
