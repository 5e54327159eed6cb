use Rattle.std.proofs.Common.{◌≡◌, Some, None, rules, subst}
use Rattle.std.specs.Prelude.{slice_index_or}
use Rattle.pon_audit.specs.EndTables.{end_at}
use Rattle.pon_audit.specs.Judging.{IsLast, IsLastOf}
use Rattle.pon_audit.proofs.FirstFaults.{last_told, no_earlier}
use Rattle.pon_audit.proofs.faults.place_fault.Goals as goal

pub returns-in-None-clause-fault : goal.returns-in-None-clause-fault
returns-in-None-clause-fault c = λ earlier judged.
    let t = c.args.ends.now in
    let port = c.args.chapter.now.body.port in
    let same : c.chapter.inside.port ≡ port = search rules in
    let here : end_at t.ends (slice_index_or t.places port None) ≡ None = search rules in
    no_earlier earlier c.args.chapter.now (subst (IsLastOf earlier port) here (last_told earlier t.ends port (slice_index_or t.places port None) (judged.lasts port (rw (← same) c.last_of.ensures.range))))

pub fault_after-requires-clause-kept_last : goal.fault_after-requires-clause-kept_last
fault_after-requires-clause-kept_last c =
    let earlier = c.requires.judged.0 in
    let t = c.args.ends.now in
    let port = c.args.chapter.now.body.port in
    let same : c.chapter.inside.port ≡ port = search rules in
    let here : end_at t.ends (slice_index_or t.places port None) ≡ Some c.in-Some.last.now = search rules in
    let last : IsLast earlier port c.in-Some.last.now = subst (IsLastOf earlier port) here (last_told earlier t.ends port (slice_index_or t.places port None) (c.requires.judged.1.lasts port (rw (← same) c.last_of.ensures.range))) in
    (last.chapter.body, last.ends.kept)

pub returns-then-chapter-last-clause-fault : goal.returns-then-chapter-last-clause-fault
returns-then-chapter-last-clause-fault c = λ earlier judged.
    let t = c.args.ends.now in
    let port = c.args.chapter.now.body.port in
    let same : c.chapter.inside.port ≡ port = search rules in
    let here : end_at t.ends (slice_index_or t.places port None) ≡ Some c.in-Some.last.now = search rules in
    let last : IsLast earlier port c.in-Some.last.now = subst (IsLastOf earlier port) here (last_told earlier t.ends port (slice_index_or t.places port None) (judged.lasts port (rw (← same) c.last_of.ensures.range))) in
    c.in_ok-fallen_fault.ensures.fault earlier c.in-Some.last.now judged last (search rules)

pub returns-clause-fault : goal.returns-clause-fault
returns-clause-fault c = λ earlier judged.
    let t = c.args.ends.now in
    let port = c.args.chapter.now.body.port in
    let same : c.chapter.inside.port ≡ port = search rules in
    let here : end_at t.ends (slice_index_or t.places port None) ≡ Some c.in-Some.last.now = search rules in
    let last : IsLast earlier port c.in-Some.last.now = subst (IsLastOf earlier port) here (last_told earlier t.ends port (slice_index_or t.places port None) (judged.lasts port (rw (← same) c.last_of.ensures.range))) in
    c.fault_after.ensures earlier last
