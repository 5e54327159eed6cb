-- A port that turned has taken as many entries as before.
use Rattle.std.proofs.Common.{◌≡◌, ◌+◌, ◌∙◌, ap, arith}
use Rattle.std.specs.Prelude.{IfOk, OnErr, Result, Ok, Err}
use Rattle.pon_descr.specs.declared.refusal.Refusal.{Refusal}
use Rattle.pon_history.specs.Chapters.{Chapter, present_state}
use Rattle.pon_history.specs.Taking.{Turns}
use Rattle.pon_history.proofs.Legality.{replay_later}
use Rattle.pon_desk.specs.Counts.{taken_of}

turned_count : (old chapter new : Chapter) → Turns old chapter new → taken_of new ≡ taken_of old
turned_count old chapter new t =
    let count : (present_state old).taken_before + 0 ≡ taken_of old = omega (arith, (replay_later old.opening old.entries).taken_before) in
    ap taken_of t.begun ∙ count

pub same_count : (old new : Chapter) (result : Result Chapter Refusal) → IfOk result (λ chapter. Turns old chapter new) → OnErr result (new ≡ old) → taken_of new ≡ taken_of old
same_count old new (Ok chapter) turned kept = turned_count old chapter new turned
same_count old new (Err refusal) turned kept = ap taken_of kept
