-- The last map of a chapter after `MakeMap` was taken is the map of its reply.
use Rattle.std.proofs.Common.{◌≡◌, List, [], ◌∷◌, ◌++◌, refl, ap, sym, ◌∙◌, subst}
use Rattle.std.specs.Prelude.{ℕ, Option, Some, None, IfSome, IsSome}
use Rattle.pon_state.specs.State.{State}
use Rattle.pon_state.specs.After.{after_entry}
use Rattle.pon_state.specs.History.{replay}
use Rattle.pon_state.specs.Entry.{Entry}
use Rattle.pon_state.specs.declared.reply.Reply.{Reply}
use Rattle.pon_state.specs.declared.reply.Reply.TheVariants.{Taken, Map}
use Rattle.pon_state.specs.declared.reply.MadeMap.{MadeMap}
use Rattle.pon_admit.specs.declared.event.Event.TheVariants.{MakeMap}
use Rattle.pon_history.specs.Chapters.{Chapter, present_state}
use Rattle.pon_history.specs.FairMaps.{IsFairMap, TellsFairMap}
use Rattle.pon_history.specs.Last.{LastMap, last_map, last_told, told_last}
use Rattle.pon_history.specs.Taking.{Keeps, Takes}
use Rattle.pon_history.specs.WordRuns.{RunsAreWhole}
use Rattle.pon_c.specs.Answers.{Made}

last_push : (before : Option LastMap) (s : State) (es : List Entry) (e : Entry) → last_told before s (es ++ e ∷ []) ≡ told_last (last_told before s es) (replay s es).roster e.reply
last_push before s [] e = refl
last_push before s (x ∷ es) e = last_push (told_last before s.roster x.reply) (after_entry s x) es e

-- a map was made in `d`, and is the last one
record Makes (c d : Chapter) : Type 0 where
  made : MadeMap
  takes : Takes c MakeMap (Map made) d
  fair : IsFairMap (present_state c) made
  last : LastMap
  same : last.made ≡ made
  is_last : last_map d ≡ Some last

makes_by : (c d : Chapter) (reply : Reply) → Takes c MakeMap reply d → TellsFairMap (present_state c) reply → Makes c d
makes_by c d Taken t f = absurd t.follows.reply
makes_by c d (Map made) t f = record {
  made = made;
  takes = t;
  fair = f;
  last = _;
  same = refl;
  is_last = ap last_map t.kept ∙ last_push None c.opening c.entries (record { event = MakeMap; reply = Map made });
}

makes : (c d : Chapter) → Keeps c MakeMap d → Makes c d
makes c d k = makes_by c d k.reply k.takes k.fair

-- there is a last map
pub some_last : (c d : Chapter) → Keeps c MakeMap d → IsSome (last_map d)
some_last c d k = subst IsSome (sym (makes c d k).is_last) refl

-- what is given of the last map is given of the map that was made
pub made : (Given : MadeMap → Type 0) (c d : Chapter) → Keeps c MakeMap d → RunsAreWhole d → IfSome (last_map d) (λ l. Given l.made) → Made Given c d
made Given c d k whole h =
    let m : Makes c d = makes c d k in
    record { made = m.made; takes = m.takes; fair = m.fair; whole = whole; given = subst Given m.same (subst (λ o. IfSome o (λ l. Given l.made)) m.is_last h) }
