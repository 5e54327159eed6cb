-- The number of maps of a chapter, from the frame of its last map.
use Rattle.std.proofs.Common.{◌≡◌, ℕ, ◌+◌, ◌-◌, ◌<◌, ◌≤◌, List, length, get_or, ap, arith, refl, subst, sym, ◌∙◌}
use Rattle.std.specs.Prelude.{take, false, true, slice_get, Some}
use Rattle.std.proofs.lemmas.List.Sums.{count_by-le-length, count_by_more_no, count_by_more_yes}
use Rattle.std.proofs.lemmas.Option.{slice_get-get_or}
use Rattle.pon_admit.specs.declared.event.Event.{Event}
use Rattle.pon_admit.specs.declared.event.Event.TheVariants.{Admit, Change, Remove, Report, MakeMap, Fail, Restore}
use Rattle.pon_state.specs.Entry.{Entry}
use Rattle.pon_state.specs.Maps.{makes_map}
use Rattle.pon_state.specs.Legal.{IsReply, MayFollow}
use Rattle.pon_state.specs.State.{State}
use Rattle.pon_state.specs.declared.reply.Reply.TheVariants as reply
use Rattle.pon_state.specs.declared.reply.MadeMap.{MadeMap}
use Rattle.pon_history.specs.Chapters.{Chapter, IsLawfulChapter, cut_at, state_before}
use Rattle.pon_history.proofs.ClosedForms.{closed_at_present}
use Rattle.pon_history.proofs.LawfulChapters.{front_lawful}
use Rattle.pon_recorder.specs.PortMaps.{map_count}

-- an entry without a map in its reply makes none
no_map : (s : State) (v : Event) → IsReply s v reply.Taken → makes_map v ≡ false
no_map s (Admit r) given = refl
no_map s (Change a d) given = refl
no_map s (Remove a) given = refl
no_map s (Report f u o) given = refl
no_map s MakeMap given = absurd given
no_map s (Fail cause) given = refl
no_map s Restore given = refl

-- an entry of a chapter, before which all entries but `end` are read, and after which there is no map
module _ (c : Chapter) (es : List Entry) (end : ℕ) (e : Entry) (lawful : IsLawfulChapter c) (are : es ≡ c.entries) (some : 0 < end) (within : end ≤ length c.entries)
    (all : map_count c.entries ≡ map_count (take end c.entries)) (at : e ≡ get_or es (end - 1) e) where
  here : get_or c.entries (end - 1) e ≡ e
  here = ap (λ (l : List Entry). get_or l (end - 1) e) (sym are) ∙ sym at

  before : end - 1 < length c.entries
  before = omega (arith, some, within)

  next : map_count c.entries ≡ map_count (take (end - 1 + 1) c.entries)
  next = all ∙ ap (λ (n : ℕ). map_count (take n c.entries)) (omega (arith, some))

  may : MayFollow (end - 1) (state_before c (end - 1)) e
  may = lawful.legal (end - 1) e (slice_get-get_or c.entries (end - 1) e before ∙ ap Some here)

  -- it is no map
  pub none_here : (v : Event) → e ≡ record { event = v; reply = reply.Taken } → map_count c.entries ≡ map_count (take (end - 1) c.entries)
  none_here v is =
      let given : IsReply (state_before c (end - 1)) v reply.Taken = subst (λ (x : Entry). IsReply (state_before c (end - 1)) x.event x.reply) is may.reply in
      next ∙ count_by_more_no (λ x. makes_map x.event) c.entries (end - 1) e before (ap (λ (x : Entry). makes_map x.event) (here ∙ is) ∙ no_map (state_before c (end - 1)) v given)

  -- it is the last map
  module _ (made : MadeMap) (is : e ≡ record { event = MakeMap; reply = reply.Map made }) where
    one_here : map_count c.entries ≡ map_count (take (end - 1) c.entries) + 1
    one_here = next ∙ count_by_more_yes (λ x. makes_map x.event) c.entries (end - 1) e before (ap (λ (x : Entry). makes_map x.event) (here ∙ is))

    frame_here : made.frame ≡ c.opening.next + map_count (take (end - 1) c.entries)
    frame_here =
        let given : IsReply (state_before c (end - 1)) MakeMap (reply.Map made) = subst (λ (x : Entry). IsReply (state_before c (end - 1)) x.event x.reply) is may.reply in
        given.frame ∙ ap (λ (s : State). s.next) (closed_at_present (cut_at c (end - 1)) (front_lawful c lawful (end - 1)))

    pub first_below : c.opening.next ≤ made.frame
    first_below = omega (arith, frame_here)

    pub count_here : made.frame - c.opening.next + 1 ≡ map_count c.entries
    count_here = omega (arith, frame_here, one_here)

    pub count_within : made.frame - c.opening.next + 1 ≤ length c.entries
    count_within = omega (arith, count_here, count_by-le-length (λ x. makes_map x.event) c.entries)
