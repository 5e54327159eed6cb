use Rattle.std.proofs.Common.{◌≡◌, rules, subst, sym}
use Rattle.std.specs.Prelude.{None, length}
use Rattle.pon_history.specs.Chapters.{Chapter, present_state}
use Rattle.pon_history.specs.FairMaps.{IsFairMap}
use Rattle.pon_history.specs.Taking.{Takes, refusal_of, with_entry}
use Rattle.pon_port.specs.Ports.{IsReady}
use Rattle.pon_state.specs.Checks.{first_refusal}
use Rattle.pon_admit.specs.declared.event.Event.TheVariants.{MakeMap}
use Rattle.pon_state.specs.declared.reply.Reply.TheVariants.{Map}
use Rattle.pon_history.proofs.Kept.{kept_frames, map_taken, mapped}
use Rattle.pon_history.proofs.FairMaps.{fair_map}
use Rattle.pon_port.proofs.LastMaps.{last_made}
use Rattle.pon_history.proofs.OneReply.{taken_lawful}
use Rattle.pon_history.proofs.WordRuns.{whole_runs}
use Rattle.pon_port.proofs.port.Port.keep_map.Goals as goal

-- the finished map is one of the state that the port has, in which no check refuses it
ready : (c : goal.After-push_reserved) → IsReady c.self.inside.state c.args.next
ready c = subst (λ s. IsReady s c.args.next) (sym c.self.invariant.kept.replayed) (subst (λ port. IsReady (present_state port) c.args.next) (sym c.self.view_is) c.requires.ready)

accepted : (c : goal.After-push_reserved) → first_refusal (length c.self.inside.entries.items) c.self.inside.state MakeMap ≡ None
accepted c =
    subst (λ s. first_refusal (length c.self.inside.entries.items) s MakeMap ≡ None) (sym c.self.invariant.kept.replayed)
    (subst (λ port. refusal_of port MakeMap ≡ None) (sym c.self.view_is) c.requires.accepted)

-- the port before and after it
abbrev old : goal.After-push_reserved → Chapter
old c = record { number = c.self.inside.number; opening = c.self.inside.opening; entries = c.self.inside.entries.items }

abbrev new : goal.After-push_reserved → Chapter
new c = record { number = c.self.inside.number; opening = c.self.inside.opening; entries = c.push_reserved.new.self.items }

more : (c : goal.After-push_reserved) → new c ≡ with_entry (old c) MakeMap (Map c.args.next.made)
more c = search rules

takes : (c : goal.After-push_reserved) → Takes (old c) MakeMap (Map c.args.next.made) (new c)
takes c = map_taken (old c) (new c) c.self.inside.state c.args.next.made c.self.invariant.kept (accepted c) (ready c).made (more c)

pub invariant_of-self-2 : goal.invariant_of-self-2
invariant_of-self-2 c = record {
  kept = mapped (old c) (new c) c.self.inside.state _ c.args.next.made c.self.invariant.kept (accepted c) (ready c).made (more c) (rw (← (ready c).grants, ← (ready c).carries) (search rules));
  in_range = c.self.invariant.in_range;
  last = last_made (old c) (new c) c.self.inside.state c.args.next.made c.len-index.result c.args.next.na.items c.args.next.be.items c.self.invariant.kept (ready c).made (more c) (search rules) (ready c).na (ready c).be;
}

pub returns-clause-ok : goal.returns-clause-ok
returns-clause-ok c = subst (λ old. Takes old MakeMap (Map c.args.next.made) (new c)) c.self.view_is (takes c)

pub returns-clause-runs : goal.returns-clause-runs
returns-clause-runs c = whole_runs (new c) (taken_lawful (old c) (new c) MakeMap (Map c.args.next.made) c.self.invariant.kept.lawful (takes c))

pub add_map-requires-clause-frames : goal.add_map-requires-clause-frames
add_map-requires-clause-frames c = kept_frames _ c.self.inside.state c.self.invariant.kept

pub returns-clause-fair : goal.returns-clause-fair
returns-clause-fair c =
    let fair : IsFairMap (present_state (old c)) c.args.next.made
    = rw c.self.invariant.kept.replayed at (fair_map c.self.inside.state c.self.invariant.kept.admitted c.self.invariant.kept.carries c.args.next.made (ready c).made) in
    subst (λ old. IsFairMap (present_state old) c.args.next.made) c.self.view_is fair
