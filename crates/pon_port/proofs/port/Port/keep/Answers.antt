use Rattle.std.proofs.Common.{Result, Ok, Err, OnOk, subst, sym}
use Rattle.pon_admit.specs.declared.event.Event.TheVariants.{MakeMap}
use Rattle.pon_state.specs.declared.reply.Reply.TheVariants.{Map}
use Rattle.pon_history.specs.Chapters.{present_state}
use Rattle.pon_history.specs.FairMaps.{IsFairMap}
use Rattle.pon_history.specs.Taking.{Keeps, Takes}
use Rattle.pon_port.proofs.port.Port.keep.Goals as goal

pub keep_map-requires-clause-ready : goal.keep_map-requires-clause-ready
keep_map-requires-clause-ready c = rw c.ready_map.ensures.same c.in_ok-next.ensures.ready

-- two facts about a success give a third
both : {T E : Type 0} (r : Result T E) (A B C : Type 0) → (A → B → C) → OnOk r A → OnOk r B → OnOk r C
both (Ok x) A B C f a b = f a b
both (Err e) A B C f a b = tt

pub returns-in-MakeMap-clause-ok : goal.returns-in-MakeMap-clause-ok
returns-in-MakeMap-clause-ok c =
    let old = c.args.self.now in
    let new = c.keep_map.new.self in
    let made = c.in_ok-next.next.made in
    both c.keep_map.result (Takes c.ready_map.new.self MakeMap (Map made) new) (IsFairMap (present_state c.ready_map.new.self) made) (Keeps old c.args.event new)
    (λ takes fair. record {
      reply = Map made;
      takes = subst (λ v. Takes old v (Map made) new) (sym c.in-MakeMap.is) (subst (λ before. Takes before MakeMap (Map made) new) c.ready_map.ensures.same takes);
      fair = subst (λ before. IsFairMap (present_state before) made) c.ready_map.ensures.same fair;
    })
    c.keep_map.ensures.ok c.keep_map.ensures.fair
