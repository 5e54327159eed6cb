use Rattle.std.proofs.Common.{◌∙◌, rules, sym}
use Rattle.pon_recorder.proofs.RingEnds.{ring_here}
use Rattle.pon_recorder.proofs.recording_thread.split_rings.Goals as goal

pub new-requires : goal.new-requires
new-requires g c = λ o e.
    c.in-Some.ring.ends o
    (sym (ring_here g.K.Rings.ring c.args.rings.items c.loop-ring.yielded c.loop-ring.ring-iterator.rest.items c.next.new.self.rest.items c.in-Some.ring c.at-port.result
    c.requires.named c.loop-ring.invariant.all c.in-Some.ensures.steps.0 (search rules)) ∙ e)

pub new-requires-in-Some-out-clause-named : goal.new-requires-in-Some-out-clause-named
new-requires-in-Some-out-clause-named g c =
    ring_here g.K.Rings.ring c.args.rings.items c.loop-ring.yielded c.loop-ring.ring-iterator.rest.items c.next.new.self.rest.items c.in-Some.ring c.at-port.result
    c.requires.named c.loop-ring.invariant.all c.in-Some.ensures.steps.0 (search rules)
    ∙ c.in-Some-out.is

pub new-requires-in-Some-out-clause-none_received : goal.new-requires-in-Some-out-clause-none_received
new-requires-in-Some-out-clause-none_received g c = c.in-Some.ring.none_received c.in-Some-out.out c.in-Some-out.is

pub loop-ring-init : goal.loop-ring-init
loop-ring-init g c = record { all = c.into_iter-ring-iterator.ensures.into_iter_gives.0; count = c.in_ok-sinks.ensures.len }

pub invariant_of-ring : goal.invariant_of-ring
invariant_of-ring g c = record { ends = c.in-Some.ring.ends; none_received = c.in-Some.ring.none_received }
