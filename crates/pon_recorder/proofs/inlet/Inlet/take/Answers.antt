use Rattle.pon_lists.specs.Kept.{kept_items}
use Rattle.pon_ring.specs.Rings.{received_chapters}
use Rattle.pon_recorder.proofs.KeptChapters.{keeps_any}
use Rattle.pon_recorder.proofs.RingEnds.{still_named}
use Rattle.pon_recorder.proofs.inlet.Inlet.take.Goals as goal

pub invariant_of-self : goal.invariant_of-self
invariant_of-self g c = record {
  named = c.args.self.now.named;
  of_port = still_named (g.K.Rings.ring c.args.self.now.port) c.args.self.now.ring c.pop-popped.new.self c.args.self.now.of_port c.pop-popped.ensures.ring;
  kept = keeps_any (kept_items c.args.self.now.taken) (kept_items c.keep_any.new.taken) (received_chapters c.args.self.now.ring) (received_chapters c.pop-popped.new.self) c.pop-popped.result
      c.args.self.now.kept c.keep_any.ensures.kept c.pop-popped.ensures.popped;
}

pub returns-clause-taken : goal.returns-clause-taken
returns-clause-taken g c = (c.pop-popped.result, c.keep_any.ensures.there, record { same = c.pop-popped.ensures.ring; received = c.pop-popped.ensures.popped }, c.record_on-maps.result, c.record_on-maps.ensures.taken, c.add.ensures)
