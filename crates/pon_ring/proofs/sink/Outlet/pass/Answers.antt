use Rattle.std.proofs.Common.{◌≡◌, ℕ, ◌++◌, ◌∷◌, [], rules, subst, sym, true}
use Rattle.std.specs.Prelude.{Option, None, option_to_list}
use Rattle.pon_ring.specs.Numbers.{AreBelow, ComesAfter, next_number}
use Rattle.pon_ring.specs.Rings.{sent_chapters}
use Rattle.pon_ring.specs.Sinks.{passed}
use Rattle.pon_ring.proofs.Outlets.{after_sent, below_back, below_sent, none_waits, waits_back}
use Rattle.pon_ring.proofs.sink.Outlet.pass.Goals as goal

pub invariant_of-self-in-Err : goal.invariant_of-self-in-Err
invariant_of-self-in-Err c =
    let sent = sent_chapters c.note-newer.new.self.ring in
    let none : c.note-newer.new.self.pending ≡ None = search rules in
    let newer : c.note-newer.result ≡ true = search rules in
    let above : AreBelow c.number.result (passed c.note-newer.new.self) = search rules in
    let after : ComesAfter sent c.args.chapter = after_sent c.note-newer.new.self.pending none sent c.args.chapter (subst (λ (n : ℕ). AreBelow n (passed c.note-newer.new.self)) c.number.ensures above) in
    let same : sent_chapters c.push.new.self ≡ sent = c.in-Err.ensures.full.1 in
    record {
      waits = waits_back sent (sent_chapters c.push.new.self) c.in-Err.back c.args.chapter after same c.in-Err.ensures.full.0;
      up_to = subst (λ (o : Option ℕ). AreBelow (next_number o) (sent_chapters c.push.new.self ++ c.in-Err.back ∷ [])) (sym (c.note-newer.ensures.noted newer))
          (below_back sent (sent_chapters c.push.new.self) c.in-Err.back c.args.chapter c.number.result after same c.in-Err.ensures.full.0 c.number.ensures);
    }

pub invariant_of-self-in_default : goal.invariant_of-self-in_default
invariant_of-self-in_default c =
    let sent = sent_chapters c.note-newer.new.self.ring in
    let pending = c.note-newer.new.self.pending in
    let none : pending ≡ None = search rules in
    let newer : c.note-newer.result ≡ true = search rules in
    let above : AreBelow c.number.result (passed c.note-newer.new.self) = search rules in
    let after : ComesAfter sent c.args.chapter = after_sent pending none sent c.args.chapter (subst (λ (n : ℕ). AreBelow n (passed c.note-newer.new.self)) c.number.ensures above) in
    let more : sent_chapters c.push.new.self ≡ sent ++ c.args.chapter ∷ [] = search rules in
    record {
      waits = none_waits pending none (sent_chapters c.push.new.self);
      up_to = subst (λ (o : Option ℕ). AreBelow (next_number o) (sent_chapters c.push.new.self ++ option_to_list pending)) (sym (c.note-newer.ensures.noted newer))
          (below_sent pending none sent (sent_chapters c.push.new.self) c.args.chapter c.number.result after more c.number.ensures);
    }
