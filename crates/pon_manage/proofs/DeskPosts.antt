-- The replies with the answer to an event at a desk.
use Rattle.std.proofs.Common.{◌≡◌, List, ℕ, ap, inl, inr, refl, subst, ◌∙◌}
use Rattle.std.specs.Prelude.{Result, Ok, Err, OnOk, ◌++◌, ◌≢◌}
use Rattle.pon_desk.specs.Counts.{SeatState, one_more_at}
use Rattle.pon_lists.specs.Kept.{AddsTo}
use Rattle.pon_desk.specs.Posts.{IsSomePost, IsSomeRefusal, NamesPost}
use Rattle.pon_desk.specs.Receipts.{Receipt}
use Rattle.pon_admit.specs.declared.event.Event.{Event}
use Rattle.pon_descr.specs.declared.refusal.Refusal.{Refusal}
use Rattle.pon_descr.specs.declared.refusal.Refusal.TheVariants.{OutOfMemory}
use Rattle.pon_state.specs.declared.reply.Reply.{Reply}
use Rattle.pon_line.specs.declared.fault.LineFault.TheVariants.{Port}
use Rattle.pon_line.specs.declared.reading.Reading.TheVariants.{Asks}
use Rattle.pon_manage.specs.Desks.{AddsText, DeskAnswers, KeepsReceipt}
use Rattle.pon_manage.specs.Text.{refusal_line, reply_line}

pub refused_post : {T E : Type 0} (port : ℕ) (event : Event) (old new : SeatState) (told : Refusal) (replies_old replies_new : List ℕ) (r : Result T E) → IsSomeRefusal event told → told ≢ OutOfMemory → new ≡ old →
    OnOk r (replies_new ≡ replies_old ++ refusal_line (Port told)) → OnOk r (AddsText (λ text. DeskAnswers old (Asks port event) text new) replies_old replies_new)
refused_post port event old new told replies_old replies_new (Ok done) some other same is = (refusal_line (Port told), inr ((told, some, other, refl), same), is)
refused_post port event old new told replies_old replies_new (Err e) some other same is = tt

-- the seat counts the post, and then was given its receipt
pub kept_post : {T E : Type 0} (port : ℕ) (event : Event) (old mid new : SeatState) (receipt : Receipt) (index : ℕ) (reply : Reply) (replies_old replies_new : List ℕ) (r : Result T E) → IsSomePost event receipt → NamesPost port old receipt →
    mid ≡ one_more_at port old → new.number ≡ mid.number → new.counts ≡ mid.counts → AddsTo mid.receipts receipt new.receipts → index ≡ receipt.placed.index → reply ≡ receipt.placed.entry.reply →
    OnOk r (replies_new ≡ replies_old ++ reply_line index reply) → OnOk r (AddsText (λ text. DeskAnswers old (Asks port event) text new) replies_old replies_new)
kept_post port event old mid new receipt index reply replies_old replies_new (Err e) some names counted number counts kept is_index is_reply is = tt
kept_post port event old mid new receipt index reply replies_old replies_new (Ok done) some names counted number counts kept is_index is_reply is = (
  reply_line index reply,
  inl (receipt, some, keeps, (λ i. reply_line (is_index i) (is_reply i))),
  is,
)
  where
    keeps : KeepsReceipt port old receipt new
    keeps = record {
      names = names;
      number = number ∙ ap (λ (s : SeatState). s.number) counted;
      counts = counts ∙ ap (λ (s : SeatState). s.counts) counted;
      kept = subst (λ (s : SeatState). AddsTo s.receipts receipt new.receipts) counted kept;
    }

-- the same at the number that names the port
pub at_port : {T E : Type 0} (port named : ℕ) (event : Event) (old new : SeatState) (replies_old replies_new : List ℕ) (r : Result T E) → port ≡ named →
    OnOk r (AddsText (λ text. DeskAnswers old (Asks port event) text new) replies_old replies_new) → OnOk r (AddsText (λ text. DeskAnswers old (Asks named event) text new) replies_old replies_new)
at_port port named event old new replies_old replies_new r same told =
    subst (λ p. OnOk r (AddsText (λ text. DeskAnswers old (Asks p event) text new) replies_old replies_new)) same told
