-- A lawful chapter has at most one reply to an event, and is lawful with that entry.
use Rattle.std.proofs.Common.{◌≡◌, ap, sym, ◌∙◌, subst}
use Rattle.pon_history.specs.Chapters.{Chapter, IsLawfulChapter, present_state}
use Rattle.pon_history.specs.Taking.{Takes, with_entry}
use Rattle.pon_admit.specs.declared.event.Event.{Event}
use Rattle.pon_state.specs.declared.reply.Reply.{Reply}
use Rattle.pon_history.proofs.Legality.{legal_one_more}
use Rattle.pon_history.proofs.LawfulChapters.{present_lawful}
use Rattle.pon_state.proofs.Replies.{one_reply}

pub one_taken : (c d e : Chapter) (v : Event) (a b : Reply) → IsLawfulChapter c → Takes c v a d → Takes c v b e → (a ≡ b) × (d ≡ e)
one_taken c d e v a b l p q =
    let same : a ≡ b = one_reply (present_state c) (present_lawful c l).admitted v a b p.follows.reply q.follows.reply in
    (same, p.kept ∙ ap (with_entry c v) same ∙ sym q.kept)

pub taken_lawful : (c d : Chapter) (v : Event) (a : Reply) → IsLawfulChapter c → Takes c v a d → IsLawfulChapter d
taken_lawful c d v a l p =
    subst IsLawfulChapter (sym p.kept) (record { opening = l.opening; legal = legal_one_more c (record { event = v; reply = a }) l.legal p.follows })
