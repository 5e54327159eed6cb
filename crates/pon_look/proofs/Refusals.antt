-- A chapter that is refused at the entry of a map.
use Rattle.std.proofs.Common.{◌≡◌, ◌∙◌, ◌<◌, ℕ, Option, Some, ap, get_or, length, sym, subst}
use Rattle.std.specs.Prelude.{slice_get}
use Rattle.std.proofs.lemmas.Option.{slice_get-get_or}
use Rattle.pon_demand.specs.Sharing.{IsCertified}
use Rattle.pon_state.specs.State.{State, input_of}
use Rattle.pon_state.specs.Entry.{Entry}
use Rattle.pon_state.specs.declared.reply.MadeMap.{MadeMap}
use Rattle.pon_state.specs.declared.reply.Reply.{Reply}
use Rattle.pon_state.specs.declared.reply.Reply.TheVariants.{Taken, Map}
use Rattle.pon_history.specs.Chapters.{Chapter, cut_at}
use Rattle.pon_history.specs.Taking.{IsKept}
use Rattle.pon_look.specs.Whys.{HasNoMap}

module _ (c : Chapter) (k : ℕ) (e : Entry) (s : State) (lt : k < length c.entries) (here : e ≡ get_or c.entries k e) (kept : IsKept (cut_at c k) s) where
  found : slice_get c.entries k ≡ Some e
  found = slice_get-get_or c.entries k e lt ∙ ap Option.Some (sym here)

  not_of : (r other : Reply) (m : MadeMap) → r ≡ Taken → r ≡ Map m → ⊥
  not_of r other m taken map = let w : Taken ≡ Map m = sym taken ∙ map in cc

  pub no_map_here : e.reply ≡ Taken → HasNoMap c k
  no_map_here taken = record {
    entry = e;
    here = found;
    lawful = kept.lawful;
    none = λ m map. absurd (not_of e.reply e.reply m taken map);
  }

  pub other_certificate_here : (m : MadeMap) → e.reply ≡ Map m → (IsCertified (input_of s) m.cert → ⊥) → HasNoMap c k
  other_certificate_here m is none = record {
    entry = e;
    here = found;
    lawful = kept.lawful;
    none = λ other map certified.
        let same : m ≡ other = let w : Map m ≡ Map other = sym is ∙ map in cc in
        none (subst (λ (x : MadeMap). IsCertified (input_of s) x.cert) (sym same) (subst (λ (t : State). IsCertified (input_of t) other.cert) (sym kept.replayed) certified));
  }
