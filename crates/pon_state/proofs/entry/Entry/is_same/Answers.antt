use Rattle.std.proofs.Common.{◌≡◌, ◌∙◌, ap, sym}
use Rattle.pon_admit.proofs.Equality.{events_decide}
use Rattle.pon_state.specs.Entry.{Entry}
use Rattle.pon_state.specs.KeptEntries.{kept_as}
use Rattle.pon_state.specs.declared.entry.Kept.TheVariants.{Taken, Map}
use Rattle.pon_state.specs.declared.reply.Reply.TheVariants as reply
use Rattle.pon_state.proofs.Equality.{made_maps_decide}
use Rattle.pon_state.proofs.entry.Entry.is_same.Goals as goal

pub returns-in-Taken-Taken : goal.returns-in-Taken-Taken
returns-in-Taken-Taken c =
    let same = events_decide c.in-Taken-Taken.event c.in-Taken-Taken.other in
    let self : kept_as (Taken c.in-Taken-Taken.event) ≡ c.args.self.now = ap kept_as (sym c.in-Taken-Taken.is-0) ∙ c.self.view_is in
    let other : kept_as (Taken c.in-Taken-Taken.other) ≡ c.args.other.now = ap kept_as (sym c.in-Taken-Taken.is-1) ∙ c.other.view_is in (
      λ t. sym self ∙ ap (λ e. kept_as (Taken e)) (same.0 (sym c.eq.ensures ∙ t)) ∙ other,
      λ e. c.eq.ensures ∙ same.1 (ap (λ (x : Entry). x.event) (self ∙ e ∙ sym other)),
    )

pub returns-in-Map-Map : goal.returns-in-Map-Map
returns-in-Map-Map c =
    let made = c.in-Map-Map.made in
    let more = c.in-Map-Map.other in
    let same = made_maps_decide made more in
    let self : kept_as (Map made) ≡ c.args.self.now = ap kept_as (sym c.in-Map-Map.is-0) ∙ c.self.view_is in
    let other : kept_as (Map more) ≡ c.args.other.now = ap kept_as (sym c.in-Map-Map.is-1) ∙ c.other.view_is in (
      λ t. sym self ∙ ap (λ m. kept_as (Map m)) (same.0 (sym c.eq-in-Map-Map.ensures ∙ t)) ∙ other,
      λ e.
          let replies : reply.Map made ≡ reply.Map more = ap (λ (x : Entry). x.reply) (self ∙ e ∙ sym other) in
          c.eq-in-Map-Map.ensures ∙ same.1 cc,
    )
