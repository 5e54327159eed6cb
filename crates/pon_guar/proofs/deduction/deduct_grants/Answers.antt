use Rattle.std.proofs.Common.{◌≡◌, ◌∙◌, ◌+◌, ◌++◌, ◌∷◌, [], ap, map, refl, rules, set, sym, take}
use Rattle.std.proofs.lemmas.List.{take_more}
use Rattle.pon_guar.proofs.Accounts.{change_absent, change_at, changing}
use Rattle.pon_guar.specs.Loads.{lessened, less_by}
use Rattle.pon_guar.proofs.LessByGrants.{less_more, lessened_none, lessened_rising}
use Rattle.pon_guar.proofs.deduction.deduct_grants.Goals as goal
use Rattle.pon_guar.proofs.deduction.deduct_grants.Goals.{in-Some, in_default}

pub loop-granted-init : goal.loop-granted-init
loop-granted-init c = sym (lessened_none c.args.accounts.now)

pub index_near-found-requires : goal.index_near-found-requires
index_near-found-requires c = rw c.loop-granted.invariant (lessened_rising (take c.loop-granted.granted-index c.args.grants.now) c.args.accounts.now c.requires)

pub loop-granted-preserved : goal.loop-granted-preserved
loop-granted-preserved c =
    let done = take c.loop-granted.granted-index c.args.grants.now in
    let granted = c.granted-item.result in
    let book = c.args.accounts.now in
    let more : take (c.loop-granted.granted-index + 1) c.args.grants.now ≡ done ++ granted ∷ []
    = take_more c.args.grants.now c.loop-granted.granted-index granted (search rules) ∙ ap (λ g. done ++ g ∷ []) (sym c.granted-item.is) in
    let all = less_more done granted book ∙ ap (λ gs. map (lessened gs) book) (sym more) in
    elim c.match-found.branch [
      | in-Some w ↦
          w.accounts-is
          ∙ ap (set c.loop-granted.accounts w.in-Some.place) w.deduct_words.ensures
          ∙ change_at (less_by granted.words) (λ a. refl) granted.alloc_id c.loop-granted.accounts w.in-Some.place _ (rw c.loop-granted.invariant (lessened_rising done book c.requires)) (search rules)
          ∙ ap (changing (less_by granted.words) granted.alloc_id) c.loop-granted.invariant ∙ all
      | in_default w ↦
          w.accounts-is ∙ sym (change_absent (less_by granted.words) granted.alloc_id c.loop-granted.accounts (search rules))
          ∙ ap (changing (less_by granted.words) granted.alloc_id) c.loop-granted.invariant ∙ all
    ]
