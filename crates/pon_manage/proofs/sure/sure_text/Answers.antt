use Rattle.std.proofs.Common.{◌≡◌, ◌++◌, ◌∷◌, [], IfOk, List, rules, string_bytes, subst, ℕ}
use Rattle.std.specs.Prelude.{codes}
use Rattle.pon_sure.specs.declared.sure.Sure.{Sure}
use Rattle.pon_manage.specs.Rows.{named, number_or_dash}
use Rattle.pon_manage.specs.Sures.{sure_text}
use Rattle.pon_manage.proofs.sure.sure_text.Goals as goal

-- the text, number by number
same_text : (s : Sure) (alloc id guaranteed : ℕ) (wait : List ℕ) → id ≡ alloc → guaranteed ≡ s.guaranteed → wait ≡ number_or_dash s.wait →
    named (codes "sure alloc ") id (named (codes " guaranteed ") guaranteed (named (codes " surplus ") s.surplus (codes " wait " ++ (wait ++ 10 ∷ [])))) ≡ sure_text alloc s
same_text s alloc id guaranteed wait a g w =
    λ i. named (codes "sure alloc ") (a i) (named (codes " guaranteed ") (g i) (named (codes " surplus ") s.surplus (codes " wait " ++ (w i ++ 10 ∷ []))))

pub returns : goal.returns
returns c =
    subst (λ bs. IfOk c.format.result (λ line. string_bytes line ≡ bs))
    (same_text c.args.sure.now c.args.alloc_id c.get-alloc_id.result c.get-guaranteed.result (string_bytes c.in_ok-wait.wait) (search rules) (search rules) (search rules)) c.format.ensures.ok
