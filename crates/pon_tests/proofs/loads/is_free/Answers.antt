use Rattle.std.proofs.Common.{◌≡◌, ◌||◌, ℕ, List, [], ◌∷◌, true, false, cond, refl, rules}
use Rattle.std.specs.Prelude.{◌==◌, Some, None}
use Rattle.std.specs.List.{list_any}
use Rattle.pon_guar.specs.declared.account.Account.{Account}
use Rattle.pon_guar.specs.Book.{account_of, alloc_ids}
use Rattle.pon_tests.proofs.loads.is_free.Goals as goal

-- no account has an Alloc-ID that is not found
none_there : (i : ℕ) (book : List Account) → account_of book i ≡ None → list_any (λ j. j == i) (alloc_ids book) ≡ false
none_there i [] h = refl
none_there i (a ∷ book) h = (elim (a.alloc_id == i) as (λ b. (cond b (Some a) (account_of book i)) ≡ None → (b || list_any (λ j. j == i) (alloc_ids book)) ≡ false) [
  | true ↦ λ h. absurd cc
  | false ↦ λ h. none_there i book h
]) h

pub returns : goal.returns
returns c = λ free. none_there c.args.alloc_id c.args.loads.now.accounts (search rules)
