-- An account that is added and removed again.
use Rattle.std.proofs.Common.{◌≡◌, ℕ, ◌<◌, false, List, sym, ◌∙◌}
use Rattle.std.specs.Prelude.{◌==◌, nat_lt}
use Rattle.std.specs.List.{list_any}
use Rattle.pon_lists.proofs.Inserted.{rejoined_at, without_inserted}
use Rattle.pon_lists.proofs.Lists.{list_any-map}
use Rattle.pon_lists.proofs.Order.{in_order-unmap}
use Rattle.pon_guar.specs.declared.account.Account.{Account}
use Rattle.pon_guar.specs.Book.{AreRising, alloc_ids}
use Rattle.pon_guar.specs.Loads.{Loads, after_admitted, after_removed, fresh_account, with_account, without_account}

taken_out : (a : Account) (book : List Account) → AreRising (alloc_ids book) → list_any (λ j. j == a.alloc_id) (alloc_ids book) ≡ false → without_account a.alloc_id (with_account a book) ≡ book
taken_out a book h free =
    without_inserted (λ b. b.alloc_id) (λ b. nat_lt b.alloc_id a.alloc_id) a book
    (rejoined_at a.alloc_id (λ b. b.alloc_id) book (in_order-unmap (λ i j. i < j) (λ b. b.alloc_id) book h))
    (sym (list_any-map (λ j. j == a.alloc_id) (λ b. b.alloc_id) book) ∙ free)

pub undone : (l : Loads) (i since : ℕ) → AreRising (alloc_ids l.accounts) → list_any (λ j. j == i) (alloc_ids l.accounts) ≡ false → after_removed (after_admitted l i since) i ≡ l
undone l i since h free = (λ j. record { accounts = taken_out (fresh_account i since) l.accounts h free j; window = l.window })
