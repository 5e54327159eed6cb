use Rattle.std.proofs.Common.{◌≡◌, ◌<◌, ◌+◌, ◌-◌, ◌∙◌, ap, arith, drop, false, length, rules, subst, sym, true}
use Rattle.std.specs.Option.{is_some}
use Rattle.pon_guar.specs.Book.{account_of}
use Rattle.pon_guar.specs.Parts.{AreApart, book_from}
use Rattle.pon_guar.specs.Loads.{with_account}
use Rattle.pon_guar.proofs.RestoredParts.{apart_more, apart_not, book_more, book_rises, looked_up_none, looked_up_some}
use Rattle.pon_guar.proofs.parts.in_ascending_order.Goals as goal

pub index_of-requires : goal.index_of-requires
index_of-requires c =
    let is : c.deref.result.now ≡ book_from (drop c.loop-place.place c.args.accounts.now) = search rules in
    rw is (book_rises (drop c.loop-place.place c.args.accounts.now) c.loop-place.invariant.1)

pub returns-then-is_some : goal.returns-then-is_some
returns-then-is_some c =
    let accounts = c.args.accounts.now in
    let n = c.loop-place.place - 1 in
    let next : c.loop-place.place ≡ n + 1 = omega arith in
    let is : c.deref.result.now ≡ book_from (drop (n + 1) accounts) = subst (λ k. c.deref.result.now ≡ book_from (drop k accounts)) next (search rules) in
    let there : is_some c.index_of.result ≡ true = search rules in
    let some = looked_up_some c.deref.result.now c.index-accounts-place.result.alloc_id c.index_of.result there c.index_of.ensures in
    apart_not accounts n c.index-accounts-place.result (omega arith) (search rules) some.0
    (ap (λ book. account_of book c.index-accounts-place.result.alloc_id) (sym is) ∙ some.1)

pub add_account-requires-clause-rising : goal.add_account-requires-clause-rising
add_account-requires-clause-rising c =
    let is : c.reserve.new.self.items ≡ book_from (drop c.loop-place.place c.args.accounts.now) = search rules in
    rw is (book_rises (drop c.loop-place.place c.args.accounts.now) c.loop-place.invariant.1)

pub loop-place-preserved : goal.loop-place-preserved
loop-place-preserved c =
    let accounts = c.args.accounts.now in
    let account = c.index-accounts-place.result in
    let n = c.loop-place.place - 1 in
    let next : c.loop-place.place ≡ n + 1 = omega arith in
    let lt : n < length accounts = omega arith in
    let here = c.index-accounts-place.is in
    let is : c.deref.result.now ≡ book_from (drop (n + 1) accounts) = subst (λ k. c.deref.result.now ≡ book_from (drop k accounts)) next (search rules) in
    let kept : c.reserve.new.self.items ≡ book_from (drop (n + 1) accounts) = subst (λ k. c.reserve.new.self.items ≡ book_from (drop k accounts)) next (search rules) in
    let absent : is_some c.index_of.result ≡ false = search rules in
    let none = looked_up_none c.deref.result.now account.alloc_id c.index_of.result absent c.index_of.ensures in (
      omega arith,
      apart_more accounts n account lt here (subst (λ k. AreApart (drop k accounts)) next c.loop-place.invariant.1) (ap (λ book. account_of book account.alloc_id) (sym is) ∙ none),
      c.add_account.ensures ∙ ap (with_account account) kept ∙ sym (book_more accounts n account lt here),
    )
