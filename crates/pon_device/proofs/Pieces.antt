-- A piece of a list that is copied to the front of another.
use Rattle.std.specs.Prelude.{Option, Some, None}
use Rattle.pon_device.specs.Device.{Appends, Keeps}
use Rattle.std.proofs.Common.{append_assoc, subst, ◌≡◌, ℕ, ◌+◌, ◌-◌, ◌≤◌, List, [], ◌++◌, length, take, drop, ap, sym, ◌∙◌, arith}
use Rattle.std.proofs.lemmas.List.{take-append-drop, drop-drop, drop_all, length-take, length-drop}
use Rattle.std.proofs.Math.Seq.{take-append_seam, take-add, take-length}

pub read_piece : (bs cs ys : List ℕ) (at n : ℕ) → at + n ≤ length bs → cs ≡ take ((at + n) - at) (drop at bs) → drop at bs ≡ take n (cs ++ ys) ++ drop (at + n) bs
read_piece bs cs ys at n l e =
    let size : (at + n) - at ≡ n = omega arith in
    let piece : cs ≡ take n (drop at bs) = e ∙ ap (λ k. take k (drop at bs)) size in
    let long : length cs ≡ n = ap (λ t. length t) piece ∙ (let q : length (take n (drop at bs)) ≡ n = omega (arith, length-take n (drop at bs), length-drop at bs) in q) in
    let front : take n (cs ++ ys) ≡ cs = ap (λ k. take k (cs ++ ys)) (sym long) ∙ take-append_seam cs ys in
    let back : drop n (drop at bs) ≡ drop (at + n) bs = drop-drop n at bs in
    let whole : take n (cs ++ ys) ++ drop (at + n) bs ≡ drop at bs = (λ i. (front ∙ piece) i ++ sym back i) ∙ take-append-drop n (drop at bs) in
    sym whole

pub read_end : (bs : List ℕ) (at n : ℕ) → length bs ≤ at + n → drop (at + n) bs ≡ []
read_end bs at n l = drop_all (at + n) bs l

-- bytes appended one after another
pub appends_more : (old mid new : Option (List ℕ)) (xs ys : List ℕ) → Appends old mid xs → Appends mid new ys → Appends old new (xs ++ ys)
appends_more None mid new xs ys a b = tt
appends_more (Some o) None new xs ys a b = absurd a
appends_more (Some o) (Some m) None xs ys a b = absurd b
appends_more (Some o) (Some m) (Some n) xs ys a b = b ∙ ap (λ t. t ++ ys) a ∙ append_assoc o xs ys

pub appends_kept : (old mid new : Option (List ℕ)) (xs : List ℕ) → Appends old mid xs → Keeps mid new → Appends old new xs
appends_kept None mid new xs a b = tt
appends_kept (Some o) None new xs a b = absurd a
appends_kept (Some o) (Some m) None xs a b = absurd b
appends_kept (Some o) (Some m) (Some n) xs a b = b ∙ a

-- one more piece of a list is written
pub sent_more : (old mid new : Option (List ℕ)) (bs : List ℕ) (at n : ℕ) → Appends old mid (take at bs) → Appends mid new (take n (take (length bs - at) (drop at bs))) → Appends old new (take (at + n) bs)
sent_more old mid new bs at n a b =
    let rest : take (length bs - at) (drop at bs) ≡ drop at bs = ap (λ k. take k (drop at bs)) (sym (length-drop at bs)) ∙ take-length (drop at bs) in
    let piece : Appends mid new (take n (drop at bs)) = subst (λ t. Appends mid new (take n t)) rest b in
    subst (λ t. Appends old new t) (sym (take-add at n bs)) (appends_more old mid new (take at bs) (take n (drop at bs)) a piece)
