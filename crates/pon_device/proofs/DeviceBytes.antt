-- The bytes that a device gave and took in two steps.
use Rattle.std.proofs.Common.{ℕ, List, [], ◌++◌, refl, ap, sym, ◌∙◌, append_assoc}
use Rattle.std.specs.Prelude.{Option, Some, None}
use Rattle.std.proofs.lemmas.List.{append-nil}
use Rattle.pon_device.specs.Device.{Appends, Consumes, Keeps}

pub consumes_none : (l : Option (List ℕ)) → Consumes l l []
consumes_none None = tt
consumes_none (Some xs) = refl

pub appends_none : (h : Option (List ℕ)) → Appends h h []
appends_none None = tt
appends_none (Some xs) = sym (append-nil xs)

pub consumes_more : (old mid new : Option (List ℕ)) (xs ys : List ℕ) → Consumes old mid xs → Consumes mid new ys → Consumes old new (xs ++ ys)
consumes_more None mid new xs ys a b = tt
consumes_more (Some o) None new xs ys a b = absurd a
consumes_more (Some o) (Some m) None xs ys a b = absurd b
consumes_more (Some o) (Some m) (Some n) xs ys a b = a ∙ ap (λ t. xs ++ t) b ∙ sym (append_assoc xs ys n)

pub consumes_kept : (old mid new : Option (List ℕ)) (xs : List ℕ) → Consumes old mid xs → Keeps mid new → Consumes old new xs
consumes_kept None mid new xs a b = tt
consumes_kept (Some o) None new xs a b = absurd a
consumes_kept (Some o) (Some m) None xs a b = absurd b
consumes_kept (Some o) (Some m) (Some n) xs a b = a ∙ ap (λ t. xs ++ t) (sym b)

pub keeps_itself : (o : Option (List ℕ)) → Keeps o o
keeps_itself None = tt
keeps_itself (Some x) = refl
