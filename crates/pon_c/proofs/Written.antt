-- A loop that writes a value for each element of one list over another.
use Rattle.std.proofs.Common.{◌≡◌, ℕ, ◌+◌, ◌<◌, ◌≤◌, List, [], ◌∷◌, ◌++◌, length, get_or, set, map, take, drop, ap, sym, ◌∙◌, append_assoc, arith}
use Rattle.std.proofs.lemmas.List.{drop_more, length-map, length-take, map_more, set_at}

pub write_over_more : {X Y : Type 0} (f : X → Y) (xs : List X) (ys zs : List Y) (i : ℕ) (x : X) → i < length xs → length xs ≤ length zs → ys ≡ map f (take i xs) ++ drop i zs → x ≡ get_or xs i x → set ys i (f x) ≡ map f (take (i + 1) xs) ++ drop (i + 1) zs
write_over_more f xs ys zs i x lt room h is =
    let front = map f (take i xs) in
    let long : length front ≡ i = length-map (take i xs) f ∙ omega (arith, length-take i xs) in
    let more : i < length zs = omega (arith, lt, room) in
    let parts : ys ≡ front ++ get_or zs i (f x) ∷ drop (i + 1) zs = h ∙ ap (λ l. front ++ l) (drop_more zs i (f x) more) in
    ap (λ l. set l i (f x)) parts ∙ set_at front _ _ (f x) i long ∙ sym (append_assoc front (f x ∷ []) _)
    ∙ ap (λ l. l ++ drop (i + 1) zs) (ap (λ y. front ++ f y ∷ []) is ∙ sym (map_more f xs i x lt))
