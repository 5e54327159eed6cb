-- The last map of entries with one more.
use Rattle.std.proofs.Common.{◌≡◌, ℕ, ◌+◌, ◌<◌, Bool, true, false, List, [], ◌∷◌, ◌++◌, length, take, get_or, ap, sym, ◌∙◌, arith}
use Rattle.std.specs.Prelude.{if◌then◌else◌, Some, None}
use Rattle.std.proofs.lemmas.List.{length-take-le, take_more}
use Rattle.pon_state.specs.Entry.{Entry}
use Rattle.pon_state.specs.Maps.{makes_map}
use Rattle.pon_why.specs.Lasts.{last_place, or_first}

push : (es : List Entry) (e : Entry) (b : Bool) → makes_map e.event ≡ b → last_place (es ++ e ∷ []) ≡ (if b then Some (length es) else last_place es)
push [] e true h = ap (or_first None) h
push [] e false h = ap (or_first None) h
push (x ∷ es) e true h = ap (λ o. or_first o (makes_map x.event)) (push es e true h) ∙ ap Some (omega arith)
push (x ∷ es) e false h = ap (λ o. or_first o (makes_map x.event)) (push es e false h)

pub one_more : (es : List Entry) (i : ℕ) (e : Entry) (b : Bool) → i < length es → e ≡ get_or es i e → makes_map e.event ≡ b → last_place (take (i + 1) es) ≡ (if b then Some i else last_place (take i es))
one_more es i e b lt here h =
    let entries : take (i + 1) es ≡ take i es ++ e ∷ [] = take_more es i e lt ∙ ap (λ x. take i es ++ x ∷ []) (sym here) in
    ap last_place entries ∙ push (take i es) e b h ∙ ap (λ n. if b then Some n else last_place (take i es)) (length-take-le i es (omega (arith, lt)))
