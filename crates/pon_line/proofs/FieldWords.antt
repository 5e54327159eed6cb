-- The occupancies that words write.
use Rattle.std.proofs.Common.{◌≡◌, ℕ, ◌+◌, ◌<◌, ◌≤◌, List, [], ◌∷◌, ◌++◌, length, true, false, arith, inl, inr, refl, ap, sym, subst, ◌∙◌, append_assoc}
use Rattle.std.specs.Prelude.{Bool, ◌==◌, ◌||◌, nat_lt, if◌then◌else◌, Option, Result, Ok, Err}
use Rattle.std.proofs.lemmas.Bool.{cases_lt, le-ltb, lt-ltb}
use Rattle.std.proofs.lemmas.List.{append-nil}
use Rattle.pon_units.specs.declared.limits.TheConstants.{MAX_SERIES}
use Rattle.pon_lists.specs.ResultSteps.{◌>>=◌}
use Rattle.pon_line.specs.Commands.{is_miscounted, occupancy_field, occupancy_fields}
use Rattle.pon_line.specs.Parts.{FailsBy}
use Rattle.pon_line.specs.declared.fault.LineRefusal.{LineRefusal}
use Rattle.pon_line.specs.declared.occupancies.NoOccupancies.{NoOccupancies}
use Rattle.pon_line.specs.declared.occupancies.TheConstants.{OCCUPANCY}

-- The occupancies read before, followed by those that the words write, or the refusal of the words.
abbrev pub after_those : List (Option ℕ) → Result (List (Option ℕ)) LineRefusal → Result (List (Option ℕ)) LineRefusal
after_those done (Ok ns) = Ok (done ++ ns)
after_those done (Err refusal) = Err refusal

-- a word that writes an occupancy adds it to those before; a word that writes none ends the reading with its refusal
pub one_more : (done : List (Option ℕ)) (at : ℕ) (w : List ℕ) (ws : List (List ℕ)) (n : Option ℕ) → occupancy_field at w ≡ Ok n → after_those done (occupancy_fields at (w ∷ ws)) ≡ after_those (done ++ n ∷ []) (occupancy_fields (at + 1) ws)
unfolding occupancy_fields
one_more done at w ws n h = ap (λ r. after_those done (r >>= λ n. occupancy_fields (at + 1) ws >>= λ ns. Ok (n ∷ ns))) h ∙ rest (occupancy_fields (at + 1) ws)
  where
    rest : (r : Result (List (Option ℕ)) LineRefusal) → after_those done (r >>= λ ns. Ok (n ∷ ns)) ≡ after_those (done ++ n ∷ []) r
    rest (Ok ns) = ap Ok (sym (append_assoc done (n ∷ []) ns))
    rest (Err refusal) = refl

pub stops_at : (done : List (Option ℕ)) (at : ℕ) (w : List ℕ) (ws : List (List ℕ)) (refusal : LineRefusal) → occupancy_field at w ≡ Err refusal → after_those done (occupancy_fields at (w ∷ ws)) ≡ Err refusal
unfolding occupancy_fields
stops_at done at w ws refusal h = ap (λ r. after_those done (r >>= λ n. occupancy_fields (at + 1) ws >>= λ ns. Ok (n ∷ ns))) h

pub none_before : (r : Result (List (Option ℕ)) LineRefusal) → after_those [] r ≡ r
none_before (Ok ns) = refl
none_before (Err refusal) = refl

pub at_end : (done : List (Option ℕ)) (at : ℕ) → after_those done (occupancy_fields at []) ≡ Ok done
unfolding occupancy_fields
at_end done at = ap Ok (append-nil done)

-- The number of occupancies.

pub too_many : (ws : List (List ℕ)) → MAX_SERIES < length ws → is_miscounted ws ≡ true
too_many ws many = ap (λ b. length ws == 0 || b) (lt-ltb MAX_SERIES (length ws) many) ∙ or_true (length ws == 0)
  where
    or_true : (b : Bool) → (b || true) ≡ true
    or_true true = refl
    or_true false = refl

pub too_few : (ws : List (List ℕ)) → length ws ≡ 0 → is_miscounted ws ≡ true
too_few ws none = ap (λ n. n == 0 || nat_lt MAX_SERIES n) none

pub counted : (ws : List (List ℕ)) → 0 < length ws → length ws ≤ MAX_SERIES → is_miscounted ws ≡ false
counted ws some few =
    let not_none : (length ws == 0) ≡ false = grind (arith, some) in
    ap (λ b. b || nat_lt MAX_SERIES (length ws)) not_none ∙ le-ltb MAX_SERIES (length ws) few

-- why occupancies are refused of which a word writes none: the count comes first
pub faulty : (ws : List (List ℕ)) (refusal : LineRefusal) (n : ℕ) → n ≡ length ws → 0 < n → occupancy_fields OCCUPANCY ws ≡ Err refusal → FailsBy ws (if nat_lt MAX_SERIES n then NoOccupancies.Count else NoOccupancies.Word refusal)
faulty ws refusal n same some bad = elim (cases_lt MAX_SERIES n) [
  | inl many ↦ subst (λ b. FailsBy ws (if b then NoOccupancies.Count else NoOccupancies.Word refusal)) (sym (lt-ltb MAX_SERIES n many)) (too_many ws (omega (arith, many, same)))
  | inr few ↦ subst (λ b. FailsBy ws (if b then NoOccupancies.Count else NoOccupancies.Word refusal)) (sym (le-ltb MAX_SERIES n few)) (counted ws (omega (arith, some, same)) (omega (arith, few, same)), bad)
]
