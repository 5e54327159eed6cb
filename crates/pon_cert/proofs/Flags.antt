-- Flags read from bytes, all at once.
use Rattle.std.proofs.Common.{◌≡◌, ℕ, zero, suc, ◌<◌, ◌≤◌, ◌==◌, Bool, true, false, List, [], ◌∷◌, length, take, drop, refl, sym, ap, ◌∙◌, arith}
use Rattle.std.specs.Prelude.{nat_lt, map, Ok, Err, ◌&&◌, min}
use Rattle.std.proofs.lemmas.Bool.{and_parts}
use Rattle.std.proofs.lemmas.List.{drop_min, length-take, take_all, take_min}
use Rattle.std.specs.List.{list_all}
use Rattle.std.specs.Int.{w8}
use Rattle.std.proofs.lemmas.Grind.{common_steps}
use Rattle.pon_cert.specs.declared.cert.CertReadFault.TheVariants.{Short, Form}
use Rattle.pon_cert.specs.Reading.{number_at, flags_at}

pub byte_at : (b : ℕ) (bs : List ℕ) → number_at w8 (b ∷ bs) ≡ Ok (b, bs)
byte_at b bs = grind (arith, common_steps)

flags_whole : (n : ℕ) (bs : List ℕ) → n ≤ length bs → list_all (λ b. nat_lt b 2) (take n bs) ≡ true → flags_at n bs ≡ Ok (map (λ b. b == 1) (take n bs), drop n bs)
unfolding flags_at
flags_whole zero bs l h = refl
flags_whole (suc n) [] l h = absurd (omega arith)
flags_whole (suc n) (b ∷ bs) l h =
    let both = and_parts (nat_lt b 2) (list_all (λ x. nat_lt x 2) (take n bs)) h in
    rw (byte_at b bs, both.0, flags_whole n bs (omega arith) both.1) refl

form_step : (n b : ℕ) (bs : List ℕ) (v w : Bool) → nat_lt b 2 ≡ v → (w ≡ false → flags_at n bs ≡ Err Form) → (v && w) ≡ false → flags_at (suc n) (b ∷ bs) ≡ Err Form
unfolding flags_at
form_step n b bs true w e more h = rw (byte_at b bs, e, more h) refl
form_step n b bs false w e more h = rw (byte_at b bs, e) refl

flags_form : (n : ℕ) (bs : List ℕ) → list_all (λ b. nat_lt b 2) (take n bs) ≡ false → flags_at n bs ≡ Err Form
flags_form zero bs h = cc
flags_form (suc n) [] h = cc
flags_form (suc n) (b ∷ bs) h = form_step n b bs (nat_lt b 2) (list_all (λ x. nat_lt x 2) (take n bs)) refl (flags_form n bs) h

flags_short : (n : ℕ) (bs : List ℕ) → length bs < n → list_all (λ b. nat_lt b 2) bs ≡ true → flags_at n bs ≡ Err Short
unfolding flags_at
flags_short zero bs l h = absurd (omega arith)
flags_short (suc n) [] l h = refl
flags_short (suc n) (b ∷ bs) l h =
    let both = and_parts (nat_lt b 2) (list_all (λ x. nat_lt x 2) bs) h in
    rw (byte_at b bs, both.0, flags_short n bs (omega arith) both.1) refl

-- only the bytes that are present, at most n, matter
front_is : (k n : ℕ) (bs front : List ℕ) → k ≡ min n (length bs) → front ≡ take k bs → front ≡ take n bs
front_is k n bs front e f = f ∙ ap (λ (m : ℕ). take m bs) e ∙ take_min n bs

pub reads_no_flag : (k n : ℕ) (bs front : List ℕ) → k ≡ min n (length bs) → front ≡ take k bs → list_all (λ b. nat_lt b 2) front ≡ false → flags_at n bs ≡ Err Form
reads_no_flag k n bs front e f h = flags_form n bs (ap (list_all (λ (b : ℕ). nat_lt b 2)) (sym (front_is k n bs front e f)) ∙ h)

pub reads_short : (k n : ℕ) (bs front : List ℕ) → k ≡ min n (length bs) → front ≡ take k bs → length front < n → list_all (λ b. nat_lt b 2) front ≡ true → flags_at n bs ≡ Err Short
reads_short k n bs front e f l h =
    let same : front ≡ take n bs = front_is k n bs front e f in
    let short : length bs < n = omega (arith, ap length same, length-take n bs) in
    flags_short n bs short (ap (list_all (λ (b : ℕ). nat_lt b 2)) (sym (same ∙ take_all n bs (omega arith))) ∙ h)

pub reads_whole : (k n : ℕ) (bs front back : List ℕ) → k ≡ min n (length bs) → front ≡ take k bs → back ≡ drop k bs → n ≤ length front → list_all (λ b. nat_lt b 2) front ≡ true →
    flags_at n bs ≡ Ok (map (λ b. b == 1) front, back)
reads_whole k n bs front back e f g l h =
    let same : front ≡ take n bs = front_is k n bs front e f in
    let rest : back ≡ drop n bs = g ∙ ap (λ (m : ℕ). drop m bs) e ∙ drop_min n bs in
    rw (same, rest) (flags_whole n bs (omega (arith, ap length same, length-take n bs)) (rw same at h))
