-- A record that is sent in several attempts.
use Rattle.std.proofs.Common.{◌≡◌, ℕ, ◌+◌, ◌-◌, ◌*◌, ◌%◌, ◌^◌, ◌<◌, ◌≤◌, ◌⊎◌, inl, inr, List, [], ◌++◌, Option, length, sym, ap, subst, ◌∙◌, arith, append_assoc, append-nil, length-append}
use Rattle.std.proofs.lemmas.Bool.{cases_lt}
use Rattle.std.proofs.KnownBytes.{Appends-trans}
use Rattle.pon_device.specs.Device.{Appends}
use Rattle.pon_link.proofs.Left.{Sends, none_sent}
use Rattle.pon_worker.specs.Records.{FailsInRow}

-- after a part, more was sent, and this is left
abbrev pub sent_again : (a b c : Option (List ℕ)) (all left rest sent : List ℕ) → Sends a b all left → Appends b c sent → sent ++ rest ≡ left → Sends a c all rest
sent_again a b c all left rest sent far more is = record {
  sent = far.sent ++ sent;
  appends = Appends-trans a b c far.sent sent far.appends more;
  together = append_assoc far.sent sent rest ∙ ap (λ (t : List ℕ). far.sent ++ t) is ∙ far.together;
}

-- nothing is left
pub all_sent : (a b : Option (List ℕ)) (all left : List ℕ) → Sends a b all left → left ≡ [] → Appends a b all
all_sent a b all left far none = subst (λ (t : List ℕ). Appends a b t) (sym (append-nil far.sent) ∙ ap (λ (t : List ℕ). far.sent ++ t) (sym none) ∙ far.together) far.appends

-- attempts that failed, the last `row` of them in a row
pub record Tried (old new : Option (List ℕ)) (all left : List ℕ) (row failures_old failures_new : ℕ) : Type 0 where
  pub sends : Sends old new all left
  pub failed : ℕ
  pub few : row ≤ 3
  pub least : row ≤ failed
  pub most : failed ≤ 3 * length sends.sent + row
  pub counts : failures_new % 2 ^ 64 ≡ (failures_old + failed) % 2 ^ 64
  pub round : 0 < failed → failures_new < 2 ^ 64

pub tried_none : (old : Option (List ℕ)) (all left : List ℕ) (failures : ℕ) → left ≡ all → Tried old old all left 0 failures failures
tried_none old all left failures is = record {
  sends = subst (λ (t : List ℕ). Sends old old all t) (sym is) (none_sent old all);
  failed = 0;
  few = omega arith;
  least = omega arith;
  most = omega arith;
  counts = omega arith;
  round = λ none. absurd (omega (arith, none));
}

-- the number of attempts in a row after one more: 1 if bytes were written before it
abbrev Row : ℕ → ℕ → ℕ → Type 0
Row row next bytes = ((next ≡ 1) × (0 < bytes)) ⊎ (next ≡ row + 1)

row_of : (row next bytes l r : ℕ) → bytes + r ≡ l → (r < l → next ≡ 1) → (l ≤ r → next ≡ row + 1) → Row row next bytes
row_of row next bytes l r size first again = elim (cases_lt r l) [
  | inl less ↦ inl (first less, omega (arith, size, less))
  | inr same ↦ inr (again same)
]

row_least : (row next bytes failed : ℕ) → Row row next bytes → row ≤ failed → next ≤ failed + 1
row_least row next bytes failed (inl e) far = omega (arith, e.0)
row_least row next bytes failed (inr e) far = omega (arith, e, far)

row_most : (row next bytes failed len : ℕ) → Row row next bytes → row < 3 → failed ≤ 3 * len + row → failed + 1 ≤ 3 * (len + bytes) + next
row_most row next bytes failed len (inl e) few far = omega (arith, e.0, e.1, few, far)
row_most row next bytes failed len (inr e) few far = omega (arith, e, few, far)

row_few : (row next bytes : ℕ) → Row row next bytes → row < 3 → next ≤ 3
row_few row next bytes (inl e) few = omega (arith, e.0)
row_few row next bytes (inr e) few = omega (arith, e, few)

row_smaller : (row next bytes l r : ℕ) → bytes + r ≡ l → Row row next bytes → row < 3 → 4 * r + (3 - next) < 4 * l + (3 - row)
row_smaller row next bytes l r size (inl e) few = omega (arith, size, e.0, e.1, few)
row_smaller row next bytes l r size (inr e) few = omega (arith, size, e, few)

-- the bytes that are left are fewer, or as many, and more attempts failed
pub tries_smaller : (left rest sent : List ℕ) (row next : ℕ) → row < 3 → sent ++ rest ≡ left → (length rest < length left → next ≡ 1) → (length left ≤ length rest → next ≡ row + 1)
    → 4 * length rest + (3 - next) < 4 * length left + (3 - row)
tries_smaller left rest sent row next few is first again =
    let size : length sent + length rest ≡ length left = sym (length-append sent rest) ∙ ap (λ (t : List ℕ). length t) is in
    row_smaller row next (length sent) (length left) (length rest) size (row_of row next (length sent) (length left) (length rest) size first again) few

-- one more attempt failed, after these bytes
pub tried_again : (old mid new : Option (List ℕ)) (all left rest sent : List ℕ) (row next f0 f1 f2 : ℕ) → Tried old mid all left row f0 f1 → row < 3 → Appends mid new sent → sent ++ rest ≡ left → f2 ≡ (f1 + 1) % 2 ^ 64
    → (length rest < length left → next ≡ 1) → (length left ≤ length rest → next ≡ row + 1) → Tried old new all rest next f0 f2
tried_again old mid new all left rest sent row next f0 f1 f2 far few more is counts first again =
    let size : length sent + length rest ≡ length left = sym (length-append sent rest) ∙ ap (λ (t : List ℕ). length t) is in
    let in_row = row_of row next (length sent) (length left) (length rest) size first again in
    let sum = length-append far.sends.sent sent in record {
      sends = sent_again old mid new all left rest sent far.sends more is;
      failed = far.failed + 1;
      few = row_few row next (length sent) in_row few;
      least = row_least row next (length sent) far.failed in_row far.least;
      most = omega (arith, row_most row next (length sent) far.failed (length far.sends.sent) in_row few far.most, sum);
      counts = omega (arith, far.counts, counts);
      round = λ some. omega (arith, counts);
    }

-- three failed in a row
pub fails_in_row : (old new : Option (List ℕ)) (all left : List ℕ) (row f0 f1 : ℕ) (far : Tried old new all left row f0 f1) → 3 ≤ row → FailsInRow (length far.sends.sent) f0 f1
fails_in_row old new all left row f0 f1 far three = record {
  failed = far.failed;
  least = omega (arith, far.least, three);
  most = omega (arith, far.most, far.few);
  counts = omega (arith, far.counts, far.round, far.least, three);
}
