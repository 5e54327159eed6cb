-- The number of reads, modulo 2 ^ 64.
use Rattle.std.proofs.Common.{◌≡◌, ℕ, zero, suc, ◌+◌, ◌%◌, ◌^◌, arith, sym, ap, ◌∙◌, add-one}
use Rattle.std.proofs.Math.Nat.{add-mod, mod-mod}

-- the count after n reads; before the first read it is only known to be unchanged
abbrev pub AfterReads : ℕ → ℕ → ℕ → Type 0
AfterReads zero old new = new ≡ old
AfterReads (suc n) old new = new ≡ (old + suc n) % 2 ^ 64

one_more : (a m : ℕ) → (a % m + 1) % m ≡ (a + 1) % m
one_more a m = add-mod (a % m) 1 m ∙ ap (λ r. (r + 1 % m) % m) (mod-mod a m) ∙ sym (add-mod a 1 m)

suc_read : (n old mid new : ℕ) → AfterReads n old mid → new ≡ (mid + 1) % 2 ^ 64 → AfterReads (suc n) old new
suc_read zero old mid new a c = c ∙ ap (λ k. (k + 1) % 2 ^ 64) a
suc_read (suc n) old mid new a c = c ∙ ap (λ k. (k + 1) % 2 ^ 64) a ∙ one_more (old + suc n) (2 ^ 64) ∙ ap (λ k. k % 2 ^ 64) (let e : old + suc n + 1 ≡ old + suc (suc n) = omega arith in e)

-- one more read
pub read_more : (n old mid new : ℕ) → AfterReads n old mid → new ≡ (mid + 1) % 2 ^ 64 → AfterReads (n + 1) old new
read_more n old mid new a c = rw add-one (suc_read n old mid new a c)
