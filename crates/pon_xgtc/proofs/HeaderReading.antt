-- An encoded header decodes to the same header, and bytes with a reading have no fault.
use Rattle.std.proofs.Common.{◌≡◌, ℕ, ◌+◌, ◌-◌, ◌*◌, ◌/◌, ◌%◌, ◌^◌, ◌<◌, List, ◌++◌, bit_and, Result, Ok, IfOk, refl, ap, sym, ◌∙◌, subst, arith}
use Rattle.std.specs.Int.{w32, from_be_bytes}
use Rattle.std.proofs.lemmas.Nat.{from_be_bytes-to_be_bytes_4, and_mask, shr_high, mod_low}
use Rattle.pon_hec.specs.HeaderCode.{Reads, sealed}
use Rattle.pon_hec.proofs.HeaderLaws.{sealed_codeword}
use Rattle.pon_hec.proofs.Opening.{reads_none}
use Rattle.pon_hec.proofs.Unique.{one_reading}
use Rattle.pon_xgtc.specs.Header.{header_bytes, ReadsHeader, IsHeaderFault}
use Rattle.pon_xgtc.specs.HLend.{HLend, FitsHLend, hlend_payload}
use Rattle.pon_xgtc.specs.BurstHead.{BurstHead, FitsBurstHead, burst_head_payload}
use Rattle.pon_xgtc.specs.declared.fault.HeadFault.{HeadFault}
use Rattle.pon_xgtc.specs.declared.fault.HeadFault.TheVariants.{Short, Hec}

-- the payload of a reading has 19 bits
pub payload_small : (bytes : List ℕ) (m k : ℕ) → ReadsHeader bytes m k → m < 2 ^ 19
payload_small bytes m k r = omega (arith, r.word.has_payload, r.word.is_codeword.below)

-- an encoded header reads back
pub header_reads : (m : ℕ) (rest : List ℕ) → m < 2 ^ 19 → ReadsHeader (header_bytes m ++ rest) m 0
header_reads m rest lt =
    let code = sealed_codeword (2 ^ 32) m (omega (arith, lt)) (omega (arith, lt)) in
    let word : from_be_bytes w32 (header_bytes m ++ rest) ≡ sealed m = from_be_bytes-to_be_bytes_4 (sealed m) code.0.below in
    let read : Reads (2 ^ 32) (sealed m) m 0 = subst (λ (p : ℕ). Reads (2 ^ 32) (sealed m) p 0) code.1 (reads_none 32 (sealed m) code.0) in
    record { whole = omega arith; word = subst (λ (w : ℕ). Reads (2 ^ 32) w m 0) (sym word) read }

-- bytes with a reading have no fault
pub no_fault : (bytes : List ℕ) (fault : HeadFault) (m k : ℕ) → ReadsHeader bytes m k → IsHeaderFault bytes fault → ⊥
no_fault bytes Short m k r short = omega (arith, r.whole, short)
no_fault bytes Hec m k r hec = hec.1 m k r.word

-- bytes have at most one reading
pub one_header : (bytes : List ℕ) (m k n l : ℕ) → from_be_bytes w32 bytes < 2 ^ 32 → ReadsHeader bytes m k → ReadsHeader bytes n l → (m ≡ n) × (k ≡ l)
one_header bytes m k n l lt r s = one_reading (2 ^ 32) (from_be_bytes w32 bytes) m k n l (omega arith) lt r.word s.word

-- decoding an encoded header returns it
pub written_opens : (bytes : List ℕ) (opened : ℕ × ℕ) → from_be_bytes w32 bytes < 2 ^ 32 → ReadsHeader bytes opened.0 opened.1
    → (m : ℕ) (rest : List ℕ) → m < 2 ^ 19 → bytes ≡ header_bytes m ++ rest → opened ≡ (m, 0)
written_opens bytes opened lt r m rest small is =
    let one = one_header bytes opened.0 opened.1 m 0 lt r (subst (λ (bs : List ℕ). ReadsHeader bs m 0) (sym is) (header_reads m rest small)) in
    λ i. (one.0 i, one.1 i)

pub written_has_no_fault : (bytes : List ℕ) (fault : HeadFault) → IsHeaderFault bytes fault → (m : ℕ) (rest : List ℕ) → m < 2 ^ 19 → bytes ≡ header_bytes m ++ rest → ⊥
written_has_no_fault bytes fault f m rest small is = no_fault bytes fault m 0 (subst (λ (bs : List ℕ). ReadsHeader bs m 0) (sym is) (header_reads m rest small)) f

-- the parts of a decoded header
opened_parts : (a b m n : ℕ) (r : Result (ℕ × ℕ) HeadFault) → r ≡ Ok (a, b) → r ≡ Ok (m, n) → (a ≡ m) × (b ≡ n)
opened_parts a b m n r is written =
    let P : Result (ℕ × ℕ) HeadFault → Type 0 = λ o. IfOk o (λ p. (p.0 ≡ m) × (p.1 ≡ n)) in subst P (sym written ∙ is) (refl, refl)

-- the high part and the low bits of a payload
parts_of : (k payload high low : ℕ) → payload ≡ high * 2 ^ k + low → low < 2 ^ k → (payload / 2 ^ k ≡ high) × (bit_and payload (2 ^ k - 1) ≡ low)
parts_of k payload high low e lt = (ap (λ n. n / 2 ^ k) e ∙ shr_high high k low lt, and_mask payload k ∙ ap (λ n. n % 2 ^ k) e ∙ mod_low high k low lt)

-- an encoded head of a map decodes to the same head
pub map_head_opened : (payload places : ℕ) (h : HLend) (r : Result (ℕ × ℕ) HeadFault) → FitsHLend h → r ≡ Ok (payload, places) → r ≡ Ok (hlend_payload h, 0)
    → (payload / 2 ^ 8 ≡ h.n) × (bit_and payload (2 ^ 8 - 1) ≡ h.p) × (places ≡ 0)
map_head_opened payload places h r fits is written =
    let opened = opened_parts payload places (hlend_payload h) 0 r is written in
    let parts = parts_of 8 payload h.n h.p opened.0 (omega (arith, fits.p)) in
    (parts.0, parts.1, opened.1)

pub burst_head_opened : (payload places : ℕ) (h : BurstHead) (r : Result (ℕ × ℕ) HeadFault) → FitsBurstHead h → r ≡ Ok (payload, places) → r ≡ Ok (burst_head_payload h, 0)
    → (payload / 2 ^ 9 ≡ h.onu_raw) × (bit_and payload (2 ^ 9 - 1) ≡ h.ind) × (places ≡ 0)
burst_head_opened payload places h r fits is written =
    let opened = opened_parts payload places (burst_head_payload h) 0 r is written in
    let parts = parts_of 9 payload h.onu_raw h.ind opened.0 (omega (arith, fits.ind)) in
    (parts.0, parts.1, opened.1)
