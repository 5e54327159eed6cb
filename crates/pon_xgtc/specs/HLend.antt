-- The head of a bandwidth map, HLend of ITU-T G.987.3.
use Rattle.std.specs.Prelude.{ℕ, ◌+◌, ◌*◌, ◌^◌, ◌≤◌, List}
use Rattle.pon_xgtc.specs.Header.{ReadsHeader}

-- N, the number of allocation structures, and P, the number of messages of a map
pub record HLend : Type 0 where
  pub n : ℕ
  pub p : ℕ

-- its payload: N in 11 bits, then P in 8
abbrev pub hlend_payload : HLend → ℕ
hlend_payload h = h.n * 2 ^ 8 + h.p

-- the numbers that fit in 11 bits and in 8
pub record FitsHLend (h : HLend) : Type 0 where
  pub n : h.n ≤ 2047
  pub p : h.p ≤ 255

-- the bytes begin with this head of a map, with this number of corrected bits
pub record ReadsHLend (bytes : List ℕ) (h : HLend) (places : ℕ) : Type 0 where
  pub fits : FitsHLend h
  pub header : ReadsHeader bytes (hlend_payload h) places
