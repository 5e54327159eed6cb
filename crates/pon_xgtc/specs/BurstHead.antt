-- The header of an upstream burst (ITU-T G.987.3).
use Rattle.std.specs.Prelude.{ℕ, ◌+◌, ◌*◌, ◌^◌, ◌≤◌, List}
use Rattle.pon_xgtc.specs.Header.{ReadsHeader}

-- the ONU-ID, as on the line, and the indications (Ind) of the ONU that sends the burst
pub record BurstHead : Type 0 where
  pub onu_raw : ℕ
  pub ind : ℕ

-- its payload: the ONU-ID in 10 bits, then the indications in 9
abbrev pub burst_head_payload : BurstHead → ℕ
burst_head_payload h = h.onu_raw * 2 ^ 9 + h.ind

-- the numbers that fit in 10 bits and in 9
pub record FitsBurstHead (h : BurstHead) : Type 0 where
  pub onu_raw : h.onu_raw ≤ 1023
  pub ind : h.ind ≤ 511

-- the bytes begin with this header of a burst, with this number of corrected bits
pub record ReadsBurstHead (bytes : List ℕ) (h : BurstHead) (places : ℕ) : Type 0 where
  pub fits : FitsBurstHead h
  pub header : ReadsHeader bytes (burst_head_payload h) places
