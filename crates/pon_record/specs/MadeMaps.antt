-- A made map: its frame, its bytes as on the line (ITU-T G.987.3, BWmap) with exact header codes and no messages, and
-- the bytes of its certificate.
use Rattle.std.specs.Prelude.{ℕ, zero, suc, ◌/◌, ◌%◌, ◌^◌, ◌&&◌, ◌==◌, nat_le, Bool, true, if◌then◌else◌, List, length, Option, Some, None, is_none}
use Rattle.std.specs.Int.{w32, w64}
use Rattle.std.specs.Result.{result_ok}
use Rattle.pon_units.specs.declared.limits.TheConstants.{MAX_STRUCTURES}
use Rattle.pon_hec.specs.HeaderCode.{sealed}
use Rattle.pon_xgtc.specs.HLend.{hlend_payload}
use Rattle.pon_bwmap.specs.MapBytes.{structure_payload}
use Rattle.pon_bwmap.specs.MapRules.{row_fault}
use Rattle.pon_bwmap.specs.Alloc.{Alloc}
use Rattle.pon_cert.specs.declared.cert.MapCert.{MapCert}
use Rattle.pon_cert.specs.Reading.{cert_at}
use Rattle.pon_cert.specs.Spelling.{cert_bytes}
use Rattle.pon_cert.specs.Texts.{FitsCert}
use Rattle.pon_state.specs.declared.reply.MadeMap.{MadeMap}
use Rattle.pon_record.specs.Format.{Format, ◌&◌, as_value, counted, number, only, told_by}
use Rattle.pon_record.specs.Fields.{frame}

-- the head of a map with n structures and no messages: its codeword
abbrev pub head_code : ℕ → ℕ
head_code n = sealed (hlend_payload (record { n = n; p = 0 }))

abbrev pub head_meaning : ℕ → Option ℕ
head_meaning word = let n = word / 2 ^ 21 in if head_code n == word then Some n else None

abbrev pub head : Format ℕ
head = told_by head_meaning head_code (number w32)

-- the StartTime field: all ones in a structure that continues a series
abbrev pub start_of : ℕ → Option ℕ
start_of field = if field == 0xffff then None else Some field

-- the structure with this payload of 51 bits
abbrev pub structure_of : ℕ → Alloc
structure_of payload = record {
  id = payload / 2 ^ 37;
  dbru = payload / 2 ^ 36 % 2 == 1;
  ploam = payload / 2 ^ 35 % 2 == 1;
  start = start_of (payload / 2 ^ 19 % 2 ^ 16);
  grant = payload / 2 ^ 3 % 2 ^ 16;
  fwi = payload / 2 ^ 2 % 2 == 1;
  profile = payload % 2 ^ 2;
}

-- a structure: its codeword
abbrev pub structure_code : Alloc → ℕ
structure_code a = sealed (structure_payload a)

abbrev pub structure_meaning : ℕ → Option Alloc
structure_meaning word = if sealed (word / 2 ^ 13) == word then Some (structure_of (word / 2 ^ 13)) else None

abbrev pub structure : Format Alloc
structure = told_by structure_meaning structure_code (number w64)

-- none of the first n structures breaks a rule of maps
abbrev pub keeps_rules : List Alloc → ℕ → Bool
keeps_rules rows zero = true
keeps_rules rows (suc k) = keeps_rules rows k && is_none (row_fault rows k)

-- the structures make a map
abbrev pub is_map : List Alloc → Bool
is_map rows = nat_le (length rows) MAX_STRUCTURES && keeps_rules rows (length rows)

abbrev pub map : Format (List Alloc)
map = only is_map (counted head MAX_STRUCTURES structure)

abbrev pub certificate : Format MapCert
certificate = record { Fits = FitsCert; write = cert_bytes; read = λ bytes. result_ok (cert_at bytes) }

abbrev pub made_parts : MadeMap → ℕ × (List Alloc × MapCert)
made_parts m = (m.frame, (m.map, m.cert))

abbrev pub made_of : ℕ × (List Alloc × MapCert) → MadeMap
made_of x = record { frame = x.0; map = x.1.0; cert = x.1.1 }

abbrev pub made_map : Format MadeMap
made_map = told_by (as_value made_of) made_parts (frame & map & certificate)
