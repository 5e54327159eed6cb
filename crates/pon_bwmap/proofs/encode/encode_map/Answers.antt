use Rattle.std.proofs.Common.{◌≡◌, ◌+◌, ◌*◌, List, ℕ, ◌++◌, length, take, drop, sym, subst, All, arith}
use Rattle.std.proofs.lemmas.Grind.{common_steps}
use Rattle.pon_bwmap.specs.Alloc.{Alloc}
use Rattle.pon_bwmap.specs.MapBytes.{map_bytes}
use Rattle.pon_bwmap.specs.MapRules.{IsMap}
use Rattle.pon_bwmap.specs.MapReading.{FitsStructure, ReadsMap}
use Rattle.pon_bwmap.proofs.ReadsBack.{reads_back}
use Rattle.pon_bwmap.proofs.encode.encode_map.Goals as goal

pub returns-clause-reads_back : goal.returns-clause-reads_back
returns-clause-reads_back c rest =
    let written = take c.in_ok-bytes.bytes.len (c.write_map.new.room ++ drop (length c.write_map.new.room) c.in_ok-bytes.bytes.items) in
    let is : written ≡ map_bytes c.args.map.now = grind (arith, common_steps) in
    let map : IsMap c.args.map.now = subst IsMap c.rows.ensures.rows c.rows.ensures.map in
    let fits : All FitsStructure c.args.map.now = subst (λ (rs : List Alloc). All FitsStructure rs) c.rows.ensures.rows c.rows.ensures.fits in
    subst (λ (bytes : List ℕ). ReadsMap (bytes ++ rest) c.args.map.now 0 (4 + 8 * length c.args.map.now)) (sym is) (reads_back c.args.map.now rest map fits)
